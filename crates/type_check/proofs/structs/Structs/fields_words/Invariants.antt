use Rattle.std.proofs.Common.{◌≡◌, ◌+◌, ℕ, List, map, drop, sum}
use Rattle.spec_text.specs.declared.surface.FieldForm.{FieldForm}
use Rattle.type_check.specs.NamedType.{Declarations, form_words, struct_words}
use Rattle.type_check.specs.Untyped.{struct_width}
use Rattle.type_check.specs.Standing.{capped}
use Rattle.type_check.specs.Table.{IsTable}
use Rattle.type_check.proofs.structs.Structs.fields_words.Given as goal

abbrev pub invariant-loop-field : goal.invariant-loop-field
invariant-loop-field l = (names : List (List ℕ)) (ds : Declarations) → IsTable names ds l.self →
    capped (l.words + sum (map (λ (f : FieldForm). form_words (struct_words ds) f.ty) (drop l.field-index l.fields))) ≡ capped (struct_width ds l.fields)
