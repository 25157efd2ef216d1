use Rattle.std.proofs.Common.{◌≡◌, ℕ, List, map, take}
use Rattle.spec_text.specs.declared.surface.FieldForm.{FieldForm}
use Rattle.type_check.specs.declared.known.Known.{Known}
use Rattle.type_check.specs.NamedType.{NamedType, Declarations}
use Rattle.type_check.specs.TypeOrder.{field_of}
use Rattle.type_check.specs.Standing.{IsDistinct, AllMean, AreMembers}
use Rattle.type_check.specs.Listed.{AreNumbers}
use Rattle.type_check.proofs.list.fields_of.Given as goal

abbrev pub invariant-loop-member : goal.invariant-loop-member
invariant-loop-member l = (names : List (List ℕ)) (placed : List Known) (order : List NamedType) (before : Declarations) (forms : List FieldForm) → IsDistinct names → AreNumbers placed l.numbers.by_type.entries l.numbers.count → AllMean names placed order → AreMembers names before forms l.members
    → l.fields.items ≡ map (field_of order before) (take l.member-index forms)
