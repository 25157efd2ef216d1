use Rattle.std.proofs.Common.{◌≡◌, true, ℕ, List, take}
use Rattle.std.specs.Prelude.{is_some}
use Rattle.std.specs.List.{list_all}
use Rattle.type_check.specs.NamedType.{Declarations}
use Rattle.type_check.specs.Untyped.{judge_fields}
use Rattle.type_check.specs.Standing.{IsDistinct, AreFirst, AreParts}
use Rattle.type_check.proofs.declarations.fields.Given as goal

abbrev pub invariant-loop-field : goal.invariant-loop-field
invariant-loop-field l = ((names : List (List ℕ)) (before : Declarations) → IsDistinct names → AreFirst names before l.scope.structs l.scope.closed → AreParts names l.scope.closed l.fn.order l.order (judge_fields before (take l.field-index l.fields)) l.parts.items) × (list_all is_some l.parts.items ≡ true)
