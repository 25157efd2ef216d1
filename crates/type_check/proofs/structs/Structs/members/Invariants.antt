use Rattle.std.proofs.Common.{ℕ, List, take}
use Rattle.type_check.specs.NamedType.{Declarations}
use Rattle.type_check.specs.Standing.{AreMembers}
use Rattle.type_check.specs.Table.{IsTable}
use Rattle.type_check.proofs.structs.Structs.members.Given as goal

abbrev pub invariant-loop-field : goal.invariant-loop-field
invariant-loop-field l = (names : List (List ℕ)) (ds : Declarations) → IsTable names ds l.self → AreMembers names ds (take l.field-index l.fields) l.members.items
