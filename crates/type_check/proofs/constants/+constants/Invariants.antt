use Rattle.std.proofs.Common.{ℕ, List, map, take}
use Rattle.type_check.specs.Judged.{Scope, judge_const}
use Rattle.type_check.specs.Standing.{IsScope, AreParts}
use Rattle.type_check.proofs.constants.+constants.Given as goal

abbrev pub invariant-constants-loop-form : goal.invariant-constants-loop-form
invariant-constants-loop-form l = (names : List (List ℕ)) (s : Scope) → IsScope names s l.scope → AreParts names l.scope.closed l.fn.order l.order (map (judge_const s) (take l.form-index l.forms)) l.parts.items
