use Rattle.std.proofs.Common.{ℕ, List, map, take}
use Rattle.type_check.specs.Judged.{Scope, judge_expr}
use Rattle.type_check.specs.Standing.{IsScope, AreParts}
use Rattle.type_check.proofs.expressions.+expressions.Given as goal

abbrev pub invariant-exprs-loop-e : goal.invariant-exprs-loop-e
invariant-exprs-loop-e l = (names : List (List ℕ)) (s : Scope) → IsScope names s l.scope → AreParts names l.scope.closed l.fn.order l.order (map (judge_expr s) (take l.e-index l.all)) l.parts.items
