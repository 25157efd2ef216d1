use Rattle.std.proofs.Common.{◌≡◌, map, take}
use Rattle.std.specs.List.{sum_by}
use Rattle.c99_ast.specs.Bound.{up_to_bound}
use Rattle.c99_tree.specs.Tree.{statement}
use Rattle.c99_tree.specs.Weight.{statement_weight}
use Rattle.c99_ast.proofs.weight.unit_weight.Given as goal

abbrev pub invariant-loop-s : goal.invariant-loop-s
invariant-loop-s l = l.total ≡ up_to_bound (sum_by statement_weight (map statement (take l.s-index l.fn.unit.step)))
