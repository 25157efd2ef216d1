use Rattle.std.proofs.Common.{◌≡◌, ◌+◌, ◌≤◌, map, drop}
use Rattle.c99_ast.specs.Bound.{up_to_bound}
use Rattle.c99_tree.specs.Tree.{tree, exprs}
use Rattle.c99_tree.specs.Weight.{weights}
use Rattle.c99_ast.proofs.weight.+weighing.Given as goal

abbrev pub invariant-weights-loop-e : goal.invariant-weights-loop-e
invariant-weights-loop-e l = record {
  bounded : l.total ≤ 4294967296;
  rest : up_to_bound (l.total + weights (exprs (map tree (drop l.e-index l.all)))) ≡ up_to_bound (weights (exprs (map tree l.all)));
}
