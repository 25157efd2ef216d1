use Rattle.std.proofs.Common.{◌≡◌, map, drop}
use Rattle.c99_tree.specs.Tree.{tree, exprs}
use Rattle.c99_tree.specs.Typing.{types_of}
use Rattle.c99_tree.specs.WellFormed.{fit_params}
use Rattle.c99_ast.proofs.statements.fit_params.Given as goal

abbrev pub invariant-loop-e : goal.invariant-loop-e
invariant-loop-e l = fit_params (types_of l.unit (exprs (map tree (drop l.e-index l.args)))) l.left ≡ fit_params (types_of l.unit (exprs (map tree l.args))) l.params
