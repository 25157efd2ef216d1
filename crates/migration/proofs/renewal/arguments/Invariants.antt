use Rattle.std.proofs.Common.{◌≡◌, map, take}
use Rattle.c99_tree.specs.declared.expr.CExpr.{CExpr}
use Rattle.c99_tree.specs.Tree.{tree}
use Rattle.migration.specs.Migration.{renewed}
use Rattle.migration.proofs.renewal.arguments.Given as goal

abbrev pub invariant-loop-e : goal.invariant-loop-e
invariant-loop-e l = map tree l.parts ≡ map (λ (e : CExpr). renewed l.unit (tree e)) (take l.e-index l.all)
