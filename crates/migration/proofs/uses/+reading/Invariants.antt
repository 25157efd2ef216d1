use Rattle.std.proofs.Common.{◌≡◌, map, drop}
use Rattle.c99_tree.specs.Tree.{tree, exprs}
use Rattle.migration.specs.Migration.{all_read_as_of_old}
use Rattle.migration.proofs.uses.+reading.Given as goal

abbrev pub invariant-all_read_as_of_old-loop-e : goal.invariant-all_read_as_of_old-loop-e
invariant-all_read_as_of_old-loop-e l = all_read_as_of_old l.r (exprs (map tree (drop l.e-index l.all))) ≡ all_read_as_of_old l.r (exprs (map tree l.all))
