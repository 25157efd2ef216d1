use Rattle.std.proofs.Common.{◌≡◌, map, drop}
use Rattle.std.specs.List.{list_all}
use Rattle.c99_tree.specs.Tree.{statement}
use Rattle.migration.specs.Migration.{uses_as_of_old}
use Rattle.migration.proofs.uses.all_use_as_of_old.Given as goal

abbrev pub invariant-loop-s : goal.invariant-loop-s
invariant-loop-s l = list_all (uses_as_of_old l.r) (map statement (drop l.s-index l.step)) ≡ list_all (uses_as_of_old l.r) (map statement l.step)
