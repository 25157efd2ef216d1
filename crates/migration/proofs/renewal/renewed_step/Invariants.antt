use Rattle.std.proofs.Common.{◌≡◌, map, take}
use Rattle.std.specs.List.{filter_map}
use Rattle.c99_tree.specs.Tree.{statement}
use Rattle.migration.specs.Migration.{renewed_statement}
use Rattle.migration.proofs.renewal.renewed_step.Given as goal

abbrev pub invariant-loop-s : goal.invariant-loop-s
invariant-loop-s l = map statement l.step ≡ filter_map (renewed_statement l.unit) (map statement (take l.s-index l.unit.step))
