use Rattle.std.proofs.Common.{◌≡◌, map, take}
use Rattle.migration.specs.Migration.{renewed_ring}
use Rattle.migration.proofs.renewal.renewed_rings.Given as goal

abbrev pub invariant-loop-r : goal.invariant-loop-r
invariant-loop-r l = l.all ≡ map renewed_ring (take l.r-index l.rings)
