use Rattle.std.proofs.Common.{length, ◌-◌, ◌≤◌}
use Rattle.spec_forest.specs.Scanning.{IsScanned, held, levels}
use Rattle.spec_forest.proofs.scan.trees.Given as goal

abbrev pub invariant-loop-at : goal.invariant-loop-at
invariant-loop-at l = (length l.text ≤ 1048576) × (levels l.scanner ≤ 64) × IsScanned l.text l.at (levels l.scanner) (held l.scanner)

abbrev pub decreases-loop-at : goal.decreases-loop-at
decreases-loop-at l = length l.text - l.at
