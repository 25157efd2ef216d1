use Rattle.std.proofs.Common.{◌≡◌}
use Rattle.recursion_check.specs.TestSpecs.{sums}
use Rattle.recursion_check.proofs.tests.Maker.sums.Given as goal

abbrev pub invariant-loop-k : goal.invariant-loop-k
invariant-loop-k g l = l.spec ≡ sums l.k
