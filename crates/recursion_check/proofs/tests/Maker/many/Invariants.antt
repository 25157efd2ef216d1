use Rattle.std.proofs.Common.{◌≡◌}
use Rattle.recursion_check.specs.TestSpecs.{many}
use Rattle.recursion_check.proofs.tests.Maker.many.Given as goal

abbrev pub invariant-loop-k : goal.invariant-loop-k
invariant-loop-k g l = l.spec ≡ many l.k
