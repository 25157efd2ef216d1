use Rattle.std.proofs.Common.{◌≡◌, drop}
use Rattle.recursion_check.specs.Loads.{with_loads, roots_of}
use Rattle.recursion_check.proofs.roots.with_roots.Given as goal

abbrev pub invariant-loop-r : goal.invariant-loop-r
invariant-loop-r l = with_loads l.tally (roots_of l.spec (drop l.r-index l.roots)) ≡ with_loads l.fn.before (roots_of l.spec l.roots)
