use Rattle.std.proofs.Common.{◌≡◌, drop}
use Rattle.recursion_check.specs.Loads.{with_loads, observers_of}
use Rattle.recursion_check.proofs.roots.with_observers.Given as goal

abbrev pub invariant-loop-x : goal.invariant-loop-x
invariant-loop-x l = with_loads l.tally (observers_of l.spec (drop l.x-index l.observers)) ≡ with_loads l.fn.before (observers_of l.spec l.observers)
