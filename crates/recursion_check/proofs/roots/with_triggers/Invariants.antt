use Rattle.std.proofs.Common.{◌≡◌, drop}
use Rattle.recursion_check.specs.Loads.{with_loads, triggers_of}
use Rattle.recursion_check.proofs.roots.with_triggers.Given as goal

abbrev pub invariant-loop-x : goal.invariant-loop-x
invariant-loop-x l = with_loads l.tally (triggers_of l.spec (drop l.x-index l.triggers)) ≡ with_loads l.fn.before (triggers_of l.spec l.triggers)
