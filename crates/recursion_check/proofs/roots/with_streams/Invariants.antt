use Rattle.std.proofs.Common.{◌≡◌, drop}
use Rattle.recursion_check.specs.Loads.{with_loads, streams_of}
use Rattle.recursion_check.proofs.roots.with_streams.Given as goal

abbrev pub invariant-loop-x : goal.invariant-loop-x
invariant-loop-x l = with_loads l.tally (streams_of l.spec (drop l.x-index l.streams)) ≡ with_loads l.fn.before (streams_of l.spec l.streams)
