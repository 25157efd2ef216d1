use Rattle.std.proofs.Common.{◌≤◌, ◌-◌, length, take, true}
use Rattle.std.specs.List.{flat_map}
use Rattle.sm_io.specs.Written.{WritesText}
use Rattle.stream_core.specs.Term.{trees}
use Rattle.interpreter.specs.Interpreted.{line_of_event}
use Rattle.interpreter.proofs.lines.write_events.Given as goal

abbrev pub invariant-loop-i : goal.invariant-loop-i
invariant-loop-i g l = (l.i ≤ length l.events)
    × WritesText (g.K.Sink.taken l.fn.out) (g.K.Sink.taken l.out) (g.K.Sink.faults l.fn.out) (g.K.Sink.faults l.out) true (flat_map (line_of_event (trees l.spec) l.step) (take l.i l.events))

abbrev pub decreases-loop-i : goal.decreases-loop-i
decreases-loop-i g l = length l.events - l.i
