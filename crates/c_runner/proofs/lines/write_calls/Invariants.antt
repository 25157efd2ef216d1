use Rattle.std.proofs.Common.{◌≤◌, ◌-◌, length, take, true}
use Rattle.std.specs.List.{flat_map}
use Rattle.sm_io.specs.Written.{WritesText}
use Rattle.c_runner.specs.Executed.{line_of_call}
use Rattle.c_runner.proofs.lines.write_calls.Given as goal

abbrev pub invariant-loop-i : goal.invariant-loop-i
invariant-loop-i g l = (l.i ≤ length l.calls)
    × WritesText (g.K.Sink.taken l.fn.out) (g.K.Sink.taken l.out) (g.K.Sink.faults l.fn.out) (g.K.Sink.faults l.out) true
    (flat_map (line_of_call l.unit l.step) (take l.i l.calls))

abbrev pub decreases-loop-i : goal.decreases-loop-i
decreases-loop-i g l = length l.calls - l.i
