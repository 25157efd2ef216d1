use Rattle.std.proofs.Common.{◌≡◌, ◌≤◌, ◌-◌, length, take}
use Rattle.sm_io.specs.Known.{after_known}
use Rattle.row_sessions.proofs.gather.Gather.flush.Given as goal

abbrev pub invariant-loop-done : goal.invariant-loop-done
invariant-loop-done g l = record {
  within : l.done ≤ length l.self.bytes.items;
  taken : g.K.Sink.taken l.out ≡ after_known (g.K.Sink.taken l.fn.out) (take l.done l.self.bytes.items);
  steady : g.K.Sink.faults l.out ≡ g.K.Sink.faults l.fn.out;
}

abbrev pub decreases-loop-done : goal.decreases-loop-done
decreases-loop-done g l = length l.self.bytes.items - l.done
