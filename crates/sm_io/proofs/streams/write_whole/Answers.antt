use Rattle.std.proofs.Common.{arith}
use Rattle.sm_io.proofs.Transfers.{appends_more}
use Rattle.sm_io.proofs.streams.write_whole.Goals as goal

pub loop-done-preserved : goal.loop-done-preserved
loop-done-preserved g c = record {
  within = omega (arith, c.in_ok-done.ensures.bound);
  taken = appends_more _ _ _ _ _ _ c.loop-done.invariant.taken c.in_ok-done.ensures.bytes;
}
