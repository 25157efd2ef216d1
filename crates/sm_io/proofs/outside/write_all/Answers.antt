use Rattle.std.proofs.Common.{arith, ◌∙◌}
use Rattle.sm_io.proofs.WrittenParts.{after_more}
use Rattle.sm_io.proofs.outside.write_all.Goals as goal

pub loop-done-preserved : goal.loop-done-preserved
loop-done-preserved g c = record {
  within = omega (arith, c.in_ok-done.ensures.bound);
  taken = after_more _ _ _ _ _ _ c.loop-done.invariant.taken c.in_ok-done.ensures.bytes;
  steady = c.in_ok-done.ensures.cause.steady ∙ c.loop-done.invariant.steady;
}
