use Rattle.std.proofs.Common.{◌∙◌}
use Rattle.migration.proofs.Listed.{renewed_next}
use Rattle.migration.proofs.renewal.renewed_step.Goals as goal

pub loop-s-preserved : goal.loop-s-preserved
loop-s-preserved c =
    c.in_ok-next.ensures
    ∙ renewed_next c.args.unit.now c.args.unit.now.step c.as_slice-s-items.result.now c.loop-s.s-index c.s-item.result c.loop-s.step
    c.as_slice-s-items.ensures c.loop-s-test.true c.s-item.is c.loop-s.invariant
