use Rattle.migration.proofs.Listed.{renewed_parts}
use Rattle.migration.proofs.renewal.+renewing.Goals as goal

pub all_renewed-returns : goal.all_renewed-returns
all_renewed-returns t c = renewed_parts c.args.unit.now c.loop-e.parts c.args.all.now c.loop-e.e-index c.loop-e-test.false c.loop-e.invariant
