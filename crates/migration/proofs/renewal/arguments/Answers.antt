use Rattle.migration.proofs.Listed.{renewed_parts}
use Rattle.migration.proofs.renewal.arguments.Goals as goal

pub returns : goal.returns
returns c = renewed_parts c.args.unit.now c.loop-e.parts c.args.all.now c.loop-e.e-index c.loop-e-test.false c.loop-e.invariant
