use Rattle.migration.proofs.RingCount.{ring_count}
use Rattle.migration.proofs.program.migrate.Goals as goal

pub misused-requires : goal.misused-requires
misused-requires c = ring_count c.args.unit.now c.requires.formed
