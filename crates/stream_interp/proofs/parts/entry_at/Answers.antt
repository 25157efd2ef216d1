use Rattle.stream_types.proofs.TypeLists.{Stands-within}
use Rattle.stream_interp.proofs.PartWidths.{entry_read}
use Rattle.stream_interp.proofs.parts.entry_at.Goals as goal

pub entry-requires : goal.entry-requires
entry-requires c = Stands-within c.args.types.now c.args.of c.in-Array.i c.in-Array.is c.requires

pub returns-in-Array-clause-some : goal.returns-in-Array-clause-some
returns-in-Array-clause-some c = entry_read c.args.types.now c.args.of c.in-Array.i c.entry.result.now c.in-Array.is c.entry.ensures.value
