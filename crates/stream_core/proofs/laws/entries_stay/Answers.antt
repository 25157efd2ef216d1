use Rattle.stream_core.specs.Meaning.{closed_spec}
use Rattle.stream_core.proofs.Tables.{front_stays}
use Rattle.stream_core.proofs.laws.entries_stay.Goals as goal

pub returns : goal.returns
returns c = λ s h m n old new le e f k. front_stays (closed_spec s) h m n old new le e f k
