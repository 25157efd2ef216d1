use Rattle.stream_core.proofs.Roots.{acyclic}
use Rattle.stream_core.proofs.laws.no_cycle_gives_ranks.Goals as goal

pub returns : goal.returns
returns c = λ s w none. acyclic s w none
