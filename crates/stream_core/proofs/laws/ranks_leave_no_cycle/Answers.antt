use Rattle.stream_core.proofs.Cycles.{no_cycle}
use Rattle.stream_core.proofs.laws.ranks_leave_no_cycle.Goals as goal

pub returns : goal.returns
returns c = λ defs acyclic. no_cycle defs acyclic
