use Rattle.stream_core.specs.Term.{closed, tree, trees}
use Rattle.stream_core.proofs.Roots.{acyclic}
use Rattle.stream_core.proofs.ClosedTypes.{node_out}
use Rattle.stream_core.proofs.Extended.{out_has}
use Rattle.stream_core.proofs.value_types.nodes_are_written_out.Goals as goal

pub returns-clause-types : goal.returns-clause-types
unfolding closed
returns-clause-types c = λ s i u w g. out_has (trees s) w.defs (tree s.nodes s.libs i) u g

pub returns-clause-written : goal.returns-clause-written
unfolding closed
returns-clause-written c = λ s i u w none g. node_out s w (acyclic s w none) i u g
