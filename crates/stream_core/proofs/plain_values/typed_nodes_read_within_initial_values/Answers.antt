use Rattle.stream_core.specs.Term.{closed, tree}
use Rattle.stream_core.proofs.Reach.{typed_reads}
use Rattle.stream_core.proofs.plain_values.typed_nodes_read_within_initial_values.Goals as goal

pub returns : goal.returns
unfolding closed
returns c = λ s i u w h. typed_reads s w (tree s.nodes s.libs i) u h
