use Rattle.stream_core.proofs.Grown.{tree_stays}
use Rattle.stream_core.proofs.typed.trees_stay_as_nodes_are_added.Goals as goal

pub returns : goal.returns
returns c = λ nodes more libs i ordered there. tree_stays nodes more libs ordered i there
