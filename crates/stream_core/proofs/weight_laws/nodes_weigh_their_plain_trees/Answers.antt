use Rattle.std.proofs.Common.{sym}
use Rattle.stream_core.proofs.WholeWeight.{root_is}
use Rattle.stream_core.proofs.weight_laws.nodes_weigh_their_plain_trees.Goals as goal

pub returns : goal.returns
returns c = λ s i. sym (root_is s i)
