use Rattle.stream_core.proofs.PlainWeights.{all_buffers, heaviest}
use Rattle.stream_core.proofs.weight_laws.buffers_weigh_their_plain_trees.Goals as goal

pub returns-clause-all : goal.returns-clause-all
returns-clause-all c = λ s k x. all_buffers s k x

pub returns-clause-heaviest : goal.returns-clause-heaviest
returns-clause-heaviest c = λ s k x w e. heaviest s w k x e
