use Rattle.stream_core.proofs.Closed.{closed_is}
use Rattle.stream_core.proofs.Trees.{tree_of}
use Rattle.stream_core.proofs.laws.trees_are_built_of_their_parts.Goals as goal

pub returns-clause-tree : goal.returns-clause-tree
returns-clause-tree c = λ nodes libs i n ordered e. tree_of nodes libs ordered i n e

pub returns-clause-closed : goal.returns-clause-closed
returns-clause-closed c = λ s i n founded e. closed_is s i n founded.ordered founded.acyclic (founded.named i n e) e
