use Rattle.stream_core.specs.Term.{closed}
use Rattle.stream_core.proofs.Roots.{acyclic}
use Rattle.stream_core.proofs.ClosedTypes.{expression_words, node_words}
use Rattle.stream_core.proofs.value_types.values_have_their_types.Goals as goal

pub returns-clause-expression : goal.returns-clause-expression
returns-clause-expression c = λ s h t lists e u v w none history b is o g f. expression_words s w (acyclic s w none) h history t lists is b e u v o g f

pub returns-clause-node : goal.returns-clause-node
unfolding closed
returns-clause-node c = λ s h t lists i u v w none history b is g f. node_words s w (acyclic s w none) h history t lists is b i u v g f
