use Rattle.stream_core.proofs.Roots.{acyclic}
use Rattle.stream_core.proofs.ClosedTypes.{stream_words, operand_words}
use Rattle.stream_core.proofs.value_types.tables_have_their_types.Goals as goal

pub returns-clause-stream : goal.returns-clause-stream
returns-clause-stream c = λ s h n lists k x w none history b is e. stream_words s w (acyclic s w none) h history n lists is b k x e

pub returns-clause-operand : goal.returns-clause-operand
returns-clause-operand c = λ s h n lists k j x u w none history b is e f. operand_words s w (acyclic s w none) h history n lists is b k j x u e f
