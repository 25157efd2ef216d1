use Rattle.stream_core.proofs.OneType.{one_type}
use Rattle.stream_core.proofs.laws.expressions_have_one_type.Goals as goal

pub returns : goal.returns
returns c = λ s e t u p q. one_type s e t u p q
