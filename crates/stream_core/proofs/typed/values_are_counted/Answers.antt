use Rattle.stream_core.proofs.Wide.{counted}
use Rattle.stream_core.proofs.typed.values_are_counted.Goals as goal

pub returns : goal.returns
returns c = λ types t values n good stands are. counted types good t values n stands are
