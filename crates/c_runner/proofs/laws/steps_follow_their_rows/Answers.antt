use Rattle.c_runner.proofs.RowsSoFar.{last_is}
use Rattle.c_runner.proofs.laws.steps_follow_their_rows.Goals as goal

pub returns : goal.returns
returns c = λ s h n low. last_is s h n low
