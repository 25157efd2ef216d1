use Rattle.c_runner.proofs.RowsSoFar.{sessions_are}
use Rattle.c_runner.proofs.laws.sessions_step_over_rows_so_far.Goals as goal

pub returns : goal.returns
returns c = λ s text ended. sessions_are s text ended
