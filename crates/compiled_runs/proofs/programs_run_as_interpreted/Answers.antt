use Rattle.compiled_runs.proofs.SameColumns.{same_columns}
use Rattle.compiled_runs.proofs.SameLines.{same_step}
use Rattle.compiled_runs.proofs.SameSessions.{agrees}
use Rattle.compiled_runs.proofs.programs_run_as_interpreted.Goals as goal

pub returns : goal.returns
returns c = λ s name u w free is text ended fault stops. agrees s u (same_columns s name u w is) (same_step s w free name u is) text ended fault stops
