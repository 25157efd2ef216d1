use Rattle.stream_core.proofs.PartsOfSteps.{step_apart, step_together}
use Rattle.stream_core.proofs.step_parts.clean_steps_have_values.Goals as goal

pub returns : goal.returns
returns c = λ s m v. (step_apart s m v, step_together s m v)
