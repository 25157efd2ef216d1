use Rattle.form_laws.proofs.ClockSteps.{clock_kept}
use Rattle.form_laws.proofs.simple_forms.clock_is_kept.Goals as goal

pub returns : goal.returns
returns c = λ period phase good. clock_kept period phase good
