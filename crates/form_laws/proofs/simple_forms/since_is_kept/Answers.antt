use Rattle.form_laws.proofs.SinceSteps.{since_kept}
use Rattle.form_laws.proofs.simple_forms.since_is_kept.Goals as goal

pub returns : goal.returns
returns c = since_kept
