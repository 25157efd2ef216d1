use Rattle.form_laws.proofs.OnceSteps.{once_kept}
use Rattle.form_laws.proofs.simple_forms.once_is_kept.Goals as goal

pub returns : goal.returns
returns c = once_kept
