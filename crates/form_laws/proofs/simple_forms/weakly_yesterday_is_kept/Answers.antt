use Rattle.form_laws.proofs.YesterdaySteps.{weakly_kept}
use Rattle.form_laws.proofs.simple_forms.weakly_yesterday_is_kept.Goals as goal

pub returns : goal.returns
returns c = weakly_kept
