use Rattle.form_laws.proofs.YesterdaySteps.{yesterday_kept}
use Rattle.form_laws.proofs.simple_forms.yesterday_is_kept.Goals as goal

pub returns : goal.returns
returns c = yesterday_kept
