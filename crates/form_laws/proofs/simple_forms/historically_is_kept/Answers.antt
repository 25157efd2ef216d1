use Rattle.form_laws.proofs.HistoricallySteps.{historically_kept}
use Rattle.form_laws.proofs.simple_forms.historically_is_kept.Goals as goal

pub returns : goal.returns
returns c = historically_kept
