use Rattle.form_laws.proofs.HistoricallyWithin.{historically_in_kept}
use Rattle.form_laws.proofs.bounded_forms.historically_in_is_kept.Goals as goal

pub returns : goal.returns
returns c = λ low high good. historically_in_kept low high good.0
