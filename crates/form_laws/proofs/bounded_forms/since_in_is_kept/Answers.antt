use Rattle.form_laws.proofs.SinceWithin.{since_in_kept}
use Rattle.form_laws.proofs.bounded_forms.since_in_is_kept.Goals as goal

pub returns : goal.returns
returns c = λ low high good. since_in_kept low high good.0
