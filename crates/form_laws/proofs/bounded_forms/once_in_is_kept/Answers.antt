use Rattle.form_laws.proofs.OnceWithin.{once_in_kept}
use Rattle.form_laws.proofs.bounded_forms.once_in_is_kept.Goals as goal

pub returns : goal.returns
returns c = λ low high good. once_in_kept low high good.0
