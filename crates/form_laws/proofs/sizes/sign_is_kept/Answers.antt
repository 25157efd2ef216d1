use Rattle.form_laws.proofs.SizeWords.{sign_kept}
use Rattle.form_laws.proofs.sizes.sign_is_kept.Goals as goal

pub returns : goal.returns
returns c = λ m s e i has. sign_kept m s e i has
