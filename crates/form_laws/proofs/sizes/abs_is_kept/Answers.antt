use Rattle.form_laws.proofs.SizeWords.{abs_kept}
use Rattle.form_laws.proofs.sizes.abs_is_kept.Goals as goal

pub returns : goal.returns
returns c = λ m s e i has. abs_kept m s e i has
