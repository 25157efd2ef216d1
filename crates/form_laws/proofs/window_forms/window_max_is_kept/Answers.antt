use Rattle.form_laws.proofs.WindowExtremes.{greatest_is_kept}
use Rattle.form_laws.proofs.window_forms.window_max_is_kept.Goals as goal

pub returns : goal.returns
returns c = greatest_is_kept
