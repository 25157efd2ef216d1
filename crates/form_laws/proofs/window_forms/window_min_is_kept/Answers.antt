use Rattle.form_laws.proofs.WindowExtremes.{least_is_kept}
use Rattle.form_laws.proofs.window_forms.window_min_is_kept.Goals as goal

pub returns : goal.returns
returns c = least_is_kept
