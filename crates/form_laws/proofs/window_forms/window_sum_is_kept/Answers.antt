use Rattle.form_laws.proofs.WindowSums.{sum_is_kept}
use Rattle.form_laws.proofs.window_forms.window_sum_is_kept.Goals as goal

pub returns : goal.returns
returns c = sum_is_kept
