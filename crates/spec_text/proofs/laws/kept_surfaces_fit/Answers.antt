use Rattle.spec_text.proofs.KeptFits.{fits}
use Rattle.spec_text.proofs.laws.kept_surfaces_fit.Goals as goal

pub returns : goal.returns
returns c = fits
