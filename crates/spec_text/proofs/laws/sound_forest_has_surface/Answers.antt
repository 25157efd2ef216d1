use Rattle.spec_text.proofs.HeldDecls.{surface-held}
use Rattle.spec_text.proofs.laws.sound_forest_has_surface.Goals as goal

pub returns : goal.returns
returns c = λ forest e. surface-held forest e
