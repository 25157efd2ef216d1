use Rattle.spec_text.proofs.ReadDecls.{one-surface}
use Rattle.spec_text.proofs.laws.forest_has_one_surface.Goals as goal

pub returns : goal.returns
returns c = one-surface
