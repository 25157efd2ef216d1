use Rattle.spec_text.proofs.Placeless.{same-but-places, same-bare, placeless-kept}
use Rattle.spec_text.proofs.laws.forms_tell_surfaces.Goals as goal

pub returns : goal.returns
returns c = record { same = λ s t k l e. same-but-places s t k l e; form = λ s. same-bare s; kept = λ s k. placeless-kept s k }
