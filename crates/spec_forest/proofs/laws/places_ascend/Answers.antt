use Rattle.spec_forest.proofs.Rising.{rising}
use Rattle.spec_forest.proofs.laws.places_ascend.Goals as goal

pub returns : goal.returns
returns c = λ text f is. rising text f is
