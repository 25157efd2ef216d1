use Rattle.spec_forest.proofs.OneForest.{one-forest}
use Rattle.spec_forest.proofs.laws.text_has_one_forest.Goals as goal

pub returns : goal.returns
returns c = λ text f g a b. one-forest text f g a b
