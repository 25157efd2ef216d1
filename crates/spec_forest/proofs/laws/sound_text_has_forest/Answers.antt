use Rattle.spec_forest.proofs.Made.{forest-made}
use Rattle.spec_forest.proofs.laws.sound_text_has_forest.Goals as goal

pub returns : goal.returns
returns c = λ text e. forest-made text e
