use Rattle.spec_forest.proofs.PiecesRead.{pieces-tokens, pieces-sound}
use Rattle.spec_forest.proofs.laws.pieces_are_read.Goals as goal

pub returns : goal.returns
returns c = record { tokens = λ ps a. pieces-tokens ps a; sound = λ ps a w short. pieces-sound ps a w short }
