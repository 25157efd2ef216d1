use Rattle.c99_read.proofs.UnitReads.{decided}
use Rattle.c99_read.proofs.laws.texts_are_decided.Goals as goal

pub returns : goal.returns
returns c = decided
