use Rattle.c99_read.proofs.OneUnit.{one_unit}
use Rattle.c99_read.proofs.laws.texts_spell_one_unit.Goals as goal

pub returns : goal.returns
returns c = one_unit
