use Rattle.c99_tree.proofs.Whole.{sound_is_well}
use Rattle.c99_ast.proofs.rules.well_formed.Goals as goal

pub returns : goal.returns
returns c = rw c.is_sound.ensures (sound_is_well c.args.unit.now)
