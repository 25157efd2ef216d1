use Rattle.c_exec.proofs.ShapeWidths.{value_long}
use Rattle.c_exec.proofs.laws.values_have_their_widths.Goals as goal

pub returns : goal.returns
returns c = value_long
