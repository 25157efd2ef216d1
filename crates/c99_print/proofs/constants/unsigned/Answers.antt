use Rattle.sm_print.proofs.Printing.{◌⨾◌}
use Rattle.c99_print.proofs.constants.unsigned.Goals as goal

pub returns : goal.returns
returns g c = c.number.ensures ⨾ c.put.ensures
