use Rattle.sm_print.proofs.Printing.{◌⨾◌, Prints-is}
use Rattle.c99_print.proofs.expr.literal.Goals as goal

pub returns : goal.returns
returns g c = Prints-is (rw (c.suffix.ensures)) (c.number.ensures ⨾ c.put.ensures)
