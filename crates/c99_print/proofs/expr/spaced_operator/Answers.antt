use Rattle.sm_print.proofs.Printing.{◌⨾◌, Prints-is}
use Rattle.c99_print.proofs.expr.spaced_operator.Goals as goal

pub returns : goal.returns
returns g c = Prints-is (rw (c.operator.ensures)) (c.put.ensures ⨾ c.put-2.ensures ⨾ c.put-3.ensures)
