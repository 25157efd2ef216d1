use Rattle.std.proofs.Common.{codes}
use Rattle.sm_print.proofs.Printing.{◌⨾◌, Prints-is, Prints-line}
use Rattle.c99_print.proofs.header.totals_line.Goals as goal

pub returns : goal.returns
returns g c = Prints-is (rw (c.from.ensures, c.from-2.ensures)) (Prints-line (codes " };") (c.put.ensures ⨾ c.number.ensures ⨾ c.put-2.ensures ⨾ c.number-2.ensures) c.put-3.ensures)
