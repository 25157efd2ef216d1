use Rattle.std.proofs.Common.{codes}
use Rattle.sm_print.proofs.Printing.{◌⨾◌, Prints-is, Prints-line}
use Rattle.c99_print.proofs.header.array_line.Goals as goal

pub returns : goal.returns
returns g c = Prints-is (rw (c.from.ensures)) (Prints-line (codes "]; };") (c.array_name.ensures ⨾ c.put.ensures ⨾ c.element_name.ensures ⨾ c.put-2.ensures ⨾ c.number.ensures) c.put-3.ensures)
