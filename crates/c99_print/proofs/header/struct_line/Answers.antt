use Rattle.std.proofs.Common.{codes}
use Rattle.sm_print.proofs.Printing.{◌⨾◌, Prints-is, Prints-line}
use Rattle.c99_print.proofs.header.struct_line.Goals as goal

pub returns : goal.returns
returns g c = Prints-is (rw (c.bytes.ensures.bytes)) (Prints-line (codes " };") (c.put.ensures ⨾ c.put-2.ensures ⨾ c.put-3.ensures ⨾ c.struct_fields.ensures) c.put-4.ensures)
