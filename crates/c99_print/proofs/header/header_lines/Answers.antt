use Rattle.sm_print.proofs.Printing.{◌⨾◌, Prints-is}
use Rattle.c99_print.proofs.header.header_lines.Goals as goal

pub returns : goal.returns
returns g c = Prints-is (rw (c.as_slice.ensures, c.as_slice-2.ensures, c.as_slice-3.ensures)) (c.guard_line.ensures ⨾ c.guard_line-2.ensures ⨾ c.put.ensures ⨾ c.put-2.ensures ⨾ c.totals_line.ensures ⨾ c.type_lines.ensures ⨾ c.extern_lines.ensures ⨾ c.handler_lines.ensures ⨾ c.put-3.ensures ⨾ c.put-4.ensures)
