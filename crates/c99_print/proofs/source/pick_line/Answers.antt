use Rattle.std.proofs.Common.{codes}
use Rattle.sm_print.proofs.Printing.{◌⨾◌, Prints-is, Prints-line}
use Rattle.c99_print.proofs.source.pick_line.Goals as goal

pub returns : goal.returns
returns g c = Prints-is (rw (c.bytes.ensures.bytes, c.from.ensures)) (Prints-line (codes " cp_a, uint32_t cp_k) { return cp_a.e[cp_k]; }") (c.put.ensures ⨾ c.element_name.ensures ⨾ c.put-2.ensures ⨾ c.put-3.ensures ⨾ c.put-4.ensures ⨾ c.number.ensures ⨾ c.put-5.ensures ⨾ c.array_name.ensures) c.put-6.ensures)
