use Rattle.sm_print.proofs.Printing.{◌⨾◌, Prints-is}
use Rattle.c99_print.proofs.header.field.Goals as goal

pub returns : goal.returns
returns g c = Prints-is (rw (c.bytes.ensures.bytes)) (c.put.ensures ⨾ c.type_name.ensures ⨾ c.put-2.ensures ⨾ c.put-3.ensures ⨾ c.put-4.ensures)
