use Rattle.sm_print.proofs.Printing.{◌⨾◌, Prints-is}
use Rattle.c99_print.proofs.types.struct_name.Goals as goal

pub returns : goal.returns
returns g c = Prints-is (rw (c.bytes.ensures.bytes)) (c.put.ensures ⨾ c.put-2.ensures)
