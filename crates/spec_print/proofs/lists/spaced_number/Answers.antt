use Rattle.sm_print.proofs.Printing.{◌⨾◌, Prints-is}
use Rattle.spec_print.proofs.lists.spaced_number.Goals as goal

pub returns : goal.returns
returns g c = Prints-is (rw (c.from.ensures)) (c.put.ensures ⨾ c.number.ensures)
