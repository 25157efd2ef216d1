use Rattle.sm_print.proofs.Printing.{◌⨾◌, Prints-is}
use Rattle.spec_print.proofs.constants.typed.Goals as goal

pub returns : goal.returns
returns g c = Prints-is (rw (c.scalar_word.ensures)) (c.digits.ensures ⨾ c.put.ensures ⨾ c.put-2.ensures)
