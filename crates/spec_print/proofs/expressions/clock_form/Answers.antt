use Rattle.std.proofs.Common.{codes}
use Rattle.spec_text.specs.Form.{number}
use Rattle.sm_print.proofs.Printing.{◌⨾◌, Prints-is}
use Rattle.spec_print.proofs.Items.{two-text}
use Rattle.spec_print.proofs.expressions.clock_form.Goals as goal

pub returns : goal.returns
returns g c = Prints-is (two-text (codes "clock") (number c.args.period) (number c.args.phase)) (c.opened.ensures ⨾ c.spaced_number.ensures ⨾ c.spaced_number-2.ensures ⨾ c.put.ensures)
