use Rattle.sm_print.proofs.Printing.{◌⨾◌}
use Rattle.spec_print.proofs.expressions.bounds.Goals as goal

pub returns : goal.returns
returns g c = c.opened.ensures ⨾ c.spaced_number.ensures ⨾ c.spaced_number-2.ensures
