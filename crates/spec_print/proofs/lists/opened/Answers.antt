use Rattle.sm_print.proofs.Printing.{◌⨾◌}
use Rattle.spec_print.proofs.lists.opened.Goals as goal

pub returns : goal.returns
returns g c = c.put.ensures ⨾ c.put-2.ensures
