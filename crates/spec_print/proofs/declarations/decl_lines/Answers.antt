use Rattle.sm_print.proofs.Printing.{◌⨾◌, first-none, first-more, first-all}
use Rattle.spec_print.proofs.declarations.decl_lines.Goals as goal

pub loop-d-init : goal.loop-d-init
loop-d-init g c = first-none

pub loop-d-preserved : goal.loop-d-preserved
loop-d-preserved g c =
    first-more c.loop-d-test.true c.d-item.is c.loop-d.invariant (c.put.ensures ⨾ c.decl.ensures)

pub returns : goal.returns
returns g c = first-all c.loop-d-test.false c.loop-d.invariant
