use Rattle.sm_print.proofs.Printing.{first-none, first-more, first-all}
use Rattle.c99_print.proofs.header.extern_lines.Goals as goal

pub loop-x-init : goal.loop-x-init
loop-x-init g c = first-none

pub loop-x-preserved : goal.loop-x-preserved
loop-x-preserved g c =
    first-more c.loop-x-test.true c.x-item.is c.loop-x.invariant c.extern_line.ensures

pub returns : goal.returns
returns g c = first-all c.loop-x-test.false c.loop-x.invariant
