use Rattle.sm_print.proofs.Printing.{first-none, first-more, first-all}
use Rattle.c99_print.proofs.header.handler_lines.Goals as goal

pub loop-h-init : goal.loop-h-init
loop-h-init g c = first-none

pub loop-h-preserved : goal.loop-h-preserved
loop-h-preserved g c =
    first-more c.loop-h-test.true c.h-item.is c.loop-h.invariant c.handler_line.ensures

pub returns : goal.returns
returns g c = first-all c.loop-h-test.false c.loop-h.invariant
