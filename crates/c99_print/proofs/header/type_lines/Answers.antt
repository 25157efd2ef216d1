use Rattle.sm_print.proofs.Printing.{first-none, first-more, first-all}
use Rattle.c99_print.proofs.header.type_lines.Goals as goal

pub loop-def-init : goal.loop-def-init
loop-def-init g c = first-none

pub loop-def-preserved : goal.loop-def-preserved
loop-def-preserved g c =
    first-more c.loop-def-test.true c.def-item.is c.loop-def.invariant c.type_line.ensures

pub returns : goal.returns
returns g c = first-all c.loop-def-test.false c.loop-def.invariant
