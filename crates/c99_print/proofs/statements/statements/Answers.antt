use Rattle.sm_print.proofs.Printing.{first-none, first-more, first-all}
use Rattle.c99_print.proofs.statements.statements.Goals as goal

pub loop-s-init : goal.loop-s-init
loop-s-init g c = first-none

pub loop-s-preserved : goal.loop-s-preserved
loop-s-preserved g c =
    first-more c.loop-s-test.true c.s-item.is c.loop-s.invariant c.statement.ensures

pub returns : goal.returns
returns g c = first-all c.loop-s-test.false c.loop-s.invariant
