use Rattle.c99_read.proofs.ExprReads.{no_expression, some_expression}
use Rattle.c99_read.proofs.expression.read_expression.Goals as goal

pub returns-in-Ok : goal.returns-in-Ok
returns-in-Ok c = some_expression c.args.text.now c.in-Ok.e c.in-Ok.ensures

pub returns-in-Err-NotRead : goal.returns-in-Err-NotRead
returns-in-Err-NotRead c = no_expression c.args.text.now (rw c.in-Err-NotRead.field-0-is at c.in-Err-NotRead.ensures)
