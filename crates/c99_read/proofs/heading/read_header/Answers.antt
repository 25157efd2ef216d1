use Rattle.c99_read.proofs.UnitReads.{no_header, some_header}
use Rattle.c99_read.proofs.heading.read_header.Goals as goal

pub returns-in-Ok : goal.returns-in-Ok
returns-in-Ok c = some_header c.args.header.now c.in-Ok.parts c.in-Ok.ensures

pub returns-in-Err-NotRead : goal.returns-in-Err-NotRead
returns-in-Err-NotRead c = no_header c.args.header.now (rw c.in-Err-NotRead.field-0-is at c.in-Err-NotRead.ensures)
