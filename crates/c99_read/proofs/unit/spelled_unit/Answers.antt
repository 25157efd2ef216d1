use Rattle.c99_read.specs.UnitAt.{kept}
use Rattle.c99_read.proofs.WholeReads.{refuses_header, refuses_source, spells_read}
use Rattle.c99_read.proofs.unit.spelled_unit.Goals as goal

pub returns-in-Err-NotRead : goal.returns-in-Err-NotRead
returns-in-Err-NotRead c = refuses_header c.args.header.now (rw c.in-Err-NotRead.field-0-is at c.in-Err-NotRead.ensures)

pub returns-in-Err-NotRead-source_of : goal.returns-in-Err-NotRead-source_of
returns-in-Err-NotRead-source_of c =
    refuses_source c.args.header.now c.args.source.now c.in-Ok.head c.in-Ok.ensures (rw c.in-Err-NotRead-source_of.field-0-is at c.in-Err-NotRead-source_of.ensures)

pub returns : goal.returns
returns c =
    spells_read c.unit_of.result c.args.header.now c.args.source.now c.in-Ok.head (kept (c.in-Ok-source_of.rings, c.in-Ok-source_of.step)) c.in-Ok.ensures c.in-Ok-source_of.ensures c.unit_of.ensures.header c.unit_of.ensures.source
