use Rattle.tool_top.proofs.ReadPrograms.{reading_stops, unit_in}
use Rattle.tool_top.proofs.unit_files.fetch_unit.Goals as goal

pub returns-in-Ok-read_program-clause-ok : goal.returns-in-Ok-read_program-clause-ok
returns-in-Ok-read_program-clause-ok g c =
    unit_in (g.F.Shelf.files c.args.shelf.now) c.args.name.now c.in-Ok.texts.header.items c.in-Ok.texts.source.items c.in-Ok-read_program.unit c.in-Ok.ensures.ok
    (rw (c.deref.ensures.value, c.deref-2.ensures.value) at c.in-Ok-read_program.ensures)

pub returns-clause-err : goal.returns-clause-err
returns-clause-err g c =
    reading_stops (g.F.Shelf.files c.args.shelf.now) c.args.name.now c.in-Ok.texts.header.items c.in-Ok.texts.source.items c.in-Err-read_program.outcome c.in-Ok.ensures.ok
    (rw (c.deref.ensures.value, c.deref-2.ensures.value) at c.in-Err-read_program.ensures)
