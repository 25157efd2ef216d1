use Rattle.std.proofs.Common.{◌++◌}
use Rattle.extern_rows.specs.Lines.{first_line}
use Rattle.row_sessions.proofs.SentFronts.{part_ended, missed_there}
use Rattle.row_sessions.proofs.run.pass_part.Goals as goal

pub returns-in-Err-make_room-clause-passes : goal.returns-in-Err-make_room-clause-passes
returns-in-Err-make_room-clause-passes g c = λ sent text s.
    let w = c.in-Err-make_room.ensures.writes in
    missed_there (g.M.Stepper.answers c.args.machine.now) c.args.leaves.now c.take_part.new.lines (g.M.Stepper.stands c.take_part.new.machine) text c.args.part.now sent c.take_part.new.held.bytes.items (g.K.Sink.taken c.args.out.now) (g.K.Sink.taken c.make_room.new.out) w.count (c.in-Ok.ensures.stands sent text s) w.short w.part

pub returns-in-Ok-flush-clause-passes : goal.returns-in-Ok-flush-clause-passes
returns-in-Ok-flush-clause-passes g c = λ sent text s.
    part_ended (g.M.Stepper.answers c.args.machine.now) c.args.leaves.now c.take_part.new.lines (g.M.Stepper.stands c.take_part.new.machine) (text ++ c.args.part.now) (text ++ first_line c.args.part.now) sent c.take_part.new.held.bytes.items c.flush.new.self.bytes.items (g.K.Sink.taken c.args.out.now) (g.K.Sink.taken c.flush.new.out) c.in-Err.ending
    c.in-Err.ensures.kind (c.in-Err.ensures.ends sent text s) c.in-Ok-flush.ensures.writes.all

pub returns-in-Err-flush-clause-passes : goal.returns-in-Err-flush-clause-passes
returns-in-Err-flush-clause-passes g c = λ sent text s.
    let w = c.in-Err-flush.ensures.writes in
    record { all = c.take_part.new.held.bytes.items; count = w.count; less = w.short; wrote = w.part; front = (c.in-Err.ensures.ends sent text s).1 }
