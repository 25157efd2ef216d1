use Rattle.std.proofs.Common.{[]}
use Rattle.row_sessions.specs.Session.{machine_sessions}
use Rattle.row_sessions.specs.declared.ending.Ending.TheVariants.{Done}
use Rattle.row_sessions.proofs.ReadPieces.{stands_first, run_ends, run_done, nothing_read, there_still, last_ends}
use Rattle.row_sessions.proofs.run.run_session.Goals as goal

pub returns-in-Err-clause-runs : goal.returns-in-Err-clause-runs
returns-in-Err-clause-runs g c =
    nothing_read (g.M.Stepper.answers c.args.machine.now) c.args.leaves.now (g.S.Source.left c.args.input.now) (g.S.Source.faults c.args.input.now) (g.K.Sink.taken c.args.out.now) (g.K.Sink.faults c.args.out.now)

pub take_input-requires-clause-stands : goal.take_input-requires-clause-stands
take_input-requires-clause-stands g c = record {
  first = g.K.Sink.taken c.args.out.now;
  text = [];
  there = stands_first (g.M.Stepper.answers c.args.machine.now) c.args.leaves.now c.in-Ok.lines (g.M.Stepper.stands c.args.machine.now) (g.K.Sink.taken c.args.out.now) c.in-Ok.ensures.feed c.in-Ok.ensures.header c.in-Ok.ensures.steps c.requires.stands;
  fits = c.in-Ok.ensures.fits;
}

pub returns-in-Err-take_input-clause-runs : goal.returns-in-Err-take_input-clause-runs
returns-in-Err-take_input-clause-runs g c =
    let t = c.in-Err-take_input.ensures.taken (g.K.Sink.taken c.args.out.now) []
    (stands_first (g.M.Stepper.answers c.args.machine.now) c.args.leaves.now c.in-Ok.lines (g.M.Stepper.stands c.args.machine.now) (g.K.Sink.taken c.args.out.now) c.in-Ok.ensures.feed c.in-Ok.ensures.header c.in-Ok.ensures.steps c.requires.stands) in
    run_ends (machine_sessions (g.M.Stepper.answers c.args.machine.now) c.args.leaves.now) (g.S.Source.left c.args.input.now) (g.S.Source.left c.take_input.new.input) (g.S.Source.faults c.args.input.now) (g.S.Source.faults c.take_input.new.input)
    (g.K.Sink.taken c.args.out.now) (g.K.Sink.taken c.take_input.new.out) (g.K.Sink.faults c.args.out.now) (g.K.Sink.faults c.take_input.new.out) t.0 c.in-Err-take_input.ending t.1 t.3

pub pass_last-requires-clause-stands : goal.pass_last-requires-clause-stands
pass_last-requires-clause-stands g c =
    let t = c.in-Ok-take_input.ensures.taken (g.K.Sink.taken c.args.out.now) []
    (stands_first (g.M.Stepper.answers c.args.machine.now) c.args.leaves.now c.in-Ok.lines (g.M.Stepper.stands c.args.machine.now) (g.K.Sink.taken c.args.out.now) c.in-Ok.ensures.feed c.in-Ok.ensures.header c.in-Ok.ensures.steps c.requires.stands) in
    record {
      first = g.K.Sink.taken c.args.out.now;
      text = t.0;
      there = there_still (g.M.Stepper.answers c.args.machine.now) (g.M.Stepper.answers c.take_input.new.machine) c.args.leaves.now (g.K.Sink.taken c.args.out.now) c.take_input.new.lines (g.M.Stepper.stands c.take_input.new.machine) (g.K.Sink.taken c.take_input.new.out) t.0 c.in-Ok-take_input.ensures.answers t.2.1;
      fits = c.in-Ok-take_input.ensures.fits;
    }

pub returns-in-Ok-pass_last-clause-runs : goal.returns-in-Ok-pass_last-clause-runs
returns-in-Ok-pass_last-clause-runs g c =
    let t = c.in-Ok-take_input.ensures.taken (g.K.Sink.taken c.args.out.now) []
    (stands_first (g.M.Stepper.answers c.args.machine.now) c.args.leaves.now c.in-Ok.lines (g.M.Stepper.stands c.args.machine.now) (g.K.Sink.taken c.args.out.now) c.in-Ok.ensures.feed c.in-Ok.ensures.header c.in-Ok.ensures.steps c.requires.stands) in
    run_done (machine_sessions (g.M.Stepper.answers c.args.machine.now) c.args.leaves.now) (g.S.Source.left c.args.input.now) (g.S.Source.left c.take_input.new.input) (g.S.Source.faults c.args.input.now) (g.S.Source.faults c.take_input.new.input)
    (g.K.Sink.taken c.args.out.now) (g.K.Sink.taken c.pass_last.new.out) (g.K.Sink.faults c.args.out.now) (g.K.Sink.faults c.pass_last.new.out) t.0 Done t.1 t.2.0
    (last_ends (g.M.Stepper.answers c.args.machine.now) (g.M.Stepper.answers c.take_input.new.machine) c.args.leaves.now (g.K.Sink.taken c.args.out.now) c.take_input.new.lines (g.M.Stepper.stands c.take_input.new.machine) (g.K.Sink.taken c.take_input.new.out) (g.K.Sink.taken c.pass_last.new.out) t.0 Done c.in-Ok-take_input.ensures.answers c.in-Ok-pass_last.ensures.ends t.2.1)

pub returns-clause-runs : goal.returns-clause-runs
returns-clause-runs g c =
    let t = c.in-Ok-take_input.ensures.taken (g.K.Sink.taken c.args.out.now) []
    (stands_first (g.M.Stepper.answers c.args.machine.now) c.args.leaves.now c.in-Ok.lines (g.M.Stepper.stands c.args.machine.now) (g.K.Sink.taken c.args.out.now) c.in-Ok.ensures.feed c.in-Ok.ensures.header c.in-Ok.ensures.steps c.requires.stands) in
    run_done (machine_sessions (g.M.Stepper.answers c.args.machine.now) c.args.leaves.now) (g.S.Source.left c.args.input.now) (g.S.Source.left c.take_input.new.input) (g.S.Source.faults c.args.input.now) (g.S.Source.faults c.take_input.new.input)
    (g.K.Sink.taken c.args.out.now) (g.K.Sink.taken c.pass_last.new.out) (g.K.Sink.faults c.args.out.now) (g.K.Sink.faults c.pass_last.new.out) t.0 c.in-Err-pass_last.ending t.1 t.2.0
    (last_ends (g.M.Stepper.answers c.args.machine.now) (g.M.Stepper.answers c.take_input.new.machine) c.args.leaves.now (g.K.Sink.taken c.args.out.now) c.take_input.new.lines (g.M.Stepper.stands c.take_input.new.machine) (g.K.Sink.taken c.take_input.new.out) (g.K.Sink.taken c.pass_last.new.out) t.0 c.in-Err-pass_last.ending c.in-Ok-take_input.ensures.answers c.in-Err-pass_last.ensures.ends t.2.1)
