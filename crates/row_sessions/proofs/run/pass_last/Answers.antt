use Rattle.std.proofs.Common.{◌++◌, inr, refl}
use Rattle.row_sessions.specs.Session.{text_of_steps, machine_sessions}
use Rattle.row_sessions.specs.Standing.{ending_of}
use Rattle.row_sessions.proofs.Passing.{may_hold, holds_none, all_sent, ends_sent, cut_last}
use Rattle.row_sessions.proofs.run.pass_last.Goals as goal

pub finish-taken-requires-clause-stands : goal.finish-taken-requires-clause-stands
finish-taken-requires-clause-stands g c = may_hold (g.M.Stepper.answers c.args.machine.now) c.args.leaves.now c.args.lines.now (g.M.Stepper.stands c.args.machine.now) (g.K.Sink.taken c.args.out.now) c.args.held.now.bytes.items c.requires.stands c.requires.empty

pub returns-in-Ok-clause-ends : goal.returns-in-Ok-clause-ends
returns-in-Ok-clause-ends g c = λ first text s.
    ends_sent (machine_sessions (g.M.Stepper.answers c.args.machine.now) c.args.leaves.now) text text first (g.K.Sink.taken c.flush.new.out) (text_of_steps s.steps ++ c.finish-taken.new.held.bytes.items) (ending_of c.finish-taken.result)
    (all_sent first (g.K.Sink.taken c.args.out.now) (g.K.Sink.taken c.flush.new.out) (text_of_steps s.steps) c.finish-taken.new.held.bytes.items s.wrote c.in-Ok.ensures.writes.all)
    (c.finish-taken.ensures.ends (text_of_steps s.steps) text (holds_none (g.M.Stepper.answers c.args.machine.now) c.args.leaves.now first c.args.lines.now (g.M.Stepper.stands c.args.machine.now) (g.K.Sink.taken c.args.out.now) text c.args.held.now.bytes.items s c.requires.empty))

pub returns-in-Err-clause-ends : goal.returns-in-Err-clause-ends
returns-in-Err-clause-ends g c = λ first text s.
    inr (
      refl,
      cut_last (g.M.Stepper.answers c.args.machine.now) c.args.leaves.now first c.args.lines.now (g.M.Stepper.stands c.args.machine.now) (g.K.Sink.taken c.args.out.now) (g.K.Sink.taken c.flush.new.out) text c.finish-taken.new.held.bytes.items c.in-Err.ensures.writes.count s
          (c.finish-taken.ensures.front (text_of_steps s.steps) text (holds_none (g.M.Stepper.answers c.args.machine.now) c.args.leaves.now first c.args.lines.now (g.M.Stepper.stands c.args.machine.now) (g.K.Sink.taken c.args.out.now) text c.args.held.now.bytes.items s c.requires.empty)) c.in-Err.ensures.writes.short c.in-Err.ensures.writes.part,
    )
