use Rattle.std.proofs.Common.{refl, ◌∙◌, ◌≤◌, length, arith}
use Rattle.std.proofs.lemmas.Bool.Decides.{nat_tests}
use Rattle.std.proofs.lemmas.Result.{err_from_is_err_and}
use Rattle.row_sessions.specs.Session.{text_of_steps}
use Rattle.row_sessions.proofs.PieceParts.{rest_of, rest_within}
use Rattle.row_sessions.proofs.Passing.{may_hold}
use Rattle.row_sessions.proofs.SentFronts.{went_none, pass_added, pass_holds, pass_ends, piece_written, piece_missed}
use Rattle.row_sessions.proofs.run.take_piece.Goals as goal

pub loop-done-init : goal.loop-done-init
loop-done-init g c = record {
  within = omega arith;
  answers = refl;
  scalars = refl;
  goes = may_hold (g.M.Stepper.answers c.args.machine.now) c.args.leaves.now c.args.lines.now (g.M.Stepper.stands c.args.machine.now) (g.K.Sink.taken c.args.out.now) c.args.held.now.bytes.items c.requires.stands c.requires.empty;
  reached = omega arith;
  faults = refl;
  stands = λ first text s. went_none (g.M.Stepper.answers c.args.machine.now) c.args.leaves.now first c.args.lines.now (g.M.Stepper.stands c.args.machine.now) (g.K.Sink.taken c.args.out.now) text c.args.held.now.bytes.items s c.requires.empty;
}

pub loop-done-preserved : goal.loop-done-preserved
loop-done-preserved g c = record {
  within = rest_within c.loop-done.done c.in_ok-done.field-0 c.args.bytes.now c.loop-done.invariant.within c.in_ok-done.ensures.count;
  answers = c.in_ok-done.ensures.answers ∙ c.loop-done.invariant.answers;
  scalars = c.in_ok-done.ensures.scalars ∙ c.loop-done.invariant.scalars;
  goes = pass_holds (g.M.Stepper.answers c.args.machine.now) (g.M.Stepper.answers c.loop-done.machine) c.args.leaves.now c.loop-done.lines c.pass_part.new.lines (g.M.Stepper.stands c.loop-done.machine) (g.M.Stepper.stands c.pass_part.new.machine) c.loop-done.held.bytes.items c.pass_part.new.held.bytes.items (g.K.Sink.taken c.loop-done.out) (g.K.Sink.taken c.pass_part.new.out) (rest_of c.loop-done.done c.args.bytes.now) c.in_ok-done.field-0
      c.loop-done.invariant.answers c.in_ok-done.ensures.passes c.in_ok-done.ensures.fits c.loop-done.invariant.goes;
  reached = omega (arith, c.loop-done.invariant.reached, c.in_ok-done.ensures.reach);
  faults = c.in_ok-done.ensures.faults ∙ c.loop-done.invariant.faults;
  stands = λ first text s.
      pass_added (g.M.Stepper.answers c.args.machine.now) (g.M.Stepper.answers c.loop-done.machine) c.args.leaves.now c.loop-done.lines c.pass_part.new.lines (g.M.Stepper.stands c.loop-done.machine) (g.M.Stepper.stands c.pass_part.new.machine) c.loop-done.held.bytes.items c.pass_part.new.held.bytes.items (g.K.Sink.taken c.args.out.now) (g.K.Sink.taken c.loop-done.out) (g.K.Sink.taken c.pass_part.new.out) text c.args.bytes.now (text_of_steps s.steps) c.loop-done.done c.in_ok-done.field-0
      c.loop-done.invariant.answers c.in_ok-done.ensures.count c.in_ok-done.ensures.passes (c.loop-done.invariant.stands first text s);
}

pub returns-in_err-done-clause-ends : goal.returns-in_err-done-clause-ends
returns-in_err-done-clause-ends g c =
    let p = err_from_is_err_and c.from_residual.result c.from_residual.ensures.1 in
    rw (p.1, p.2)
    (λ first text s. pass_ends (g.M.Stepper.answers c.args.machine.now) (g.M.Stepper.answers c.loop-done.machine) c.args.leaves.now first c.args.lines.now c.loop-done.lines c.pass_part.new.lines (g.M.Stepper.stands c.args.machine.now) (g.M.Stepper.stands c.loop-done.machine) (g.M.Stepper.stands c.pass_part.new.machine) c.loop-done.held.bytes.items c.pass_part.new.held.bytes.items (g.K.Sink.taken c.args.out.now) (g.K.Sink.taken c.loop-done.out) (g.K.Sink.taken c.pass_part.new.out) text c.args.bytes.now c.loop-done.done c.in_err-done.field-0.0
    c.loop-done.invariant.answers c.in_err-done.ensures.passes c.requires.size s (c.loop-done.invariant.stands first text s))

pub returns-in-Ok-clause-stands : goal.returns-in-Ok-clause-stands
returns-in-Ok-clause-stands g c = λ first text s.
    let past : length c.args.bytes.now ≤ c.loop-done.done = grind (arith, nat_tests, c.loop-done-test.false) in
    piece_written (g.M.Stepper.answers c.args.machine.now) c.args.leaves.now first c.args.lines.now c.loop-done.lines (g.M.Stepper.stands c.args.machine.now) (g.M.Stepper.stands c.loop-done.machine) c.loop-done.held.bytes.items (g.K.Sink.taken c.args.out.now) (g.K.Sink.taken c.loop-done.out) (g.K.Sink.taken c.flush.new.out) text c.args.bytes.now c.loop-done.done
    past s (c.loop-done.invariant.stands first text s) c.in-Ok.ensures.writes.all

pub returns-in-Err-clause-ends : goal.returns-in-Err-clause-ends
returns-in-Err-clause-ends g c = λ first text s.
    let past : length c.args.bytes.now ≤ c.loop-done.done = grind (arith, nat_tests, c.loop-done-test.false) in
    let w = c.in-Err.ensures.writes in
    piece_missed (g.M.Stepper.answers c.args.machine.now) c.args.leaves.now first c.args.lines.now c.loop-done.lines (g.M.Stepper.stands c.args.machine.now) (g.M.Stepper.stands c.loop-done.machine) c.loop-done.held.bytes.items (g.K.Sink.taken c.args.out.now) (g.K.Sink.taken c.loop-done.out) (g.K.Sink.taken c.flush.new.out) text c.args.bytes.now c.loop-done.done w.count
    past c.requires.size s (c.loop-done.invariant.stands first text s) w.short w.part
