use Rattle.std.proofs.Common.{[], ◌++◌, Some, Ok, Err, false, true, ap, ◌∙◌, refl}
use Rattle.std.proofs.lemmas.Result.{err_from_is_err_and}
use Rattle.extern_rows.specs.Feeding.{next_line}
use Rattle.extern_rows.specs.Lines.{without_cr}
use Rattle.row_sessions.specs.Stepping.{output}
use Rattle.row_sessions.specs.Standing.{line_read}
use Rattle.row_sessions.proofs.Sent.{line_behind}
use Rattle.row_sessions.proofs.PartAnswers.{pushed_on, refusal_ends, part_leads, part_goes, whole_leads, may_take, line_goes, line_ends_there}
use Rattle.row_sessions.proofs.run.take_part.Goals as goal

pub returns-in-Err-clause-ends : goal.returns-in-Err-clause-ends
returns-in-Err-clause-ends g c = λ sent text s.
    refusal_ends (g.M.Stepper.answers c.args.machine.now) c.args.leaves.now (Some []) c.args.lines.now (g.M.Stepper.stands c.args.machine.now) (Some (sent ++ c.args.held.now.bytes.items)) text c.args.part.now
    c.push.new.self c.in-Err.fault c.number.result c.row_ending.result s c.requires.some c.requires.size c.push.ensures.fed c.in-Err.ensures.answer c.number.ensures c.row_ending.ensures

pub returns-then-not-pushed-clause-reach : goal.returns-then-not-pushed-clause-reach
returns-then-not-pushed-clause-reach g c =
    let o = pushed_on c.args.lines.now.feed c.args.part.now c.push.new.self c.in-Ok.pushed false c.push.ensures.fed c.in-Ok.ensures.answer c.if-not-pushed.true in
    part_leads c.args.lines.now.feed c.push.new.self c.args.part.now c.in-Ok.pushed c.requires.stands.there.feed c.requires.some o

pub returns-then-not-pushed-clause-stands : goal.returns-then-not-pushed-clause-stands
returns-then-not-pushed-clause-stands g c = λ sent text s.
    let o = pushed_on c.args.lines.now.feed c.args.part.now c.push.new.self c.in-Ok.pushed false c.push.ensures.fed c.in-Ok.ensures.answer c.if-not-pushed.true in
    part_goes (g.M.Stepper.answers c.args.machine.now) c.args.leaves.now (Some []) c.args.lines.now (record c.args.lines.now { feed = c.push.new.self }) (g.M.Stepper.stands c.args.machine.now) (Some (sent ++ c.args.held.now.bytes.items)) text c.args.part.now
    c.in-Ok.pushed s c.requires.some o refl refl

pub take_line-requires-clause-stands : goal.take_line-requires-clause-stands
take_line-requires-clause-stands g c =
    let o = pushed_on c.args.lines.now.feed c.args.part.now c.push.new.self c.in-Ok.pushed true c.push.ensures.fed c.in-Ok.ensures.answer c.if-not-pushed.false in
    (may_take (g.M.Stepper.answers c.args.machine.now) c.args.leaves.now (Some []) c.args.lines.now (g.M.Stepper.stands c.args.machine.now) (Some (c.requires.stands.sent ++ c.args.held.now.bytes.items)) c.requires.stands.text c.args.part.now
    c.push.new.self c.in-Ok.pushed c.requires.stands.there c.requires.some o).0

pub take_line-requires-clause-steps : goal.take_line-requires-clause-steps
take_line-requires-clause-steps g c =
    let o = pushed_on c.args.lines.now.feed c.args.part.now c.push.new.self c.in-Ok.pushed true c.push.ensures.fed c.in-Ok.ensures.answer c.if-not-pushed.false in
    (may_take (g.M.Stepper.answers c.args.machine.now) c.args.leaves.now (Some []) c.args.lines.now (g.M.Stepper.stands c.args.machine.now) (Some (c.requires.stands.sent ++ c.args.held.now.bytes.items)) c.requires.stands.text c.args.part.now
    c.push.new.self c.in-Ok.pushed c.requires.stands.there c.requires.some o).1

pub returns-in_err-take_line-clause-ends : goal.returns-in_err-take_line-clause-ends
returns-in_err-take_line-clause-ends g c =
    let o = pushed_on c.args.lines.now.feed c.args.part.now c.push.new.self c.in-Ok.pushed true c.push.ensures.fed c.in-Ok.ensures.answer c.if-not-pushed.false in
    let p = err_from_is_err_and c.from_residual.result c.from_residual.ensures.1 in
    rw (p.1, p.2)
    (λ sent text s. line_ends_there (g.M.Stepper.answers c.args.machine.now) c.args.leaves.now (Some []) c.args.lines.now c.push.new.self (g.M.Stepper.stands c.args.machine.now)
    (output (Some (sent ++ c.args.held.now.bytes.items)) c.args.held.now.starved) (output (Some (sent ++ c.take_line.new.held.bytes.items)) c.take_line.new.held.starved) text c.args.part.now
    c.in-Ok.pushed c.in_err-take_line.field-0.0 s c.requires.some c.requires.size o (λ rows stood. line_behind sent (g.M.Stepper.answers c.args.machine.now) rows c.push.new.self.number c.args.lines.now.steps (line_read c.args.leaves.now c.args.lines.now.header (without_cr c.push.new.self.line)) (output (Some c.args.held.now.bytes.items) c.args.held.now.starved) (output (Some c.take_line.new.held.bytes.items) c.take_line.new.held.starved) (Err c.in_err-take_line.field-0.0) (c.in_err-take_line.ensures.taken rows stood)))

pub returns-clause-reach : goal.returns-clause-reach
returns-clause-reach g c =
    let o = pushed_on c.args.lines.now.feed c.args.part.now c.push.new.self c.in-Ok.pushed true c.push.ensures.fed c.in-Ok.ensures.answer c.if-not-pushed.false in
    whole_leads c.args.lines.now.feed c.push.new.self c.next.new.self c.args.part.now c.in-Ok.pushed c.requires.stands.there.feed c.requires.some o (c.next.ensures ∙ ap next_line c.in_ok-take_line.ensures.feed)

pub returns-clause-stands : goal.returns-clause-stands
returns-clause-stands g c = λ sent text s.
    let o = pushed_on c.args.lines.now.feed c.args.part.now c.push.new.self c.in-Ok.pushed true c.push.ensures.fed c.in-Ok.ensures.answer c.if-not-pushed.false in
    line_goes (g.M.Stepper.answers c.args.machine.now) c.args.leaves.now (Some []) c.args.lines.now (record c.args.lines.now { feed = c.push.new.self }) c.take_line.new.lines (record c.take_line.new.lines { feed = c.next.new.self })
    (g.M.Stepper.stands c.args.machine.now) (g.M.Stepper.stands c.take_line.new.machine)
    (output (Some (sent ++ c.args.held.now.bytes.items)) c.args.held.now.starved) (output (Some (sent ++ c.take_line.new.held.bytes.items)) c.take_line.new.held.starved) text c.args.part.now
    c.in-Ok.pushed s c.requires.some o refl refl c.in_ok-take_line.ensures.kept (λ rows stood. line_behind sent (g.M.Stepper.answers c.args.machine.now) rows c.push.new.self.number c.args.lines.now.steps (line_read c.args.leaves.now c.args.lines.now.header (without_cr c.push.new.self.line)) (output (Some c.args.held.now.bytes.items) c.args.held.now.starved) (output (Some c.take_line.new.held.bytes.items) c.take_line.new.held.starved) (Ok tt) (c.in_ok-take_line.ensures.taken rows stood)) c.in_ok-take_line.ensures.feed c.next.ensures refl refl
