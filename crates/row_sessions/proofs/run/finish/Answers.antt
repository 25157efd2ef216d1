use Rattle.std.proofs.Common.{[], ◌++◌, Some}
use Rattle.extern_rows.specs.Lines.{without_cr}
use Rattle.row_sessions.specs.Stepping.{output}
use Rattle.row_sessions.specs.Standing.{line_read}
use Rattle.row_sessions.proofs.Parts.{finished, finished_front}
use Rattle.row_sessions.proofs.Sent.{line_behind}
use Rattle.row_sessions.proofs.run.finish.Goals as goal

pub returns-then-finish-clause-ends : goal.returns-then-finish-clause-ends
returns-then-finish-clause-ends g c = λ sent text s.
    finished (g.M.Stepper.answers c.args.machine.now) c.args.leaves.now (Some []) c.args.lines.now (g.M.Stepper.stands c.args.machine.now)
    (output (Some (sent ++ c.args.held.now.bytes.items)) c.args.held.now.starved) (output (Some (sent ++ c.take_line.new.held.bytes.items)) c.take_line.new.held.starved) text c.take_line.result
    s c.if-finish.ensures
    (λ rows stood. line_behind sent (g.M.Stepper.answers c.args.machine.now) rows c.args.lines.now.feed.number c.args.lines.now.steps (line_read c.args.leaves.now c.args.lines.now.header (without_cr c.args.lines.now.feed.line)) (output (Some c.args.held.now.bytes.items) c.args.held.now.starved) (output (Some c.take_line.new.held.bytes.items) c.take_line.new.held.starved) c.take_line.result (c.take_line.ensures.taken rows stood))

pub returns-then-finish-clause-front : goal.returns-then-finish-clause-front
returns-then-finish-clause-front g c = λ sent text s.
    finished_front (g.M.Stepper.answers c.args.machine.now) c.args.leaves.now (Some []) c.args.lines.now (g.M.Stepper.stands c.args.machine.now)
    (output (Some (sent ++ c.args.held.now.bytes.items)) c.args.held.now.starved) (output (Some (sent ++ c.take_line.new.held.bytes.items)) c.take_line.new.held.starved) text c.take_line.result
    s c.if-finish.ensures
    (λ rows stood. line_behind sent (g.M.Stepper.answers c.args.machine.now) rows c.args.lines.now.feed.number c.args.lines.now.steps (line_read c.args.leaves.now c.args.lines.now.header (without_cr c.args.lines.now.feed.line)) (output (Some c.args.held.now.bytes.items) c.args.held.now.starved) (output (Some c.take_line.new.held.bytes.items) c.take_line.new.held.starved) c.take_line.result (c.take_line.ensures.taken rows stood))
