use Rattle.std.proofs.Common.{sym, subst}
use Rattle.std.specs.List.{AllByRecursion}
use Rattle.stream_core.specs.Eval.{Event}
use Rattle.stream_core.specs.EventWords.{AreWordsOf}
use Rattle.row_sessions.specs.Stepping.{output}
use Rattle.interpreter.proofs.Stepped.{hazard_ends, words_fit, part_written, all_written, next_stands}
use Rattle.interpreter.proofs.machine.MachineStepperHazard.step.Goals as goal

pub returns-in-Err-clause-step : goal.returns-in-Err-clause-step
returns-in-Err-clause-step g c = λ rows stood.
    hazard_ends c.args.self.now.spec.now c.args.self.now.monitor c.args.self.now.shapes c.args.self.now.time rows stood c.args.row.now c.requires.words
    (output (g.K.Sink.taken c.args.out.now) (g.K.Sink.faults c.args.out.now)) c.in-Err.hazard (c.in-Err.ensures.err rows stood.stands)

pub write_events-requires-clause-words : goal.write_events-requires-clause-words
write_events-requires-clause-words g c =
    let m = c.requires.stands in
    subst (AllByRecursion (λ (e : Event). AreWordsOf c.args.self.now.spec.now e.who e.words)) (sym c.events-events.ensures)
    (words_fit c.args.self.now.spec.now c.args.self.now.monitor c.args.self.now.shapes c.args.self.now.time m.0 m.1 c.args.row.now c.requires.words _ (c.in-Ok.ensures.ok m.0 m.1.stands).1)

pub returns-in-Err-write_events-clause-step : goal.returns-in-Err-write_events-clause-step
returns-in-Err-write_events-clause-step g c = λ rows stood.
    part_written c.args.self.now.spec.now c.args.self.now.monitor c.args.self.now.shapes c.args.self.now.time rows stood c.args.row.now c.requires.words
    _ _ (c.in-Ok.ensures.ok rows stood.stands).1 c.events-events.ensures c.in-Err-write_events.ensures

pub returns-clause-step : goal.returns-clause-step
returns-clause-step g c = λ rows stood.
    all_written c.args.self.now.spec.now c.args.self.now.monitor c.args.self.now.shapes c.args.self.now.time rows stood c.args.row.now c.requires.words
    _ _ (c.in-Ok.ensures.ok rows stood.stands).1 c.events-events.ensures c.in-Ok-write_events.ensures

pub returns-clause-next : goal.returns-clause-next
returns-clause-next g c = λ rows stood.
    next_stands c.args.self.now.spec.now c.args.self.now.monitor c.args.self.now.shapes c.args.self.now.time rows stood c.args.row.now c.requires.words
    c.step.new.self (c.in-Ok.ensures.ok rows stood.stands).0 c.in-Ok.ensures.spec
