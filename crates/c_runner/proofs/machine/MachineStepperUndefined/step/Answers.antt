use Rattle.std.proofs.Common.{List, sym, subst}
use Rattle.std.specs.Prelude.{All}
use Rattle.c99_tree.specs.Step.{Called}
use Rattle.c99_tree.specs.Typed.{IsCallOf}
use Rattle.row_sessions.specs.Stepping.{output}
use Rattle.c_runner.proofs.Stepped.{row_is, fault_ends, calls_fit, part_written, all_written, next_stands}
use Rattle.c_runner.proofs.machine.MachineStepperUndefined.step.Goals as goal

pub call_step-requires : goal.call_step-requires
call_step-requires g c =
    let m = c.requires.stands in
    row_is c.args.self.now.unit.now c.args.self.now.carried c.args.self.now.shapes c.args.self.now.time m.0 m.1 c.args.row.now c.requires.words

pub returns-in-Err-clause-step : goal.returns-in-Err-clause-step
returns-in-Err-clause-step g c = λ rows stood.
    fault_ends c.args.self.now.unit.now c.args.self.now.carried c.args.self.now.shapes c.args.self.now.time rows stood c.args.row.now c.requires.words
    c.call_step.new.self (output (g.K.Sink.taken c.args.out.now) (g.K.Sink.faults c.args.out.now)) c.in-Err.why c.in-Err.ensures.value

pub write_calls-requires-clause-well_formed : goal.write_calls-requires-clause-well_formed
write_calls-requires-clause-well_formed g c = c.requires.stands.1.well_formed

pub write_calls-requires-clause-calls : goal.write_calls-requires-clause-calls
write_calls-requires-clause-calls g c =
    let m = c.requires.stands in
    subst (λ (calls : List Called). All (IsCallOf c.args.self.now.unit.now) calls) (sym c.events-calls.ensures)
    (calls_fit c.args.self.now.unit.now c.args.self.now.carried c.args.self.now.shapes c.args.self.now.time m.0 m.1 c.args.row.now c.requires.words
    c.call_step.new.self _ c.in-Ok.ensures.value)

pub returns-in-Err-write_calls-clause-step : goal.returns-in-Err-write_calls-clause-step
returns-in-Err-write_calls-clause-step g c = λ rows stood.
    part_written c.args.self.now.unit.now c.args.self.now.carried c.args.self.now.shapes c.args.self.now.time rows stood c.args.row.now c.requires.words
    c.call_step.new.self _ _ c.in-Ok.ensures.value c.events-calls.ensures c.in-Err-write_calls.ensures

pub returns-clause-step : goal.returns-clause-step
returns-clause-step g c = λ rows stood.
    all_written c.args.self.now.unit.now c.args.self.now.carried c.args.self.now.shapes c.args.self.now.time rows stood c.args.row.now c.requires.words
    c.call_step.new.self _ _ c.in-Ok.ensures.value c.events-calls.ensures c.in-Ok-write_calls.ensures

pub returns-clause-next : goal.returns-clause-next
returns-clause-next g c = λ rows stood.
    next_stands c.args.self.now.unit.now c.args.self.now.carried c.args.self.now.shapes c.args.self.now.time rows stood c.args.row.now c.requires.words
    c.call_step.new.self _ c.in-Ok.ensures.value
