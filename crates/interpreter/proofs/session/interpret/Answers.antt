use Rattle.interpreter.specs.Interpreted.{interpreted}
use Rattle.std.proofs.Common.{sym, subst}
use Rattle.row_sessions.specs.Session.{RunsSession, streams}
use Rattle.row_sessions.specs.declared.ending.Ending.TheVariants.{NoMemory}
use Rattle.interpreter.proofs.Idle.{nothing_ran}
use Rattle.interpreter.proofs.session.interpret.Goals as goal

pub returns-in-Err-clause-runs : goal.returns-in-Err-clause-runs
returns-in-Err-clause-runs g c = nothing_ran (interpreted c.args.sound.now) (streams (g.S.Source.left c.args.input.now) (g.S.Source.faults c.args.input.now) (g.K.Sink.taken c.args.out.now) (g.K.Sink.faults c.args.out.now))

pub returns-clause-runs : goal.returns-clause-runs
returns-clause-runs g c =
    let left = g.S.Source.left in
    let reads = g.S.Source.faults in
    let taken = g.K.Sink.taken in
    let writes = g.K.Sink.faults in
    let sessions = interpreted c.args.sound.now in
    let before = streams (left c.args.input.now) (reads c.args.input.now) (taken c.args.out.now) (writes c.args.out.now) in
    subst (λ i. RunsSession sessions before (streams (left i) (reads i) (taken c.run.new.out) (writes c.run.new.out)) NoMemory) (sym c.in-Err-run.ensures.input)
    (subst (λ o. RunsSession sessions before (streams (left c.args.input.now) (reads c.args.input.now) (taken o) (writes o)) NoMemory) (sym c.in-Err-run.ensures.out)
    (nothing_ran sessions before))
