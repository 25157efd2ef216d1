use Rattle.std.proofs.Common.{sym, subst}
use Rattle.row_sessions.specs.Session.{RunsSession, streams}
use Rattle.row_sessions.specs.declared.ending.Ending.TheVariants.{NoMemory}
use Rattle.c_runner.specs.Executed.{executed}
use Rattle.c_runner.proofs.Idle.{nothing_ran}
use Rattle.c_runner.proofs.session.execute.Goals as goal

pub returns-in-Err-clause-runs : goal.returns-in-Err-clause-runs
returns-in-Err-clause-runs g c =
    let left = g.S.Source.left in
    let reads = g.S.Source.faults in
    let taken = g.K.Sink.taken in
    let writes = g.K.Sink.faults in
    let sessions = executed c.args.unit.now in
    let before = streams (left c.args.input.now) (reads c.args.input.now) (taken c.args.out.now) (writes c.args.out.now) in
    let after = c.run.new.out in
    subst (λ i. RunsSession sessions before (streams (left i) (reads i) (taken after) (writes after)) NoMemory)
    (sym c.in-Err.ensures.input)
    (subst (λ o. RunsSession sessions before (streams (left c.args.input.now) (reads c.args.input.now) (taken o) (writes o)) NoMemory) (sym c.in-Err.ensures.out)
    (nothing_ran sessions before))
