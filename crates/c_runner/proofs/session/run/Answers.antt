use Rattle.std.proofs.Common.{List, ap, sym, ◌∙◌}
use Rattle.c99_tree.specs.declared.unit.Unit.{Unit as CUnit}
use Rattle.extern_rows.specs.declared.header.Leaf.{Leaf}
use Rattle.extern_rows.specs.Leaves.{scalars_of}
use Rattle.row_sessions.specs.Session.{streams}
use Rattle.c_runner.specs.Executed.{unit_columns}
use Rattle.c_runner.proofs.Started.{machine_ran}
use Rattle.c_runner.proofs.session.run.Goals as goal

pub run_session-requires-clause-scalars : goal.run_session-requires-clause-scalars
run_session-requires-clause-scalars g c =
    ap (λ (u : CUnit). scalars_of (unit_columns u)) c.in_ok-machine.ensures.0
    ∙ ap (λ (ls : List Leaf). scalars_of ls) (sym c.requires.leaves)

pub returns-clause-runs : goal.returns-clause-runs
returns-clause-runs g c =
    let left = g.S.Source.left in
    let reads = g.S.Source.faults in
    let taken = g.K.Sink.taken in
    let writes = g.K.Sink.faults in
    let ran = c.run_session.new in
    machine_ran c.args.unit.now c.in_ok-machine.machine.unit.now c.args.leaves.now
    (streams (left c.args.input.now) (reads c.args.input.now) (taken c.args.out.now) (writes c.args.out.now))
    (streams (left ran.input) (reads ran.input) (taken ran.out) (writes ran.out))
    c.run_session.result c.in_ok-machine.ensures.0 c.requires.leaves c.run_session.ensures.runs
