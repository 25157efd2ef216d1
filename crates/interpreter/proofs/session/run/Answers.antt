use Rattle.std.proofs.Common.{ap, sym, ◌∙◌}
use Rattle.stream_core.specs.Value.{SpecValue}
use Rattle.stream_core.specs.Eval.{row_leaves}
use Rattle.stream_core.specs.Meaning.{closed_spec}
use Rattle.extern_rows.specs.Leaves.{scalars_of}
use Rattle.row_sessions.specs.Session.{streams}
use Rattle.interpreter.proofs.Started.{machine_ran}
use Rattle.interpreter.proofs.session.run.Goals as goal

pub run_session-requires-clause-scalars : goal.run_session-requires-clause-scalars
run_session-requires-clause-scalars g c =
    ap (λ (s : SpecValue). row_leaves (closed_spec s)) c.in_ok-machine.ensures.0
    ∙ sym c.columns_fit_rows.ensures.scalars
    ∙ ap scalars_of (sym c.requires.leaves)

pub returns-clause-runs : goal.returns-clause-runs
returns-clause-runs g c =
    machine_ran c.args.sound.now c.in_ok-machine.machine.spec.now c.args.leaves.now
    (streams (g.S.Source.left c.args.input.now) (g.S.Source.faults c.args.input.now) (g.K.Sink.taken c.args.out.now) (g.K.Sink.faults c.args.out.now))
    (streams (g.S.Source.left c.run_session.new.input) (g.S.Source.faults c.run_session.new.input) (g.K.Sink.taken c.run_session.new.out) (g.K.Sink.faults c.run_session.new.out))
    c.run_session.result c.in_ok-machine.ensures.0 c.requires.leaves c.run_session.ensures.runs
