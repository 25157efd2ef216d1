use Rattle.std.proofs.Common.{ap, sym, ◌∙◌}
use Rattle.interpreter.specs.Interpreted.{extern_columns}
use Rattle.tool_top.specs.Outside.{outside}
use Rattle.tool_top.proofs.SessionsRun.{all_leaves, ran}
use Rattle.tool_top.proofs.interpreting.interpret_file.Goals as goal

pub interpret-requires : goal.interpret-requires
interpret-requires g c = c.deref.ensures.value ∙ c.in-Ok-columns.ensures ∙ ap extern_columns c.spec.ensures.spec

pub returns-clause-runs : goal.returns-clause-runs
returns-clause-runs g c =
    ran c.args.spec.now c.in-Ok.sound
    (outside (g.F.Shelf.files c.args.shelf.now) (g.F.Shelf.faults c.args.shelf.now) (g.S.Source.left c.args.input.now) (g.S.Source.faults c.args.input.now) (g.K.Sink.taken c.args.out.now) (g.K.Sink.faults c.args.out.now))
    (outside (g.F.Shelf.files c.fetch_spec.new.shelf) (g.F.Shelf.faults c.fetch_spec.new.shelf) (g.S.Source.left c.interpret.new.input) (g.S.Source.faults c.interpret.new.input) (g.K.Sink.taken c.interpret.new.out) (g.K.Sink.faults c.interpret.new.out))
    c.interpret.result c.outcome_of-outcome.result c.outcome_of-outcome.ensures c.in-Ok.ensures.same c.in-Ok.ensures.steady c.in-Ok.ensures.later c.in-Ok.ensures.ok
    c.interpret.ensures.runs c.interpret.ensures.faults

pub returns-clause-leaves : goal.returns-clause-leaves
returns-clause-leaves g c =
    all_leaves c.first_fault_is_one.ensures.meaning (g.F.Shelf.files c.args.shelf.now) c.args.spec.now c.in-Ok.sound c.outcome_of-outcome.result c.in-Ok-columns.leaves.items
    (c.in-Ok-columns.ensures ∙ ap extern_columns c.spec.ensures.spec) c.in-Ok.ensures.ok
