use Rattle.tool_top.specs.Outside.{outside}
use Rattle.tool_top.proofs.OneExecution.{all_columns, execution_ran}
use Rattle.tool_top.proofs.executing.execute_files.Goals as goal

pub returns-clause-runs : goal.returns-clause-runs
returns-clause-runs g c =
    execution_ran c.args.name.now c.in-Ok.unit
    (outside (g.F.Shelf.files c.args.shelf.now) (g.F.Shelf.faults c.args.shelf.now) (g.S.Source.left c.args.input.now) (g.S.Source.faults c.args.input.now) (g.K.Sink.taken c.args.out.now) (g.K.Sink.faults c.args.out.now))
    (outside (g.F.Shelf.files c.fetch_unit.new.shelf) (g.F.Shelf.faults c.fetch_unit.new.shelf) (g.S.Source.left c.execute.new.input) (g.S.Source.faults c.execute.new.input) (g.K.Sink.taken c.execute.new.out) (g.K.Sink.faults c.execute.new.out))
    c.execute.result c.outcome_of-outcome.result c.outcome_of-outcome.ensures c.in-Ok.ensures.same c.in-Ok.ensures.steady c.in-Ok.ensures.later c.in-Ok.ensures.ok
    c.execute.ensures.runs c.execute.ensures.faults

pub returns-clause-leaves : goal.returns-clause-leaves
returns-clause-leaves g c =
    all_columns c.texts_spell_one_unit.ensures (g.F.Shelf.files c.args.shelf.now) c.args.name.now c.in-Ok.unit c.outcome_of-outcome.result c.in-Ok-columns.leaves.items
    c.in-Ok-columns.ensures c.in-Ok.ensures.ok
