use Rattle.tool_top.proofs.OneFault.{one_typed}
use Rattle.compiled_runs.proofs.SameOutcomes.{run_alike}
use Rattle.compiled_runs.proofs.compiled_files_run_as_interpreted.Goals as goal

pub returns : goal.returns
returns c =
    run_alike (λ text s t a b. one_typed c.text_has_one_forest.ensures c.forest_has_one_surface.ensures text s t a.typed b.typed)
    c.texts_spell_one_unit.ensures c.programs_run_as_interpreted.ensures
