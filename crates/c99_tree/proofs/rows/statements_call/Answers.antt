use Rattle.std.specs.Prelude.{refl}
use Rattle.std.specs.Fmt.{digits}
use Rattle.c99_tree.specs.Evaluation.{evaluate}
use Rattle.c99_tree.specs.Step.{carry_out_all}
use Rattle.c99_tree.specs.Values.{shape_within}
use Rattle.c99_tree.specs.Rows.{probe, probe_statics}
use Rattle.c99_tree.specs.StepRows.{step_rows}
use Rattle.c99_tree.proofs.rows.statements_call.Goals as goal

pub returns : goal.returns
unfolding step_rows probe probe_statics evaluate digits shape_within carry_out_all
returns c = record { written = refl; given = refl; weights = refl }
