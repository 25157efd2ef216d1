use Rattle.std.specs.Prelude.{refl}
use Rattle.std.specs.Fmt.{digits}
use Rattle.c99_tree.specs.Evaluation.{evaluate}
use Rattle.c99_tree.specs.Values.{shape_within}
use Rattle.c99_tree.specs.Rows.{probe, probe_statics}
use Rattle.c99_tree.specs.OperatorRows.{operator_rows}
use Rattle.c99_tree.proofs.rows.operators_give.Goals as goal

pub returns : goal.returns
unfolding operator_rows probe probe_statics evaluate digits shape_within
returns c = record { written = refl; types = refl; given = refl; weights = refl }
