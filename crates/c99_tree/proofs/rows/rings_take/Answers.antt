use Rattle.std.specs.Prelude.{refl}
use Rattle.c99_tree.specs.Values.{shape_within}
use Rattle.c99_tree.specs.Rows.{probe}
use Rattle.c99_tree.specs.StorageRows.{storage_rows}
use Rattle.c99_tree.proofs.rows.rings_take.Goals as goal

pub returns : goal.returns
unfolding probe storage_rows shape_within
returns c = record { rings = refl; all = refl }
