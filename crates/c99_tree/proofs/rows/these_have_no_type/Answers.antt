use Rattle.std.specs.Prelude.{refl}
use Rattle.std.specs.Fmt.{digits}
use Rattle.c99_tree.specs.Rows.{probe}
use Rattle.c99_tree.specs.UntypedRows.{untyped_rows}
use Rattle.c99_tree.proofs.rows.these_have_no_type.Goals as goal

pub returns : goal.returns
unfolding probe untyped_rows digits
returns c = record { written = refl; types = refl }
