use Rattle.c99_tree.proofs.TypedRuns.{value_is}
use Rattle.c99_tree.proofs.typed_laws.value_has_its_type.Goals as goal

pub returns : goal.returns
returns c = value_is
