use Rattle.c99_tree.proofs.TypedRuns.{first_statics_are}
use Rattle.c99_tree.proofs.typed_laws.first_statics_have_their_types.Goals as goal

pub returns : goal.returns
returns c = first_statics_are
