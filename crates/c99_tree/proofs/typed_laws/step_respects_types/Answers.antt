use Rattle.c99_tree.proofs.TypedRuns.{step_is}
use Rattle.c99_tree.proofs.typed_laws.step_respects_types.Goals as goal

pub returns : goal.returns
returns c = step_is
