use Rattle.c99_tree.proofs.TypedRuns.{run_is}
use Rattle.c99_tree.proofs.typed_laws.run_respects_types.Goals as goal

pub returns : goal.returns
returns c = run_is
