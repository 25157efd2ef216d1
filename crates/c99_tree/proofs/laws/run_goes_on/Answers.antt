use Rattle.c99_tree.proofs.Runs.{goes_on}
use Rattle.c99_tree.proofs.laws.run_goes_on.Goals as goal

pub returns : goal.returns
returns c = goes_on
