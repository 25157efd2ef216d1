use Rattle.c99_tree.proofs.Counts.{step-count}
use Rattle.c99_tree.proofs.laws.count_is_within_weight.Goals as goal

pub returns : goal.returns
returns c = step-count
