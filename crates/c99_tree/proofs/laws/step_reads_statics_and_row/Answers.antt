use Rattle.c99_tree.proofs.Runs.{next_step}
use Rattle.c99_tree.proofs.laws.step_reads_statics_and_row.Goals as goal

pub returns : goal.returns
returns c = next_step
