use Rattle.c99_tree.proofs.Runs.{first_rows}
use Rattle.c99_tree.proofs.laws.run_reads_first_rows.Goals as goal

pub returns : goal.returns
returns c = first_rows
