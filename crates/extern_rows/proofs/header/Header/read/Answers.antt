use Rattle.extern_rows.proofs.RowWords.{found_scalars}
use Rattle.extern_rows.proofs.header.Header.read.Goals as goal

pub returns-clause-scalars : goal.returns-clause-scalars
returns-clause-scalars c = found_scalars c.args.leaves.now _ c.in_ok-wanted.wanted c.in_ok-wanted.ensures.reads
