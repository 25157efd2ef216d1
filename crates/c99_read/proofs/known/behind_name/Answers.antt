use Rattle.c99_read.proofs.known.behind_name.Goals as goal

pub returns : goal.returns
returns c = rw c.bytes.ensures.bytes at c.behind.ensures
