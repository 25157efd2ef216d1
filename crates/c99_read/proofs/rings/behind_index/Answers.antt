use Rattle.c99_read.proofs.rings.behind_index.Goals as goal

pub returns : goal.returns
returns c = rw c.bytes.ensures.bytes at c.behind_three.ensures
