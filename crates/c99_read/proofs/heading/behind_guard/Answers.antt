use Rattle.c99_read.proofs.heading.behind_guard.Goals as goal

pub returns : goal.returns
returns c = rw c.bytes.ensures.bytes at c.behind_three.ensures
