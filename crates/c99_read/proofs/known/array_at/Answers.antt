use Rattle.c99_read.proofs.known.array_at.Goals as goal

pub returns : goal.returns
returns c = rw (c.in_ok-rest.ensures, c.in_ok-rest-2.ensures, c.in_ok-rest-3.ensures) c.behind_number.ensures
