use Rattle.c99_read.proofs.Behind.{array_goes}
use Rattle.c99_read.proofs.known.behind_array.Goals as goal

pub returns : goal.returns
returns c = rw (array_goes c.args.x.now c.args.n c.args.bytes.now) c.array_at.ensures
