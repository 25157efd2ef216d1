use Rattle.std.proofs.Common.{refl}
use Rattle.c99_read.specs.UnitAt.{totals_at}
use Rattle.c99_read.proofs.heading.totals_at.Goals as goal

pub returns : goal.returns
unfolding totals_at
returns c = rw (c.in_ok-rest.ensures, c.in_ok-storage.ensures, c.in_ok-rest-2.ensures, c.in_ok-need.ensures, c.in_ok-rest-3.ensures) refl
