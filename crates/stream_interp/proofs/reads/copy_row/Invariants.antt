use Rattle.std.proofs.Common.{◌≡◌, take}
use Rattle.ring_bank.specs.RingRows.{ring_at, row_at}
use Rattle.stream_interp.proofs.reads.copy_row.Given as goal

abbrev pub invariant-loop-i : goal.invariant-loop-i
invariant-loop-i l = take l.i l.out ≡ take l.i (row_at (ring_at l.rings l.ring) l.k)
