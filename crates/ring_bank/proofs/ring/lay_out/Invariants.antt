use Rattle.std.proofs.Common.{◌≡◌, ◌+◌, ◌++◌, ◌≤◌, drop}
use Rattle.ring_bank.specs.RingRows.{words_of}
use Rattle.ring_bank.specs.Layout.{rings_from}
use Rattle.ring_bank.proofs.ring.lay_out.Given as goal

-- the rings so far, and those of the shapes that are left
abbrev pub invariant-loop-shape : goal.invariant-loop-shape
invariant-loop-shape l =
    (l.rings.items ++ rings_from l.base (drop l.shape-index l.shapes) ≡ rings_from 0 l.shapes)
    × (l.base + words_of (drop l.shape-index l.shapes) ≤ 262144)
