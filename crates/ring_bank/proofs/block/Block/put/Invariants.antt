use Rattle.std.proofs.Common.{◌≡◌, take}
use Rattle.ring_bank.specs.Layout.{written}
use Rattle.ring_bank.proofs.block.Block.put.Given as goal

-- the words that are written so far
abbrev pub invariant-loop-i : goal.invariant-loop-i
invariant-loop-i l = l.self.words.words ≡ written l.at (take l.i l.run) l.initial.self.words.words
