use Rattle.std.proofs.Common.{◌≡◌, take}
use Rattle.ring_bank.proofs.block.Block.new.Given as goal

-- the words that are written so far, in the block as it came
abbrev pub invariant-loop-i : goal.invariant-loop-i
invariant-loop-i l = (l.words.words ≡ take l.i l.init) × (l.words.room ≡ l.initial.words.room) × (l.words.at ≡ l.initial.words.at)
