use Rattle.std.proofs.Common.{◌≡◌, ◌++◌, ◌-◌, ◌≤◌, length, take, drop}
use Rattle.c99_read.specs.Front.{word, after_word}
use Rattle.c99_read.proofs.front.split_word.Given as goal

abbrev pub invariant-loop-n : goal.invariant-loop-n
invariant-loop-n l = record {
  within : l.n ≤ length l.bytes;
  front : word l.bytes ≡ take l.n l.bytes ++ word (drop l.n l.bytes);
  rest : after_word l.bytes ≡ after_word (drop l.n l.bytes);
}

abbrev pub decreases-loop-n : goal.decreases-loop-n
decreases-loop-n l = length l.bytes - l.n
