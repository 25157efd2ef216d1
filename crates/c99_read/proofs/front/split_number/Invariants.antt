use Rattle.std.proofs.Common.{◌≡◌, ◌++◌, ◌-◌, ◌≤◌, length, take, drop}
use Rattle.c99_read.specs.Front.{number, after_number}
use Rattle.c99_read.proofs.front.split_number.Given as goal

abbrev pub invariant-loop-n : goal.invariant-loop-n
invariant-loop-n l = record {
  within : l.n ≤ length l.bytes;
  front : number l.bytes ≡ take l.n l.bytes ++ number (drop l.n l.bytes);
  rest : after_number l.bytes ≡ after_number (drop l.n l.bytes);
}

abbrev pub decreases-loop-n : goal.decreases-loop-n
decreases-loop-n l = length l.bytes - l.n
