use Rattle.std.proofs.Common.{◌≡◌, ◌++◌, ◌-◌, ◌≤◌, length, take, drop}
use Rattle.c99_read.specs.Front.{token, after_token}
use Rattle.c99_read.proofs.front.split_token.Given as goal

abbrev pub invariant-loop-n : goal.invariant-loop-n
invariant-loop-n l = record {
  within : l.n ≤ length l.bytes;
  front : token l.bytes ≡ take l.n l.bytes ++ token (drop l.n l.bytes);
  rest : after_token l.bytes ≡ after_token (drop l.n l.bytes);
}

abbrev pub decreases-loop-n : goal.decreases-loop-n
decreases-loop-n l = length l.bytes - l.n
