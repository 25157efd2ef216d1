use Rattle.std.proofs.Common.{◌≡◌, ◌+◌, ◌-◌, length, drop}
use Rattle.std.specs.List.{position_or_len}
use Rattle.c_runner.specs.Read.{defines_array}
use Rattle.c_runner.proofs.read.array_place.Given as goal

abbrev pub invariant-loop-i : goal.invariant-loop-i
invariant-loop-i l = position_or_len (defines_array l.x l.n) l.types ≡ l.i + position_or_len (defines_array l.x l.n) (drop l.i l.types)

abbrev pub decreases-loop-i : goal.decreases-loop-i
decreases-loop-i l = length l.types - l.i
