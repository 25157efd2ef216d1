use Rattle.std.proofs.Common.{◌≡◌, ◌+◌, ◌-◌, length, drop}
use Rattle.std.specs.List.{position_or_len}
use Rattle.c_runner.specs.Read.{defines_struct}
use Rattle.c_runner.proofs.read.struct_place.Given as goal

abbrev pub invariant-loop-i : goal.invariant-loop-i
invariant-loop-i l = position_or_len (defines_struct l.x) l.types ≡ l.i + position_or_len (defines_struct l.x) (drop l.i l.types)

abbrev pub decreases-loop-i : goal.decreases-loop-i
decreases-loop-i l = length l.types - l.i
