use Rattle.std.proofs.Common.{◌≡◌, ◌-◌, length, codes}
use Rattle.c99_read.specs.Front.{after_all, many, begins}
use Rattle.c99_read.specs.LineAt.{def_at}
use Rattle.c99_read.proofs.lines.defs_at.Given as goal

abbrev pub invariant-loop-i : goal.invariant-loop-i
invariant-loop-i l = many (begins (codes "struct ")) def_at (length l.bytes) l.bytes ≡ after_all l.all (many (begins (codes "struct ")) def_at (length l.bytes - l.i) l.rest)
