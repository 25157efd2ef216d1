use Rattle.std.proofs.Common.{◌≡◌, ◌-◌, length, codes, [], ◌∷◌}
use Rattle.c99_read.specs.Front.{after_all, many, begins}
use Rattle.c99_read.specs.LineAt.{param_at}
use Rattle.c99_read.proofs.lines.more_params_at.Given as goal

abbrev pub invariant-loop-i : goal.invariant-loop-i
invariant-loop-i l = after_all (l.fn.first ∷ []) (many (begins (codes ", ")) param_at (length l.bytes) l.bytes) ≡ after_all l.all (many (begins (codes ", ")) param_at (length l.bytes - l.i) l.rest)
