use Rattle.std.proofs.Common.{◌≡◌, ◌-◌, length}
use Rattle.c99_read.specs.Front.{after_all, many}
use Rattle.c99_read.specs.LineAt.{is_handler, handler_at}
use Rattle.c99_read.proofs.lines.handlers_at.Given as goal

abbrev pub invariant-loop-i : goal.invariant-loop-i
invariant-loop-i l = many is_handler handler_at (length l.bytes) l.bytes ≡ after_all l.all (many is_handler handler_at (length l.bytes - l.i) l.rest)
