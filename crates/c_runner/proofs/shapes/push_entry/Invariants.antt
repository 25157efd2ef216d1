use Rattle.std.proofs.Common.{◌≡◌, ◌++◌, take}
use Rattle.c_runner.proofs.shapes.push_entry.Given as goal

abbrev pub invariant-loop-piece : goal.invariant-loop-piece
invariant-loop-piece l = l.out.items ≡ l.fn.out.items ++ take l.piece-index l.piece-items
