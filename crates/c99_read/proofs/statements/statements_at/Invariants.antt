use Rattle.std.proofs.Common.{◌≡◌, ◌-◌, length, map, codes}
use Rattle.c99_tree.specs.Tree.{statement}
use Rattle.c99_read.specs.Front.{after_all, many, begins}
use Rattle.c99_read.specs.LineAt.{statement_at}
use Rattle.c99_read.proofs.statements.statements_at.Given as goal

abbrev pub invariant-loop-i : goal.invariant-loop-i
invariant-loop-i l = many (begins (codes " ")) (statement_at l.rings) (length l.bytes) l.bytes ≡ after_all (map statement l.all) (many (begins (codes " ")) (statement_at l.rings) (length l.bytes - l.i) l.rest)
