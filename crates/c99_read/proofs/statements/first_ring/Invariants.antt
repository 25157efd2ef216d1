use Rattle.std.proofs.Common.{◌≡◌, drop}
use Rattle.std.specs.List.{find}
use Rattle.c99_tree.specs.Words.{is_same}
use Rattle.c99_read.proofs.statements.first_ring.Given as goal

abbrev pub invariant-loop-x : goal.invariant-loop-x
invariant-loop-x l = find (λ z. is_same l.r z.name) (drop l.x-index l.rings) ≡ find (λ z. is_same l.r z.name) l.rings
