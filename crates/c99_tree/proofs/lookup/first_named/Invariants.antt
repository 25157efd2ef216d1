use Rattle.std.proofs.Common.{◌≡◌, drop}
use Rattle.std.specs.List.{find}
use Rattle.c99_tree.specs.Words.{is_same}
use Rattle.c99_tree.proofs.lookup.first_named.Given as goal

abbrev pub invariant-loop-y : goal.invariant-loop-y
invariant-loop-y g l = find (λ z. is_same l.x (g.T.Named.named z)) (drop l.y-index l.all) ≡ find (λ z. is_same l.x (g.T.Named.named z)) l.all
