use Rattle.std.proofs.Common.{◌≡◌, map, drop}
use Rattle.std.specs.Prelude.{nat_le}
use Rattle.c99_tree.specs.Tree.{tree, exprs}
use Rattle.c99_tree.specs.Spelling.{highest}
use Rattle.c99_tree.proofs.heights.+lowness.Given as goal

abbrev pub invariant-are_low-loop-e : goal.invariant-are_low-loop-e
invariant-are_low-loop-e l = nat_le (highest (exprs (map tree (drop l.e-index l.all)))) l.most ≡ nat_le (highest (exprs (map tree l.all))) l.most
