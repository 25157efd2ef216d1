use Rattle.std.proofs.Common.{◌≡◌, map, length}
use Rattle.c99_tree.specs.Words.{is_same}
use Rattle.c99_tree.specs.WellFormed.{are_distinct}
use Rattle.c99_ast.proofs.definitions.are_distinct_names.Given as goal

abbrev pub invariant-loop-left : goal.invariant-loop-left
invariant-loop-left g l = are_distinct is_same (map g.T.Named.named l.left) ≡ are_distinct is_same (map g.T.Named.named l.all)

abbrev pub decreases-loop-left : goal.decreases-loop-left
decreases-loop-left g l = length l.left
