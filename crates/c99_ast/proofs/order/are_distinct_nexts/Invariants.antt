use Rattle.std.proofs.Common.{◌≡◌, map, length}
use Rattle.std.specs.List.{filter_map}
use Rattle.c99_tree.specs.Tree.{statement}
use Rattle.c99_tree.specs.Words.{is_same}
use Rattle.c99_tree.specs.WellFormed.{next_of, are_distinct}
use Rattle.c99_ast.proofs.order.are_distinct_nexts.Given as goal

abbrev pub invariant-loop-left : goal.invariant-loop-left
invariant-loop-left l = are_distinct is_same (filter_map next_of (map statement l.left)) ≡ are_distinct is_same (filter_map next_of (map statement l.step))

abbrev pub decreases-loop-left : goal.decreases-loop-left
decreases-loop-left l = length l.left
