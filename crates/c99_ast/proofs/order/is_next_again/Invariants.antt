use Rattle.std.proofs.Common.{◌≡◌, map, drop}
use Rattle.std.specs.List.{list_any, filter_map}
use Rattle.c99_tree.specs.Tree.{statement}
use Rattle.c99_tree.specs.Words.{is_same}
use Rattle.c99_tree.specs.WellFormed.{next_of}
use Rattle.c99_ast.proofs.order.is_next_again.Given as goal

abbrev pub invariant-loop-s : goal.invariant-loop-s
invariant-loop-s l = list_any (is_same l.r) (filter_map next_of (map statement (drop l.s-index l.rest))) ≡ list_any (is_same l.r) (filter_map next_of (map statement l.rest))
