use Rattle.std.proofs.Common.{◌≡◌, map, drop}
use Rattle.std.specs.List.{list_any}
use Rattle.c99_tree.specs.Tree.{statement}
use Rattle.c99_tree.specs.WellFormed.{is_copy_of}
use Rattle.c99_ast.proofs.order.is_copied.Given as goal

abbrev pub invariant-loop-s : goal.invariant-loop-s
invariant-loop-s l = list_any (is_copy_of l.x) (map statement (drop l.s-index l.before)) ≡ list_any (is_copy_of l.x) (map statement l.before)
