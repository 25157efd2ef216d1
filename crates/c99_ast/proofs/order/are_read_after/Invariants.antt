use Rattle.std.proofs.Common.{◌≡◌, map, drop}
use Rattle.std.specs.List.{list_all, flat_map}
use Rattle.c99_tree.specs.Tree.{tree, exprs, statement}
use Rattle.c99_tree.specs.WellFormed.{is_read_after_copy, parts_of, list_of}
use Rattle.c99_ast.proofs.order.are_read_after.Given as goal

abbrev pub invariant-loop-e : goal.invariant-loop-e
invariant-loop-e l = list_all (is_read_after_copy (map statement l.before)) (flat_map parts_of (list_of (exprs (map tree (drop l.e-index l.all))))) ≡ list_all (is_read_after_copy (map statement l.before)) (flat_map parts_of (list_of (exprs (map tree l.all))))
