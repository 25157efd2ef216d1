use Rattle.std.proofs.Common.{◌≡◌, map, drop}
use Rattle.std.specs.List.{list_all}
use Rattle.c99_tree.specs.Tree.{tree, exprs, statement}
use Rattle.c99_tree.specs.WellFormed.{is_read_after_copy, parts_of_all}
use Rattle.c99_ast.proofs.order.+reading.Given as goal

abbrev pub invariant-read_copied-loop-e : goal.invariant-read_copied-loop-e
invariant-read_copied-loop-e l = list_all (is_read_after_copy (map statement l.before)) (parts_of_all (exprs (map tree (drop l.e-index l.all)))) ≡ list_all (is_read_after_copy (map statement l.before)) (parts_of_all (exprs (map tree l.all)))
