use Rattle.std.proofs.Common.{◌≡◌, map, drop, take, []}
use Rattle.std.specs.List.{list_all}
use Rattle.c99_tree.specs.Tree.{statement}
use Rattle.c99_tree.specs.WellFormed.{is_read_after_copy, parts_in, each_after}
use Rattle.c99_ast.proofs.order.copies_come_first.Given as goal

abbrev pub invariant-loop-i : goal.invariant-loop-i
invariant-loop-i l = each_after (λ before s. list_all (is_read_after_copy before) (parts_in s)) (map statement (take l.i l.step)) (map statement (drop l.i l.step)) ≡ each_after (λ before s. list_all (is_read_after_copy before) (parts_in s)) [] (map statement l.step)
