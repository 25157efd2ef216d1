use Rattle.std.proofs.Common.{◌≡◌, map, drop, take, []}
use Rattle.c99_tree.specs.Tree.{statement}
use Rattle.c99_tree.specs.WellFormed.{is_written_after_next, each_after}
use Rattle.c99_ast.proofs.order.nexts_come_first.Given as goal

abbrev pub invariant-loop-i : goal.invariant-loop-i
invariant-loop-i l = each_after is_written_after_next (map statement (take l.i l.step)) (map statement (drop l.i l.step)) ≡ each_after is_written_after_next [] (map statement l.step)
