use Rattle.std.proofs.Common.{◌≡◌, drop, take, []}
use Rattle.c99_tree.specs.WellFormed.{each_after, is_built_from}
use Rattle.c99_ast.proofs.definitions.are_built_in_order.Given as goal

abbrev pub invariant-loop-i : goal.invariant-loop-i
invariant-loop-i l = each_after is_built_from (take l.i l.types) (drop l.i l.types) ≡ each_after is_built_from [] l.types
