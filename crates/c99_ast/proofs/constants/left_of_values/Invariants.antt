use Rattle.std.proofs.Common.{◌≡◌, ◌-◌}
use Rattle.c99_tree.specs.Values.{shape_of}
use Rattle.c99_tree.specs.Filling.{left_of_times}
use Rattle.c99_ast.proofs.constants.left_of_values.Given as goal

abbrev pub invariant-loop-i : goal.invariant-loop-i
invariant-loop-i l = left_of_times 8192 (l.len - l.i) (shape_of l.types l.ty) l.left ≡ left_of_times 8192 l.len (shape_of l.types l.ty) l.given
