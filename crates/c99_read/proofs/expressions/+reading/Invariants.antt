use Rattle.std.proofs.Common.{◌≡◌, ◌+◌, ◌-◌, ◌*◌, map}
use Rattle.c99_tree.specs.Tree.{tree, exprs}
use Rattle.c99_read.specs.ExprAt.{onto, others_at, part_at}
use Rattle.c99_read.proofs.expressions.+reading.Given as goal

abbrev pub decreases-part : goal.decreases-part
decreases-part l = 16 * l.depth

abbrev pub decreases-others_at : goal.decreases-others_at
decreases-others_at l = 16 * l.depth + 1

abbrev pub invariant-others_at-loop-i : goal.invariant-others_at-loop-i
invariant-others_at-loop-i l =
    onto (exprs (map tree l.fn.items)) (others_at (part_at l.depth) l.fuel l.bytes) ≡ onto (exprs (map tree l.all)) (others_at (part_at l.depth) (l.fuel - l.i) l.rest)

abbrev pub decreases-list_of : goal.decreases-list_of
decreases-list_of l = 16 * l.depth + 2

abbrev pub decreases-unary : goal.decreases-unary
decreases-unary l = 16 * l.depth + 1

abbrev pub decreases-casting : goal.decreases-casting
decreases-casting l = 16 * l.depth + 1

abbrev pub decreases-conditional : goal.decreases-conditional
decreases-conditional l = 16 * l.depth + 1

abbrev pub decreases-binary : goal.decreases-binary
decreases-binary l = 16 * l.depth + 1

abbrev pub decreases-operated : goal.decreases-operated
decreases-operated l = 16 * l.depth + 2

abbrev pub decreases-tail : goal.decreases-tail
decreases-tail l = 16 * l.depth + 3

abbrev pub decreases-array_parts : goal.decreases-array_parts
decreases-array_parts l = 16 * l.depth + 3

abbrev pub decreases-struct_parts : goal.decreases-struct_parts
decreases-struct_parts l = 16 * l.depth + 3

abbrev pub decreases-compound : goal.decreases-compound
decreases-compound l = 16 * l.depth + 4

abbrev pub decreases-inside : goal.decreases-inside
decreases-inside l = 16 * l.depth + 5

abbrev pub decreases-ring : goal.decreases-ring
decreases-ring l = 16 * l.depth + 1

abbrev pub decreases-picking : goal.decreases-picking
decreases-picking l = 16 * l.depth + 1

abbrev pub decreases-not_cell : goal.decreases-not_cell
decreases-not_cell l = 16 * l.depth + 2

abbrev pub decreases-at_word : goal.decreases-at_word
decreases-at_word l = 16 * l.depth + 6

abbrev pub decreases-expr_of : goal.decreases-expr_of
decreases-expr_of l = 16 * l.depth + 7
