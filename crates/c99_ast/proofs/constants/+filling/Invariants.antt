use Rattle.std.proofs.Common.{◌≡◌, ◌+◌, ◌*◌, ◌-◌, drop}
use Rattle.std.specs.Prelude.{IsSome}
use Rattle.c99_tree.specs.Words.{elem_type}
use Rattle.c99_tree.specs.Values.{shape_within, shapes_of_fields}
use Rattle.c99_tree.specs.Filling.{left_of_all, left_of_times}
use Rattle.c99_ast.proofs.constants.+filling.Given as goal

abbrev pub decreases-left_of : goal.decreases-left_of
decreases-left_of l = 6 * l.depth + 4

abbrev pub decreases-left_of_array : goal.decreases-left_of_array
decreases-left_of_array l = 6 * l.depth + 3

abbrev pub decreases-left_of_elements : goal.decreases-left_of_elements
decreases-left_of_elements l = 6 * l.depth + 2

abbrev pub decreases-left_of_element : goal.decreases-left_of_element
decreases-left_of_element l = 6 * l.depth + 1

abbrev pub decreases-left_of_struct : goal.decreases-left_of_struct
decreases-left_of_struct l = 6 * l.depth

abbrev pub decreases-left_of_fields : goal.decreases-left_of_fields
decreases-left_of_fields l = 6 * l.depth + 5

abbrev pub invariant-left_of_fields-loop-field : goal.invariant-left_of_fields-loop-field
invariant-left_of_fields-loop-field l = record {
  shaped : IsSome (shapes_of_fields (shape_within l.depth l.types) (drop l.field-index l.fields));
  rest : left_of_all l.most (shapes_of_fields (shape_within l.depth l.types) (drop l.field-index l.fields)) l.left ≡ left_of_all l.most (shapes_of_fields (shape_within l.depth l.types) l.fields) l.given;
}

abbrev pub invariant-left_of_elements-loop-i : goal.invariant-left_of_elements-loop-i
invariant-left_of_elements-loop-i l = left_of_times l.most (l.n - l.i) (shape_within l.depth l.types (elem_type l.x)) l.left ≡ left_of_times l.most l.n (shape_within l.depth l.types (elem_type l.x)) l.given
