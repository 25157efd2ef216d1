use Rattle.std.proofs.Common.{◌≡◌, ◌+◌, ◌*◌, drop}
use Rattle.std.specs.Prelude.{is_some}
use Rattle.c99_tree.specs.Values.{shape_within, shapes_of_fields}
use Rattle.c99_read.proofs.values.+shapes.Given as goal

abbrev pub decreases-has_shape : goal.decreases-has_shape
decreases-has_shape l = 4 * l.depth + 2

abbrev pub decreases-has_element_shape : goal.decreases-has_element_shape
decreases-has_element_shape l = 4 * l.depth + 1

abbrev pub decreases-has_struct_shape : goal.decreases-has_struct_shape
decreases-has_struct_shape l = 4 * l.depth

abbrev pub decreases-have_shapes : goal.decreases-have_shapes
decreases-have_shapes l = 4 * l.depth + 3

abbrev pub invariant-have_shapes-loop-field : goal.invariant-have_shapes-loop-field
invariant-have_shapes-loop-field l = is_some (shapes_of_fields (shape_within l.depth l.types) (drop l.field-index l.fields)) ≡ is_some (shapes_of_fields (shape_within l.depth l.types) l.fields)
