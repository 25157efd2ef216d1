use Rattle.std.proofs.Common.{◌≡◌, ◌+◌, ◌*◌, ◌≤◌, drop}
use Rattle.std.specs.Prelude.{IsSome}
use Rattle.c99_ast.specs.Bound.{up_to_bound}
use Rattle.c99_tree.specs.Values.{shape_within, shapes_of_fields}
use Rattle.c99_tree.specs.Storage.{sizes_or_none}
use Rattle.c99_ast.proofs.statics.+sizing.Given as goal

abbrev pub decreases-size_of : goal.decreases-size_of
decreases-size_of l = 4 * l.depth + 2

abbrev pub decreases-size_of_element : goal.decreases-size_of_element
decreases-size_of_element l = 4 * l.depth + 1

abbrev pub decreases-size_of_struct : goal.decreases-size_of_struct
decreases-size_of_struct l = 4 * l.depth

abbrev pub decreases-size_of_fields : goal.decreases-size_of_fields
decreases-size_of_fields l = 4 * l.depth + 3

abbrev pub invariant-size_of_fields-loop-field : goal.invariant-size_of_fields-loop-field
invariant-size_of_fields-loop-field l = record {
  bounded : l.total ≤ 4294967296;
  shaped : IsSome (shapes_of_fields (shape_within l.depth l.types) (drop l.field-index l.fields));
  rest : up_to_bound (l.total + sizes_or_none (shapes_of_fields (shape_within l.depth l.types) (drop l.field-index l.fields))) ≡ up_to_bound (sizes_or_none (shapes_of_fields (shape_within l.depth l.types) l.fields));
}
