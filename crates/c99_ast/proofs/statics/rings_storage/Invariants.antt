use Rattle.std.proofs.Common.{◌≡◌, drop, take}
use Rattle.std.specs.Prelude.{IsTrue, is_some}
use Rattle.std.specs.List.{list_all, sum_by}
use Rattle.c99_ast.specs.Bound.{up_to_bound}
use Rattle.c99_tree.specs.Values.{shape_of}
use Rattle.c99_tree.specs.Storage.{ring_storage}
use Rattle.c99_ast.proofs.statics.rings_storage.Given as goal

abbrev pub invariant-loop-r : goal.invariant-loop-r
invariant-loop-r l = record {
  total_is : l.total ≡ up_to_bound (sum_by (ring_storage l.types) (take l.r-index l.rings));
  shaped : IsTrue (list_all (λ r. is_some (shape_of l.types r.ty)) (drop l.r-index l.rings));
}
