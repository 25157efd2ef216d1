use Rattle.std.proofs.Common.{◌≡◌, drop, take}
use Rattle.std.specs.Prelude.{IsTrue, is_some}
use Rattle.std.specs.List.{list_all, sum_by}
use Rattle.c99_ast.specs.Bound.{up_to_bound}
use Rattle.c99_tree.specs.Values.{shape_of}
use Rattle.c99_tree.specs.Storage.{copy_storage}
use Rattle.c99_ast.proofs.statics.copies_storage.Given as goal

abbrev pub invariant-loop-x : goal.invariant-loop-x
invariant-loop-x l = record {
  total_is : l.total ≡ up_to_bound (sum_by (copy_storage l.types) (take l.x-index l.externs));
  shaped : IsTrue (list_all (λ x. is_some (shape_of l.types x.ty)) (drop l.x-index l.externs));
}
