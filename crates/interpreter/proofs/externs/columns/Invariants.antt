use Rattle.std.proofs.Common.{◌≡◌, take}
use Rattle.std.specs.List.{flat_map}
use Rattle.stream_core.specs.declared.spec.ExternItem.{ExternItem}
use Rattle.extern_rows.specs.Leaves.{leaf_columns}
use Rattle.interpreter.proofs.externs.columns.Given as goal

abbrev pub invariant-loop-x : goal.invariant-loop-x
invariant-loop-x l = l.leaves.items ≡ flat_map (λ (x : ExternItem). leaf_columns l.spec.types x.name x.ty) (take l.x-index l.spec.externs)
