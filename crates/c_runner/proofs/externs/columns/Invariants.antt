use Rattle.std.proofs.Common.{◌≡◌, take}
use Rattle.std.specs.List.{flat_map}
use Rattle.c99_tree.specs.declared.types.CVar.{CVar}
use Rattle.extern_rows.specs.Leaves.{leaf_columns}
use Rattle.c_runner.specs.Read.{read_type, read_types}
use Rattle.c_runner.proofs.externs.columns.Given as goal

abbrev pub invariant-loop-x : goal.invariant-loop-x
invariant-loop-x l = l.leaves.items ≡ flat_map (λ (x : CVar). leaf_columns (read_types l.types) x.name (read_type l.types x.ty)) (take l.x-index l.x-items)
