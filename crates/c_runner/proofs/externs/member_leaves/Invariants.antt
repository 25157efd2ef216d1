use Rattle.std.proofs.Common.{◌≡◌, ◌++◌, map, drop}
use Rattle.extern_rows.specs.Leaves.{of_members}
use Rattle.c_runner.specs.Read.{read_field}
use Rattle.c_runner.proofs.externs.member_leaves.Given as goal

abbrev pub invariant-loop-field : goal.invariant-loop-field
invariant-loop-field l = l.out.items ++ of_members l.table (map (read_field l.types) (drop l.field-index l.fields))
    ≡ of_members l.table (map (read_field l.types) l.fields)
