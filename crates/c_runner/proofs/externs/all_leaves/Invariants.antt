use Rattle.std.proofs.Common.{◌≡◌, [], map, drop}
use Rattle.extern_rows.specs.Leaves.{all_tails}
use Rattle.c_runner.specs.Read.{read_entry, read_types}
use Rattle.c_runner.proofs.externs.all_leaves.Given as goal

abbrev pub invariant-loop-def : goal.invariant-loop-def
invariant-loop-def l = all_tails l.table (map (read_entry l.types) (drop l.def-index l.types)) ≡ all_tails [] (read_types l.types)
