use Rattle.std.proofs.Common.{◌≡◌, [], map, drop}
use Rattle.extern_rows.specs.ValueTexts.{each_entry, pieces_entry}
use Rattle.c_runner.specs.Read.{read_entry, read_types}
use Rattle.c_runner.proofs.shapes.all_pieces.Given as goal

abbrev pub invariant-loop-def : goal.invariant-loop-def
invariant-loop-def l = each_entry pieces_entry l.table (map (read_entry l.types) (drop l.def-index l.types)) ≡ each_entry pieces_entry [] (read_types l.types)
