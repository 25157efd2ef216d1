use Rattle.std.proofs.Common.{◌≡◌, drop, map, length}
use Rattle.csv.specs.Records.{fields_of}
use Rattle.extern_rows.specs.Fields.{trimmed}
use Rattle.extern_rows.specs.Columns.{wanted_from}
use Rattle.extern_rows.specs.LeafReading.{behind}
use Rattle.extern_rows.proofs.header.find_leaves.Given as goal

abbrev pub invariant-loop-number : goal.invariant-loop-number
invariant-loop-number l = (length l.wanted.items ≡ l.number) × (wanted_from 0 l.leaves (map trimmed (fields_of l.row)) ≡ behind l.wanted.items (wanted_from l.number (drop l.number l.leaves) (map trimmed (fields_of l.row))))
