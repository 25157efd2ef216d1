use Rattle.std.proofs.Common.{◌≡◌, drop, take}
use Rattle.csv.specs.Records.{fields_of}
use Rattle.extern_rows.specs.Columns.{words_from}
use Rattle.extern_rows.specs.LeafReading.{behind}
use Rattle.extern_rows.proofs.header.read_words.Given as goal

abbrev pub invariant-loop-number : goal.invariant-loop-number
invariant-loop-number l = words_from 0 l.wanted (fields_of l.row) ≡ behind (take l.number l.out) (words_from l.number (drop l.number l.wanted) (fields_of l.row))
