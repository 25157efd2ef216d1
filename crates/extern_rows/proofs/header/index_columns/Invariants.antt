use Rattle.std.proofs.Common.{◌≡◌, ℕ, List, map, take, bytes_eq}
use Rattle.std.specs.HashMap as hash
use Rattle.csv.specs.Records.{fields_of}
use Rattle.extern_rows.specs.Fields.{trimmed}
use Rattle.extern_rows.specs.Columns.{column_of}
use Rattle.extern_rows.proofs.header.index_columns.Given as goal

abbrev pub invariant-loop-place : goal.invariant-loop-place
invariant-loop-place l = (q : List ℕ) → hash.get_by (λ k. bytes_eq q k.now) l.columns ≡ column_of q (map trimmed (take l.place (fields_of l.row)))
