-- The columns of a header, and the words of a row.
use Rattle.std.specs.Prelude.{◌≡◌, ℕ, ◌+◌, ◌==◌, if◌then◌else◌, List, [], ◌∷◌, map, length, slice_get, bytes_eq, Option, Some, None, Result, Ok, Err}
use Rattle.std.specs.Option.{option_and_then}
use Rattle.stream_types.specs.declared.scalar.Scalar.{Scalar}
use Rattle.extern_rows.specs.declared.fault.RowFault.{RowFault}
use Rattle.extern_rows.specs.declared.fault.RowFault.TheVariants.{NoColumn, TwoColumns, BadRecord, BadField, Memory}
use Rattle.extern_rows.specs.declared.header.Leaf.{Leaf}
use Rattle.extern_rows.specs.declared.header.Wanted.{Wanted}
use Rattle.extern_rows.specs.declared.header.Column.{Column}
use Rattle.extern_rows.specs.declared.header.Column.TheVariants.{Once, Twice}
use Rattle.extern_rows.specs.Fields.{trimmed, field_word}
use Rattle.extern_rows.specs.Records.{line_fields}

-- how many columns a header has, and the type and the column of each leaf
pub record Columns : Type 0 where
  pub width : ℕ
  pub wanted : List Wanted

-- the scalars that a header's columns are read at
abbrev pub wanted_scalars : List Wanted → List Scalar
wanted_scalars wanted = map (λ (w : Wanted). w.scalar) wanted

-- a result put before more of its kind; the first fault stays
abbrev pub before : {X : Type 0} → Result X RowFault → Result (List X) RowFault → Result (List X) RowFault
before (Err fault) more = Err fault
before (Ok x) (Err fault) = Err fault
before (Ok x) (Ok xs) = Ok (x ∷ xs)

-- ---- the header

-- the places at which a name stands among columns that are numbered from i
abbrev pub places_from : ℕ → List ℕ → List (List ℕ) → List ℕ
places_from i name [] = []
places_from i name (column ∷ columns) = if bytes_eq column name then i ∷ places_from (i + 1) name columns else places_from (i + 1) name columns

abbrev pub column_at : List ℕ → Option Column
column_at [] = None
column_at (place ∷ []) = Some (Once place)
column_at (place ∷ second ∷ more) = Some Twice

-- where a name stands among the columns' names: once, twice or more, or nowhere
abbrev pub column_of : List ℕ → List (List ℕ) → Option Column
column_of name names = column_at (places_from 0 name names)

-- the leaf of this number, where its name is a column's once
abbrev pub wanted_at : ℕ → Scalar → Option Column → Result Wanted RowFault
wanted_at i scalar None = Err (NoColumn i)
wanted_at i scalar (Some Twice) = Err (TwoColumns i)
wanted_at i scalar (Some (Once place)) = Ok (record { scalar = scalar; place = place })

-- the leaves, numbered from i
abbrev pub wanted_from : ℕ → List Leaf → List (List ℕ) → Result (List Wanted) RowFault
wanted_from i [] names = Ok []
wanted_from i (leaf ∷ leaves) names = before (wanted_at i leaf.scalar (column_of leaf.name names)) (wanted_from (i + 1) leaves names)

abbrev pub with_width : ℕ → Result (List Wanted) RowFault → Result Columns RowFault
with_width n (Ok wanted) = Ok (record { width = n; wanted = wanted })
with_width n (Err fault) = Err fault

abbrev pub columns_in : List Leaf → Option (List (List ℕ)) → Result Columns RowFault
columns_in leaves None = Err BadRecord
columns_in leaves (Some fields) = with_width (length fields) (wanted_from 0 leaves (map trimmed fields))

-- what a header line says of the leaves
abbrev pub header_of : List Leaf → List ℕ → Result Columns RowFault
header_of leaves line = columns_in leaves (line_fields line)

-- what reading a header may answer: want of memory is free
abbrev pub ReadsHeader : List Leaf → List ℕ → Result Columns RowFault → Type 0
ReadsHeader leaves line (Err Memory) = Unit {0}
ReadsHeader leaves line result = header_of leaves line ≡ result

-- ---- a row

abbrev pub cell_word : Wanted → List (List ℕ) → Option ℕ
cell_word w fields = option_and_then (λ field. field_word w.scalar (trimmed field)) (slice_get fields w.place)

abbrev pub word_at : ℕ → Option ℕ → Result ℕ RowFault
word_at i None = Err (BadField i)
word_at i (Some word) = Ok word

-- the leaves' words, numbered from i
abbrev pub words_from : ℕ → List Wanted → List (List ℕ) → Result (List ℕ) RowFault
words_from i [] fields = Ok []
words_from i (w ∷ more) fields = before (word_at i (cell_word w fields)) (words_from (i + 1) more fields)

abbrev pub words_in : Columns → Option (List (List ℕ)) → Result (List ℕ) RowFault
words_in columns None = Err BadRecord
words_in columns (Some fields) = if length fields == columns.width then words_from 0 columns.wanted fields else Err BadRecord

-- what a line says at a header's columns
abbrev pub row_of : Columns → List ℕ → Result (List ℕ) RowFault
row_of columns line = words_in columns (line_fields line)

-- what reading a row into `out` may answer: want of memory is free
abbrev pub ReadsRow : Columns → List ℕ → List ℕ → Result (Unit {0}) RowFault → Type 0
ReadsRow columns line out (Err Memory) = Unit {0}
ReadsRow columns line out (Err fault) = row_of columns line ≡ Err fault
ReadsRow columns line out (Ok _) = row_of columns line ≡ Ok out
