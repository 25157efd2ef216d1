-- The rows of a text by its lines, and of a text that comes behind another.
use Rattle.std.specs.Prelude.{◌≡◌, ◌⊎◌, ℕ, ◌+◌, ◌<◌, ◌≤◌, ◌&&◌, Bool, not, true, false, nat_lt, if◌then◌else◌, List, [], ◌∷◌, ◌++◌, length, map, take, find, All, Option, Some, None, Result, Ok, Err}
use Rattle.std.specs.List.{filter, take_while, count_by}
use Rattle.std.specs.Option.{is_some, option_and_then}
use Rattle.stream_types.specs.Types.{AreWords}
use Rattle.extern_rows.specs.declared.fault.RowFault.{RowFault}
use Rattle.extern_rows.specs.declared.header.Leaf.{Leaf}
use Rattle.extern_rows.specs.Lines.{is_break, parts, limit_fault, without_cr, is_blank}
use Rattle.extern_rows.specs.Leaves.{scalars_of}
use Rattle.extern_rows.specs.Columns.{Columns, header_of, row_of}
use Rattle.extern_rows.specs.SampleRows.{RowAt, FaultAt, Rows, no_rows, stopped, within_limits, row_before, rows_from, rows_in}

-- ---- lines

-- a line: its number from 1, its bytes without a line feed, the offset at which it begins, and the offset behind it
pub record LineAt : Type 0 where
  pub number : ℕ
  pub text : List ℕ
  pub begin : ℕ
  pub end : ℕ

-- the lines of a text's parts, the first of which has this number and begins at this offset: those before a line
-- feed and, where the text has ended, the rest, if it has a byte
abbrev pub lines_from : Bool → ℕ → ℕ → List (List ℕ) → List LineAt
lines_from ended number offset [] = []
lines_from ended number offset (rest ∷ []) =
    if ended && nat_lt 0 (length rest) then record { number = number; text = rest; begin = offset; end = offset + length rest } ∷ [] else []
lines_from ended number offset (line ∷ next ∷ more) =
    record { number = number; text = line; begin = offset; end = offset + length line + 1 } ∷ lines_from ended (number + 1) (offset + length line + 1) (next ∷ more)

abbrev pub lines_in : Bool → List ℕ → List LineAt
lines_in ended text = lines_from ended 1 0 (parts text)

-- a line that isn't passed over
abbrev pub is_text : LineAt → Bool
is_text line = not (is_blank (without_cr line.text))

abbrev pub is_within : LineAt → Bool
is_within line = not (is_some (limit_fault line.number line.text))

-- ---- rows by lines

-- these rows, and unless a fault stopped them then the later ones
abbrev pub followed : List RowAt → Option FaultAt → Rows → Rows
followed rows None later = record { rows = rows ++ later.rows; fault = later.fault }
followed rows (Some fault) later = record { rows = rows; fault = Some fault }

abbrev pub then_rows : Rows → Rows → Rows
then_rows first later = followed first.rows first.fault later

abbrev pub fault_at : LineAt → RowFault → FaultAt
fault_at line fault = record { line = line.number; fault = fault; end = line.end }

abbrev pub row_at : LineAt → Result (List ℕ) RowFault → Result RowAt FaultAt
row_at line (Ok words) = Ok (record { words = words; end = line.end })
row_at line (Err fault) = Err (fault_at line fault)

-- what a line gives at a header's columns
abbrev pub line_row : Columns → LineAt → Result RowAt FaultAt
line_row columns line = row_at line (row_of columns (without_cr line.text))

abbrev pub up_to_fault : List (Result RowAt FaultAt) → Rows
up_to_fault [] = no_rows
up_to_fault (Ok row ∷ more) = row_before row (up_to_fault more)
up_to_fault (Err fault ∷ more) = stopped fault

-- the rows of the lines behind a header's
abbrev pub under_header : Result Columns RowFault → LineAt → List LineAt → Rows
under_header (Ok columns) first later = up_to_fault (map (line_row columns) later)
under_header (Err fault) first later = stopped (fault_at first fault)

-- The first of some lines is the header, and each later one is a row.
abbrev pub rows_of : List Leaf → List LineAt → Rows
rows_of leaves [] = no_rows
rows_of leaves (first ∷ later) = under_header (header_of leaves (without_cr first.text)) first later

-- the first line past a limit, as a fault
abbrev pub past_limit : List LineAt → Rows
past_limit [] = no_rows
past_limit (line ∷ more) = within_limits line.number line.begin (limit_fault line.number line.text) (past_limit more)

-- the rows of the lines before the first that goes past a limit, of those that aren't blank; then that limit. A rest
-- without a line feed may go past a limit also where the text hasn't ended.
abbrev pub rows_by_line : List Leaf → Bool → List ℕ → Rows
rows_by_line leaves ended text = then_rows (rows_of leaves (filter is_text (take_while is_within (lines_in ended text)))) (past_limit (lines_in true text))

abbrev pub RowsOfLines : Type 0
RowsOfLines = (leaves : List Leaf) (ended : Bool) (text : List ℕ) → rows_in leaves ended text ≡ rows_by_line leaves ended text

-- A row's words are words of the leaves' scalars, one for each leaf.
abbrev pub RowsAreWords : Type 0
RowsAreWords = (leaves : List Leaf) (ended : Bool) (text : List ℕ) → All (λ (row : RowAt). AreWords (scalars_of leaves) row.words) (rows_in leaves ended text).rows

-- ---- a text that comes behind another

-- some whole lines, or nothing
abbrev pub EndsLine : List ℕ → Type 0
EndsLine text = (text ≡ []) ⊎ ((front : List ℕ) × (text ≡ front ++ 10 ∷ []))

abbrev pub read_columns : Result Columns RowFault → Option Columns
read_columns (Ok columns) = Some columns
read_columns (Err fault) = None

-- the columns of a text's header: the first whole line that isn't blank
abbrev pub header_in : List Leaf → List ℕ → Option Columns
header_in leaves text = option_and_then (λ (line : LineAt). read_columns (header_of leaves (without_cr line.text))) (find is_text (lines_in false text))

-- The rows of whole lines stand before those of what comes behind them, whatever it is. The line behind them has
-- number of their parts.
abbrev pub RowsBehind : Type 0
RowsBehind = (leaves : List Leaf) (ended : Bool) (front text : List ℕ) → EndsLine front
    → rows_in leaves ended (front ++ text)
    ≡ then_rows (rows_in leaves false front) (rows_from leaves ended (count_by is_break front + 1) (length front) (parts text) (header_in leaves front))

-- The rows so far are the first of the later ones, and a fault stays the first fault.
pub record GrowsTo (so_far later : Rows) : Type 0 where
  pub rows : take (length so_far.rows) later.rows ≡ so_far.rows
  pub fault : (at : FaultAt) → so_far.fault ≡ Some at → later ≡ so_far

-- whatever comes behind a text that hasn't ended
abbrev pub RowsGrow : Type 0
RowsGrow = (leaves : List Leaf) (ended : Bool) (front text : List ℕ) → GrowsTo (rows_in leaves false front) (rows_in leaves ended (front ++ text))

-- A fault's offset isn't behind the text's end, and so many of the text's bytes show it; fewer show none.
pub record ShowsAt (leaves : List Leaf) (ended : Bool) (text : List ℕ) (at : FaultAt) : Type 0 where
  pub within : at.end ≤ length text
  pub shown : (rows_in leaves ended (take at.end text)).fault ≡ Some at
  pub first : (n : ℕ) → n < at.end → (rows_in leaves false (take n text)).fault ≡ None

abbrev pub FaultsShow : Type 0
FaultsShow = (leaves : List Leaf) (ended : Bool) (text : List ℕ) (at : FaultAt) → (rows_in leaves ended text).fault ≡ Some at → ShowsAt leaves ended text at
