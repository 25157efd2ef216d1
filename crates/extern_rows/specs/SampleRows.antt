-- The rows of a text.
use Rattle.std.specs.Prelude.{◌≡◌, ℕ, ◌+◌, Bool, if◌then◌else◌, List, [], ◌∷◌, ◌++◌, length, All, Option, Some, None, Result, Ok, Err, true, false}
use Rattle.extern_rows.specs.declared.fault.RowFault.{RowFault}
use Rattle.extern_rows.specs.declared.fault.RowFault.TheVariants.{LineTooLong}
use Rattle.extern_rows.specs.declared.header.Leaf.{Leaf}
use Rattle.extern_rows.specs.Lines.{is_break, parts, longest_line, limit_fault, without_cr, is_blank}
use Rattle.extern_rows.specs.Columns.{Columns, header_of, row_of}
use Rattle.extern_rows.specs.FeedStanding.{part_limit}

-- a row: its words, and the offset behind its line
pub record RowAt : Type 0 where
  pub words : List ℕ
  pub end : ℕ

-- a fault: its line's number, and the offset behind its line or, where a limit is passed, behind the byte that shows it
pub record FaultAt : Type 0 where
  pub line : ℕ
  pub fault : RowFault
  pub end : ℕ

-- the rows before the first fault, and that fault
pub record Rows : Type 0 where
  pub rows : List RowAt
  pub fault : Option FaultAt

abbrev pub no_rows : Rows
no_rows = record { rows = []; fault = None }

abbrev pub stopped : FaultAt → Rows
stopped at = record { rows = []; fault = Some at }

-- the offset behind the byte that shows a limit, in a line that begins at this offset: the first byte behind the
-- longest line, or any byte of a line that is one too many
abbrev pub limit_end : ℕ → RowFault → ℕ
limit_end begin LineTooLong = begin + longest_line + 1
limit_end begin _ = begin + 1

-- A line past a limit stops the rows.
abbrev pub within_limits : ℕ → ℕ → Option RowFault → Rows → Rows
within_limits number begin None later = later
within_limits number begin (Some fault) later = stopped (record { line = number; fault = fault; end = limit_end begin fault })

abbrev pub after_header : ℕ → ℕ → Result Columns RowFault → (Option Columns → Rows) → Rows
after_header number end (Ok columns) later = later (Some columns)
after_header number end (Err fault) later = stopped (record { line = number; fault = fault; end = end })

-- a row before others
abbrev pub row_before : RowAt → Rows → Rows
row_before row later = record { rows = row ∷ later.rows; fault = later.fault }

abbrev pub after_row : ℕ → ℕ → Result (List ℕ) RowFault → Rows → Rows
after_row number end (Ok words) later = row_before (record { words = words; end = end }) later
after_row number end (Err fault) later = stopped (record { line = number; fault = fault; end = end })

-- The first line is the header, and each other one is a row.
abbrev pub at_text : List Leaf → ℕ → ℕ → List ℕ → Option Columns → (Option Columns → Rows) → Rows
at_text leaves number end text None later = after_header number end (header_of leaves text) later
at_text leaves number end text (Some columns) later = after_row number end (row_of columns text) (later (Some columns))

-- a line of this number that ends at this offset, and then what comes behind it; a blank line is passed over
abbrev pub at_line : List Leaf → ℕ → ℕ → List ℕ → Option Columns → (Option Columns → Rows) → Rows
at_line leaves number end line header later = if is_blank (without_cr line) then later header else at_text leaves number end (without_cr line) header later

-- the rows of a text's parts, the first of which has this number and begins at this offset. The last part is a line
-- where the text has ended, and has else no fault but a limit.
abbrev pub rows_from : List Leaf → Bool → ℕ → ℕ → List (List ℕ) → Option Columns → Rows
rows_from leaves ended number offset [] header = no_rows
rows_from leaves ended number offset (rest ∷ []) header =
    within_limits number offset (part_limit number rest [])
    (if ended then at_line leaves number (offset + length rest) rest header (λ h. no_rows) else no_rows)
rows_from leaves ended number offset (line ∷ next ∷ more) header =
    within_limits number offset (limit_fault number line)
    (at_line leaves number (offset + length line + 1) line header (rows_from leaves ended (number + 1) (offset + length line + 1) (next ∷ more)))

-- the rows of a text
abbrev pub rows_in : List Leaf → Bool → List ℕ → Rows
rows_in leaves ended text = rows_from leaves ended 1 0 (parts text) None

-- A text's rows are those of its first line, and then those of what comes behind it.
abbrev pub RowsByLines : Type 0
RowsByLines = (leaves : List Leaf) (ended : Bool) (number offset : ℕ) (line text : List ℕ) (header : Option Columns)
    → All (λ b. is_break b ≡ false) line
    → rows_from leaves ended number offset (parts (line ++ 10 ∷ text)) header
    ≡ within_limits number offset (limit_fault number line)
    (at_line leaves number (offset + length line + 1) line header (rows_from leaves ended (number + 1) (offset + length line + 1) (parts text)))

-- The rest of an ended text is its last line.
abbrev pub RowsOfRest : Type 0
RowsOfRest = (leaves : List Leaf) (number offset : ℕ) (line : List ℕ) (header : Option Columns)
    → All (λ b. is_break b ≡ false) line
    → rows_from leaves true number offset (parts line) header
    ≡ within_limits number offset (part_limit number line []) (at_line leaves number (offset + length line) line header (λ h. no_rows))
