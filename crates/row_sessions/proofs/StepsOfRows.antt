-- The steps over rows, behind others.
use Rattle.std.proofs.Common.{◌≡◌, ℕ, ◌+◌, Bool, true, false, List, [], ◌∷◌, ◌++◌, length, take, Option, Some, None, Result, Ok, Err, refl, ap, sym, ◌∙◌, append_assoc, length-append}
use Rattle.std.specs.Prelude.{if◌then◌else◌}
use Rattle.std.proofs.Math.Seq.{take-append-add}
use Rattle.extern_rows.specs.declared.fault.RowFault.{RowFault}
use Rattle.extern_rows.specs.declared.header.Leaf.{Leaf}
use Rattle.extern_rows.specs.Columns.{Columns, header_of, row_of}
use Rattle.extern_rows.specs.Lines.{without_cr, is_blank}
use Rattle.extern_rows.specs.SampleRows.{RowAt, FaultAt, Rows, stopped, row_before, after_header, after_row, at_text, at_line, rows_in}
use Rattle.row_sessions.specs.Session.{SessionStep, Session, after_step, session_from, words_of, machine_sessions}
use Rattle.row_sessions.specs.Standing.{LineRead, header_read, row_read, text_read, line_read, session_after, session_behind, then_session}

-- ---- steps by the rows so far

session_is : {F : Type 0} (answers : List (List ℕ) → Result (List ℕ) F) (before : List (List ℕ)) (rows : List RowAt) (fault : Option FaultAt)
    → session_from (λ n. answers (take (n + 1) (before ++ words_of rows))) (length before) rows fault ≡ session_after answers before rows fault
session_is answers before [] fault = refl
session_is {F = F} answers before (row ∷ rows) fault =
    let all : List (List ℕ) = before ++ row.words ∷ words_of rows in
    let next : List (List ℕ) = before ++ row.words ∷ [] in
    let front : take (length before + 1) all ≡ next = take-append-add before (row.words ∷ words_of rows) 1 in
    let split : all ≡ next ++ words_of rows = sym (append_assoc before (row.words ∷ []) (words_of rows)) in
    let count : length before + 1 ≡ length next = sym (length-append before (row.words ∷ [])) in
    let tail : session_from (λ n. answers (take (n + 1) all)) (length before + 1) rows fault ≡ session_after answers next rows fault =
    ap (λ (xs : List (List ℕ)). session_from (λ n. answers (take (n + 1) xs)) (length before + 1) rows fault) split
    ∙ ap (λ (k : ℕ). session_from (λ n. answers (take (n + 1) (next ++ words_of rows))) k rows fault) count
    ∙ session_is answers next rows fault in
    ap (λ (s : Session F). after_step (length before) row.end (answers (take (length before + 1) all)) s) tail
    ∙ ap (λ (xs : List (List ℕ)). after_step (length before) row.end (answers xs) (session_after answers next rows fault)) front

pub over_is : {F : Type 0} (answers : List (List ℕ) → Result (List ℕ) F) (leaves : List Leaf) (text : List ℕ) (ended : Bool)
    → machine_sessions answers leaves text ended ≡ session_behind answers [] (rows_in leaves ended text)
over_is answers leaves text ended = session_is answers [] (rows_in leaves ended text).rows (rows_in leaves ended text).fault

-- ---- a line

abbrev pub row_then : ℕ → Option (List ℕ) → Rows → Rows
row_then end None later = later
row_then end (Some words) later = row_before (record { words = words; end = end }) later

-- what a line adds that reads so
abbrev pub read_rows : ℕ → ℕ → Result LineRead RowFault → (Option Columns → Rows) → Rows
read_rows number end (Err fault) later = stopped (record { line = number; fault = fault; end = end })
read_rows number end (Ok read) later = row_then end read.row (later read.header)

pub line_reads : (leaves : List Leaf) (number end : ℕ) (line : List ℕ) (header : Option Columns) (later : Option Columns → Rows)
    → at_line leaves number end line header later ≡ read_rows number end (line_read leaves header (without_cr line)) later
line_reads leaves number end line header later = at (is_blank (without_cr line)) where
  of_header : (r : Result Columns RowFault) → after_header number end r later ≡ read_rows number end (header_read r) later
  of_header (Ok columns) = refl
  of_header (Err fault) = refl

  of_row : (columns : Columns) (r : Result (List ℕ) RowFault) → after_row number end r (later (Some columns)) ≡ read_rows number end (row_read columns r) later
  of_row columns (Ok words) = refl
  of_row columns (Err fault) = refl

  of_text : (h : Option Columns) → at_text leaves number end (without_cr line) h later ≡ read_rows number end (text_read leaves h (without_cr line)) later
  of_text None = of_header (header_of leaves (without_cr line))
  of_text (Some columns) = of_row columns (row_of columns (without_cr line))

  at : (v : Bool) → (if v then later header else at_text leaves number end (without_cr line) header later)
      ≡ read_rows number end (if v then Ok (record { header = header; row = None }) else text_read leaves header (without_cr line)) later
  at true = refl
  at false = of_text header

-- ---- steps and more of them

pub then_row : {F : Type 0} (steps : List SessionStep) (step : SessionStep) (later : Session F)
    → then_session steps (record { steps = step ∷ later.steps; stop = later.stop }) ≡ then_session (steps ++ step ∷ []) later
then_row {F = F} steps step later =
    ap (λ (xs : List SessionStep). let s : Session F = record { steps = xs; stop = later.stop } in s) (sym (append_assoc steps (step ∷ []) later.steps))
