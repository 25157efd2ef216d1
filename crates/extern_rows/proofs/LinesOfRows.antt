-- The rows of a text are those of its lines.
use Rattle.std.proofs.Common.{◌≡◌, ℕ, ◌+◌, Bool, true, false, not, cond, nat_lt, List, [], ◌∷◌, length, map, Option, Some, None, Result, Ok, Err, refl, ap, sym, ◌∙◌, arith}
use Rattle.std.specs.Prelude.{if◌then◌else◌}
use Rattle.std.specs.List.{filter, take_while}
use Rattle.std.specs.Option.{is_some}
use Rattle.std.proofs.lemmas.List.Sums.{take_while-cons}
use Rattle.std.proofs.lemmas.Bool.Decides.{nat_tests}
use Rattle.extern_rows.specs.declared.fault.RowFault.{RowFault}
use Rattle.extern_rows.specs.declared.header.Leaf.{Leaf}
use Rattle.extern_rows.specs.Lines.{parts, limit_fault, without_cr, is_blank}
use Rattle.extern_rows.specs.FeedStanding.{part_limit}
use Rattle.extern_rows.specs.Columns.{Columns, header_of, row_of}
use Rattle.extern_rows.specs.SampleRows.{RowAt, FaultAt, Rows, no_rows, within_limits, after_header, after_row, row_before, at_text, at_line, rows_from}
use Rattle.extern_rows.specs.TextRows.{LineAt, lines_from, is_text, is_within, followed, then_rows, row_at, line_row, up_to_fault, under_header, rows_of, past_limit, RowsOfLines}

-- the rows of some lines, where a header may have been read before them
abbrev pub rows_under : List Leaf → Option Columns → List LineAt → Rows
rows_under leaves None lines = rows_of leaves lines
rows_under leaves (Some columns) lines = up_to_fault (map (line_row columns) lines)

abbrev by_line : List Leaf → Option Columns → List LineAt → List LineAt → Rows
by_line leaves header lines begun = then_rows (rows_under leaves header (filter is_text (take_while is_within lines))) (past_limit begun)

pub then_rows-row_before : (row : RowAt) (first later : Rows) → then_rows (row_before row first) later ≡ row_before row (then_rows first later)
then_rows-row_before row first later = at first.rows first.fault where
  at : (rows : List RowAt) (fault : Option FaultAt) → followed (row ∷ rows) fault later ≡ row_before row (followed rows fault later)
  at rows None = refl
  at rows (Some fault) = refl

nothing : (leaves : List Leaf) (header : Option Columns) (later : Rows) → then_rows (rows_under leaves header []) later ≡ later
nothing leaves None later = refl
nothing leaves (Some columns) later = refl

-- a line that isn't blank, before others
text_before : (leaves : List Leaf) (header : Option Columns) (line : LineAt) (texts : List LineAt) (limit : Rows) (later : Option Columns → Rows)
    → ((h : Option Columns) → later h ≡ then_rows (rows_under leaves h texts) limit)
    → at_text leaves line.number line.end (without_cr line.text) header later ≡ then_rows (rows_under leaves header (line ∷ texts)) limit
text_before leaves None line texts limit later is = at (header_of leaves (without_cr line.text)) where
  at : (r : Result Columns RowFault) → after_header line.number line.end r later ≡ then_rows (under_header r line texts) limit
  at (Ok columns) = is (Some columns)
  at (Err fault) = refl
text_before leaves (Some columns) line texts limit later is = at (row_of columns (without_cr line.text)) where
  at : (r : Result (List ℕ) RowFault) → after_row line.number line.end r (later (Some columns)) ≡ then_rows (up_to_fault (row_at line r ∷ map (line_row columns) texts)) limit
  at (Ok words) =
      let row : RowAt = record { words = words; end = line.end } in
      ap (row_before row) (is (Some columns)) ∙ sym (then_rows-row_before row (up_to_fault (map (line_row columns) texts)) limit)
  at (Err fault) = refl

-- a line before others
line_before : (leaves : List Leaf) (header : Option Columns) (line : LineAt) (lines begun : List LineAt) (later : Option Columns → Rows)
    → ((h : Option Columns) → later h ≡ by_line leaves h lines begun)
    → within_limits line.number line.begin (limit_fault line.number line.text) (at_line leaves line.number line.end line.text header later) ≡ by_line leaves header (line ∷ lines) (line ∷ begun)
line_before leaves header line lines begun later is =
    let cut : take_while is_within (line ∷ lines) ≡ cond (is_within line) (line ∷ take_while is_within lines) [] = take_while-cons is_within line lines in
    rw cut (limit (limit_fault line.number line.text) refl) where
      blank : (v : Bool) → is_blank (without_cr line.text) ≡ v
          → (if v then later header else at_text leaves line.number line.end (without_cr line.text) header later) ≡ then_rows (rows_under leaves header (filter is_text (line ∷ take_while is_within lines))) (past_limit begun)
      blank true e = rw e (is header)
      blank false e = rw e (text_before leaves header line (filter is_text (take_while is_within lines)) (past_limit begun) later is)

      limit : (o : Option RowFault) → limit_fault line.number line.text ≡ o
          → within_limits line.number line.begin o (at_line leaves line.number line.end line.text header later)
          ≡ then_rows (rows_under leaves header (filter is_text (cond (not (is_some o)) (line ∷ take_while is_within lines) []))) (within_limits line.number line.begin o (past_limit begun))
      limit None e = blank (is_blank (without_cr line.text)) refl
      limit (Some fault) e = sym (nothing leaves header (within_limits line.number line.begin (Some fault) (past_limit begun)))

-- a rest that has a byte
rest_alone : (leaves : List Leaf) (ended : Bool) (n o b : ℕ) (q : List ℕ) (header : Option Columns)
    → rows_from leaves ended n o ((b ∷ q) ∷ []) header ≡ by_line leaves header (lines_from ended n o ((b ∷ q) ∷ [])) (lines_from true n o ((b ∷ q) ∷ []))
rest_alone leaves ended n o b q header = at ended where
  rest : LineAt
  rest = record { number = n; text = b ∷ q; begin = o; end = o + length (b ∷ q) }

  some : nat_lt 0 (length (b ∷ q)) ≡ true
  some = grind (arith, nat_tests)

  limit : part_limit n (b ∷ q) [] ≡ limit_fault n (b ∷ q)
  limit = let e : nat_lt 0 (length (b ∷ q) + 0) ≡ true = grind (arith, nat_tests) in rw e refl

  open_end : (f : Option RowFault) → within_limits n o f no_rows ≡ then_rows (rows_under leaves header []) (within_limits n o f no_rows)
  open_end f = sym (nothing leaves header (within_limits n o f no_rows))

  at : (v : Bool) → rows_from leaves v n o ((b ∷ q) ∷ []) header ≡ by_line leaves header (lines_from v n o ((b ∷ q) ∷ [])) (lines_from true n o ((b ∷ q) ∷ []))
  at true = rw (limit, some) (line_before leaves header rest [] [] (λ h. no_rows) (λ h. sym (nothing leaves h no_rows)))
  at false = rw (limit, some) (open_end (limit_fault n (b ∷ q)))

pub by_lines : (leaves : List Leaf) (ended : Bool) (n o : ℕ) (ps : List (List ℕ)) (header : Option Columns)
    → rows_from leaves ended n o ps header ≡ by_line leaves header (lines_from ended n o ps) (lines_from true n o ps)
by_lines leaves ended n o [] header = sym (nothing leaves header no_rows)
by_lines leaves true n o ([] ∷ []) header = sym (nothing leaves header no_rows)
by_lines leaves false n o ([] ∷ []) header = sym (nothing leaves header no_rows)
by_lines leaves ended n o ((b ∷ q) ∷ []) header = rest_alone leaves ended n o b q header
by_lines leaves ended n o (l ∷ q ∷ qs) header =
    line_before leaves header (record { number = n; text = l; begin = o; end = o + length l + 1 }) (lines_from ended (n + 1) (o + length l + 1) (q ∷ qs)) (lines_from true (n + 1) (o + length l + 1) (q ∷ qs))
    (rows_from leaves ended (n + 1) (o + length l + 1) (q ∷ qs)) (by_lines leaves ended (n + 1) (o + length l + 1) (q ∷ qs))

pub rows_of_lines : RowsOfLines
rows_of_lines leaves ended text = by_lines leaves ended 1 0 (parts text) None
