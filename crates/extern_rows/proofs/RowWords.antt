-- The words of rows are words of their leaves' scalars.
use Rattle.std.proofs.Common.{◌≡◌, ℕ, zero, suc, ◌+◌, ◌==◌, Bool, true, false, List, [], ◌∷◌, length, map, ◌≤◌, slice_get, Option, Some, None, Result, Ok, Err, refl, ap, sym, ◌∙◌, arith, All, subst}
use Rattle.std.specs.Prelude.{ℤ, IsTrue, IfOk, if◌then◌else◌, bytes_eq, codes}
use Rattle.std.specs.Global.{Vec}
use Rattle.std.specs.Option.{option_and_then}
use Rattle.stream_types.specs.declared.scalar.Scalar.{Scalar}
use Rattle.stream_types.specs.declared.scalar.Scalar.TheVariants as scalar
use Rattle.stream_types.specs.Scalars.{bits, signed}
use Rattle.stream_types.specs.Numbers.{in_range, is_word_at, is_word, word}
use Rattle.stream_types.specs.Types.{AreWords}
use Rattle.stream_types.proofs.Ranges.{is_word_at-word, bits_some}
use Rattle.spec_words.specs.Words.{truth_of}
use Rattle.spec_words.specs.Magnitudes.{word_in}
use Rattle.spec_words.proofs.LiteralLaws.{truth_word}
use Rattle.extern_rows.specs.declared.fault.RowFault.{RowFault}
use Rattle.extern_rows.specs.declared.fault.RowFault.TheVariants.{BadRecord}
use Rattle.extern_rows.specs.declared.header.Leaf.{Leaf}
use Rattle.extern_rows.specs.declared.header.Wanted.{Wanted}
use Rattle.extern_rows.specs.declared.header.Column.{Column}
use Rattle.extern_rows.specs.declared.header.Column.TheVariants.{Once, Twice}
use Rattle.extern_rows.specs.Fields.{trimmed, field_truth, field_number, field_word}
use Rattle.extern_rows.specs.Columns.{Columns, before, column_of, wanted_at, wanted_from, wanted_scalars, with_width, columns_in, header_of, cell_word, word_at, words_from, words_in, row_of}
use Rattle.extern_rows.specs.LeafReading.{ReadsWanted, ReadsWords}
use Rattle.extern_rows.specs.Leaves.{scalars_of}
use Rattle.extern_rows.specs.Records.{line_fields}
use Rattle.extern_rows.specs.Lines.{parts, limit_fault, without_cr, is_blank}
use Rattle.extern_rows.specs.FeedStanding.{part_limit}
use Rattle.extern_rows.specs.SampleRows.{RowAt, Rows, no_rows, within_limits, after_header, after_row, at_text, at_line, rows_from, rows_in}
use Rattle.extern_rows.specs.TextRows.{RowsAreWords}

-- ---- fields

in_range_word : (s : Scalar) (z : ℤ) (w : ℕ) (n : ℕ) (sign : Bool) → 1 ≤ n → n ≤ 64 → bits s ≡ n → signed s ≡ sign → word_in s z ≡ Some w → IsTrue (is_word_at n sign w)
in_range_word s z w n sign low high b g h = at (in_range n sign z) refl (rw (b, g) at h) where
  at : (v : Bool) → in_range n sign z ≡ v → (if v then Some (word z) else None) ≡ Some w → IsTrue (is_word_at n sign w)
  at true e q = let is : word z ≡ w = cc in rw (← is) (is_word_at-word n sign z low high e)
  at false e q = absurd (cc)

bits_high : (s : Scalar) → bits s ≤ 64
bits_high scalar.Bool = omega arith
bits_high scalar.Int8 = omega arith
bits_high scalar.Int16 = omega arith
bits_high scalar.Int32 = omega arith
bits_high scalar.Int64 = omega arith
bits_high scalar.Word8 = omega arith
bits_high scalar.Word16 = omega arith
bits_high scalar.Word32 = omega arith
bits_high scalar.Word64 = omega arith

word_in-is_word : (s : Scalar) (z : ℤ) (w : ℕ) → word_in s z ≡ Some w → IsTrue (is_word_at (bits s) (signed s) w)
word_in-is_word s z w h = in_range_word s z w (bits s) (signed s) (bits_some s) (bits_high s) refl refl h

integer_word : (s : Scalar) (o : Option ℤ) (w : ℕ) → option_and_then (word_in s) o ≡ Some w → IsTrue (is_word_at (bits s) (signed s) w)
integer_word s None w h = absurd (cc)
integer_word s (Some z) w h = word_in-is_word s z w h

field_truth-word : (text : List ℕ) (w : ℕ) → field_truth text ≡ Some w → IsTrue (is_word scalar.Bool w)
field_truth-word text w h = at (bytes_eq text (codes "1")) (bytes_eq text (codes "0")) h where
  at : (a b : Bool) → (if a then Some 1 else if b then Some 0 else truth_of text) ≡ Some w → IsTrue (is_word scalar.Bool w)
  at true b q = let e : 1 ≡ w = cc in rw (← e) refl
  at false true q = let e : 0 ≡ w = cc in rw (← e) refl
  at false false q = truth_word text w q

pub field_word-is_word : (s : Scalar) (text : List ℕ) (w : ℕ) → field_word s text ≡ Some w → IsTrue (is_word s w)
field_word-is_word scalar.Bool text w h = field_truth-word text w h
field_word-is_word scalar.Int8 text w h = integer_word scalar.Int8 (field_number text) w h
field_word-is_word scalar.Int16 text w h = integer_word scalar.Int16 (field_number text) w h
field_word-is_word scalar.Int32 text w h = integer_word scalar.Int32 (field_number text) w h
field_word-is_word scalar.Int64 text w h = integer_word scalar.Int64 (field_number text) w h
field_word-is_word scalar.Word8 text w h = integer_word scalar.Word8 (field_number text) w h
field_word-is_word scalar.Word16 text w h = integer_word scalar.Word16 (field_number text) w h
field_word-is_word scalar.Word32 text w h = integer_word scalar.Word32 (field_number text) w h
field_word-is_word scalar.Word64 text w h = integer_word scalar.Word64 (field_number text) w h

cell_word-is_word : (w : Wanted) (fields : List (List ℕ)) (n : ℕ) → cell_word w fields ≡ Some n → IsTrue (is_word w.scalar n)
cell_word-is_word w fields n h = at (slice_get fields w.place) h where
  at : (o : Option (List ℕ)) → option_and_then (λ field. field_word w.scalar (trimmed field)) o ≡ Some n → IsTrue (is_word w.scalar n)
  at None q = absurd (cc)
  at (Some field) q = field_word-is_word w.scalar (trimmed field) n q

-- ---- rows

pub words_from-words : (i : ℕ) (wanted : List Wanted) (fields : List (List ℕ)) (ws : List ℕ) → words_from i wanted fields ≡ Ok ws → AreWords (wanted_scalars wanted) ws
words_from-words i [] fields [] h = tt
words_from-words i [] fields (w ∷ ws) h = absurd (cc)
words_from-words i (x ∷ more) fields ws h = at (λ vs e. words_from-words (i + 1) more fields vs e) (cell_word x fields) refl (words_from (i + 1) more fields) refl ws h where
  at : ((vs : List ℕ) → words_from (i + 1) more fields ≡ Ok vs → AreWords (wanted_scalars more) vs) → (o : Option ℕ) → cell_word x fields ≡ o → (r : Result (List ℕ) RowFault) → words_from (i + 1) more fields ≡ r → (vs : List ℕ) → before (word_at i o) r ≡ Ok vs → AreWords (wanted_scalars (x ∷ more)) vs
  at later None e r f vs q = absurd (cc)
  at later (Some n) e (Err fault) f vs q = absurd (cc)
  at later (Some n) e (Ok ns) f vs q =
      let is : n ∷ ns ≡ vs = cc in
      rw (← is) (cell_word-is_word x fields n e, later ns f)

pub read_row : (wanted : List Wanted) (fields : List (List ℕ)) (out : List ℕ) (r : Result (Unit {0}) RowFault) → ReadsWords wanted fields out r → IfOk r (λ _. AreWords (wanted_scalars wanted) out)
read_row wanted fields out (Ok u) h = words_from-words 0 wanted fields out h
read_row wanted fields out (Err fault) h = tt

pub row_of-words : (columns : Columns) (line ws : List ℕ) → row_of columns line ≡ Ok ws → AreWords (wanted_scalars columns.wanted) ws
row_of-words columns line ws h = at (line_fields line) h where
  fit : (fields : List (List ℕ)) (v : Bool) → (if v then words_from 0 columns.wanted fields else Err BadRecord) ≡ Ok ws → AreWords (wanted_scalars columns.wanted) ws
  fit fields true q = words_from-words 0 columns.wanted fields ws q
  fit fields false q = absurd (cc)

  at : (o : Option (List (List ℕ))) → words_in columns o ≡ Ok ws → AreWords (wanted_scalars columns.wanted) ws
  at None q = absurd (cc)
  at (Some fields) q = fit fields (length fields == columns.width) q

-- ---- headers

pub wanted_from-scalars : (i : ℕ) (leaves : List Leaf) (names : List (List ℕ)) (ws : List Wanted) → wanted_from i leaves names ≡ Ok ws → wanted_scalars ws ≡ scalars_of leaves
wanted_from-scalars i [] names [] h = refl
wanted_from-scalars i [] names (w ∷ ws) h = absurd (cc)
wanted_from-scalars i (leaf ∷ leaves) names ws h = at (λ more e. wanted_from-scalars (i + 1) leaves names more e) (column_of leaf.name names) (wanted_from (i + 1) leaves names) refl h where
  at : ((more : List Wanted) → wanted_from (i + 1) leaves names ≡ Ok more → wanted_scalars more ≡ scalars_of leaves) → (o : Option Column) (r : Result (List Wanted) RowFault) → wanted_from (i + 1) leaves names ≡ r → before (wanted_at i leaf.scalar o) r ≡ Ok ws → wanted_scalars ws ≡ scalars_of (leaf ∷ leaves)
  at later None r f q = absurd (cc)
  at later (Some Twice) r f q = absurd (cc)
  at later (Some (Once place)) (Err fault) f q = absurd (cc)
  at later (Some (Once place)) (Ok more) f q =
      let one : Wanted = record { scalar = leaf.scalar; place = place } in
      let is : one ∷ more ≡ ws = cc in
      rw (← is) (ap (λ (ss : List Scalar). leaf.scalar ∷ ss) (later more f))

pub found_scalars : (leaves : List Leaf) (names : List (List ℕ)) (ws : Vec Wanted) → ReadsWanted leaves names (Ok ws) → wanted_scalars ws.items ≡ scalars_of leaves
found_scalars leaves names ws h = wanted_from-scalars 0 leaves names ws.items h

pub header_of-scalars : (leaves : List Leaf) (line : List ℕ) (columns : Columns) → header_of leaves line ≡ Ok columns → wanted_scalars columns.wanted ≡ scalars_of leaves
header_of-scalars leaves line columns h = at (line_fields line) h where
  found : (n : ℕ) (names : List (List ℕ)) (r : Result (List Wanted) RowFault) → wanted_from 0 leaves names ≡ r → with_width n r ≡ Ok columns → wanted_scalars columns.wanted ≡ scalars_of leaves
  found n names (Err fault) f q = absurd (cc)
  found n names (Ok ws) f q =
      let made : Columns = record { width = n; wanted = ws } in
      let is : made ≡ columns = cc in
      ap (λ (c : Columns). wanted_scalars c.wanted) (sym is) ∙ wanted_from-scalars 0 leaves names ws f

  at : (o : Option (List (List ℕ))) → columns_in leaves o ≡ Ok columns → wanted_scalars columns.wanted ≡ scalars_of leaves
  at None q = absurd (cc)
  at (Some fields) q = found (length fields) (map trimmed fields) (wanted_from 0 leaves (map trimmed fields)) refl q

-- ---- the rows of a text

abbrev AllWords : List Leaf → List RowAt → Type 0
AllWords leaves [] = Unit {0}
AllWords leaves (row ∷ rows) = AreWords (scalars_of leaves) row.words × AllWords leaves rows

abbrev IsHeaderOf : List Leaf → Option Columns → Type 0
IsHeaderOf leaves None = Unit {0}
IsHeaderOf leaves (Some columns) = wanted_scalars columns.wanted ≡ scalars_of leaves

line_words : (leaves : List Leaf) (n o end : ℕ) (line : List ℕ) (fault : Option RowFault) (header : Option Columns) (later : Option Columns → Rows) → IsHeaderOf leaves header
    → ((h : Option Columns) → IsHeaderOf leaves h → AllWords leaves (later h).rows) → AllWords leaves (within_limits n o fault (at_line leaves n end line header later)).rows
line_words leaves n o end line (Some fault) header later good all = tt
line_words leaves n o end line None header later good all = blank (is_blank (without_cr line)) header good where
  text : List ℕ
  text = without_cr line

  row : (columns : Columns) → IsHeaderOf leaves (Some columns) → (r : Result (List ℕ) RowFault) → row_of columns text ≡ r → AllWords leaves (after_row n end r (later (Some columns))).rows
  row columns is (Ok ws) e = let own : AreWords (wanted_scalars columns.wanted) ws = row_of-words columns text ws e in (subst (λ (ss : List Scalar). AreWords ss ws) is own, all (Some columns) is)
  row columns is (Err fault) e = tt

  head : (r : Result Columns RowFault) → header_of leaves text ≡ r → AllWords leaves (after_header n end r later).rows
  head (Ok columns) e = all (Some columns) (header_of-scalars leaves text columns e)
  head (Err fault) e = tt

  blank : (v : Bool) (h : Option Columns) → IsHeaderOf leaves h → AllWords leaves (if v then later h else at_text leaves n end text h later).rows
  blank true h is = all h is
  blank false None is = head (header_of leaves text) refl
  blank false (Some columns) is = row columns is (row_of columns text) refl

rows_words : (leaves : List Leaf) (ended : Bool) (n o : ℕ) (ps : List (List ℕ)) (header : Option Columns) → IsHeaderOf leaves header → AllWords leaves (rows_from leaves ended n o ps header).rows
rows_words leaves ended n o [] header good = tt
rows_words leaves true n o (rest ∷ []) header good = line_words leaves n o (o + length rest) rest (part_limit n rest []) header (λ h. no_rows) good (λ h is. tt)
rows_words leaves false n o (rest ∷ []) header good = at (part_limit n rest []) where
  at : (f : Option RowFault) → AllWords leaves (within_limits n o f no_rows).rows
  at None = tt
  at (Some fault) = tt
rows_words leaves ended n o (l ∷ q ∷ qs) header good =
    line_words leaves n o (o + length l + 1) l (limit_fault n l) header (rows_from leaves ended (n + 1) (o + length l + 1) (q ∷ qs)) good (λ h is. rows_words leaves ended (n + 1) (o + length l + 1) (q ∷ qs) h is)

each_row : (leaves : List Leaf) (rows : List RowAt) → AllWords leaves rows → All (λ (row : RowAt). AreWords (scalars_of leaves) row.words) rows
each_row leaves [] all k d low = absurd (omega arith)
each_row leaves (row ∷ rows) all zero d low = all.0
each_row leaves (row ∷ rows) all (suc k) d low = each_row leaves rows all.1 k d (omega arith)

pub rows_are_words : RowsAreWords
rows_are_words leaves ended text = each_row leaves (rows_in leaves ended text).rows (rows_words leaves ended 1 0 (parts text) None tt)
