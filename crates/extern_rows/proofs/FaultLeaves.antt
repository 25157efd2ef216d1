-- Each fault of a text's rows speaks of one of the leaves, or of none.
use Rattle.std.proofs.Common.{◌≡◌, ℕ, suc, ◌+◌, ◌<◌, ◌≤◌, Bool, true, false, nat_lt, List, [], ◌∷◌, length, map, Option, Some, None, Result, Ok, Err, refl, ap, sym, ◌∙◌, subst, arith}
use Rattle.std.specs.Prelude.{if◌then◌else◌, ◌==◌}
use Rattle.extern_rows.specs.declared.fault.RowFault.{RowFault}
use Rattle.extern_rows.specs.declared.fault.RowFault.TheVariants.{NoColumn, TwoColumns, BadRecord, BadField, LineTooLong, TooManyLines}
use Rattle.extern_rows.specs.declared.header.Leaf.{Leaf}
use Rattle.extern_rows.specs.declared.header.Wanted.{Wanted}
use Rattle.extern_rows.specs.declared.header.Column.{Column}
use Rattle.extern_rows.specs.declared.header.Column.TheVariants.{Once, Twice}
use Rattle.extern_rows.specs.Fields.{trimmed}
use Rattle.extern_rows.specs.Lines.{parts, longest_line, last_line, limit_fault, without_cr, is_blank}
use Rattle.extern_rows.specs.FeedStanding.{part_limit}
use Rattle.extern_rows.specs.Records.{line_fields}
use Rattle.extern_rows.specs.Leaves.{scalars_of}
use Rattle.extern_rows.specs.Columns.{Columns, before, column_of, wanted_at, wanted_from, wanted_scalars, with_width, columns_in, header_of, cell_word, word_at, words_from, words_in, row_of}
use Rattle.extern_rows.specs.SampleRows.{FaultAt, Rows, no_rows, within_limits, after_header, after_row, at_text, at_line, rows_from}
use Rattle.extern_rows.specs.LeafFaults.{fault_leaf, FaultsHaveLeaves}
use Rattle.extern_rows.proofs.RowWords.{header_of-scalars}

-- a leaf of this many
abbrev Below : ℕ → RowFault → Type 0
Below n fault = (i : ℕ) → fault_leaf fault ≡ Some i → i < n

of_no_leaf : (n : ℕ) (fault : RowFault) → fault_leaf fault ≡ None → Below n fault
of_no_leaf n fault h i e = let k : None ≡ Some i = sym h ∙ e in absurd (cc)

numbered : (n i : ℕ) (fault : RowFault) → fault_leaf fault ≡ Some i → i < n → Below n fault
numbered n i fault h low j e = let k : i ≡ j = cc in omega arith

before_fault : {X : Type 0} (r : Result X RowFault) (more : Result (List X) RowFault) (n : ℕ) → ((f : RowFault) → r ≡ Err f → Below n f) → ((f : RowFault) → more ≡ Err f → Below n f)
    → (f : RowFault) → before r more ≡ Err f → Below n f
before_fault (Err g) more n a b f h = let e : g ≡ f = cc in a f (ap Err e)
before_fault (Ok x) (Err g) n a b f h = b f h
before_fault (Ok x) (Ok xs) n a b f h = absurd (cc)

wanted_at-below : (i n : ℕ) (o : Option Column) (leaf : Leaf) → i < n → (f : RowFault) → wanted_at i leaf.scalar o ≡ Err f → Below n f
wanted_at-below i n None leaf low f h = let e : NoColumn i ≡ f = cc in subst (Below n) e (numbered n i (NoColumn i) refl low)
wanted_at-below i n (Some Twice) leaf low f h = let e : TwoColumns i ≡ f = cc in subst (Below n) e (numbered n i (TwoColumns i) refl low)
wanted_at-below i n (Some (Once place)) leaf low f h = absurd (cc)

wanted-below : (i n : ℕ) (leaves : List Leaf) (names : List (List ℕ)) → i + length leaves ≤ n → (f : RowFault) → wanted_from i leaves names ≡ Err f → Below n f
wanted-below i n [] names low f h = absurd (cc)
wanted-below i n (leaf ∷ leaves) names low f h =
    before_fault (wanted_at i leaf.scalar (column_of leaf.name names)) (wanted_from (i + 1) leaves names) n (wanted_at-below i n (column_of leaf.name names) leaf (omega arith))
    (wanted-below (i + 1) n leaves names (omega arith)) f h

word_at-below : (i n : ℕ) (o : Option ℕ) → i < n → (f : RowFault) → word_at i o ≡ Err f → Below n f
word_at-below i n None low f h = let e : BadField i ≡ f = cc in subst (Below n) e (numbered n i (BadField i) refl low)
word_at-below i n (Some w) low f h = absurd (cc)

words-below : (i n : ℕ) (wanted : List Wanted) (fields : List (List ℕ)) → i + length wanted ≤ n → (f : RowFault) → words_from i wanted fields ≡ Err f → Below n f
words-below i n [] fields low f h = absurd (cc)
words-below i n (w ∷ more) fields low f h =
    before_fault (word_at i (cell_word w fields)) (words_from (i + 1) more fields) n (word_at-below i n (cell_word w fields) (omega arith)) (words-below (i + 1) n more fields (omega arith)) f h

bad_record : (n : ℕ) (f : RowFault) → BadRecord ≡ f → Below n f
bad_record n f e = subst (Below n) e (of_no_leaf n BadRecord refl)

header-below : (leaves : List Leaf) (line : List ℕ) (f : RowFault) → header_of leaves line ≡ Err f → Below (length leaves) f
header-below leaves line f h = at (line_fields line) h where
  found : (k : ℕ) (r : Result (List Wanted) RowFault) → ((g : RowFault) → r ≡ Err g → Below (length leaves) g) → with_width k r ≡ Err f → Below (length leaves) f
  found k (Ok ws) b q = absurd (cc)
  found k (Err g) b q = let e : g ≡ f = cc in b f (ap Err e)

  at : (o : Option (List (List ℕ))) → columns_in leaves o ≡ Err f → Below (length leaves) f
  at None q = bad_record (length leaves) f (let e : BadRecord ≡ f = cc in e)
  at (Some fields) q = found (length fields) (wanted_from 0 leaves (map trimmed fields)) (wanted-below 0 (length leaves) leaves (map trimmed fields) (omega arith)) q

row-below : (columns : Columns) (line : List ℕ) (f : RowFault) → row_of columns line ≡ Err f → Below (length columns.wanted) f
row-below columns line f h = at (line_fields line) h where
  fit : (fields : List (List ℕ)) (v : Bool) → (if v then words_from 0 columns.wanted fields else Err BadRecord) ≡ Err f → Below (length columns.wanted) f
  fit fields true q = words-below 0 (length columns.wanted) columns.wanted fields (omega arith) f q
  fit fields false q = bad_record (length columns.wanted) f (let e : BadRecord ≡ f = cc in e)

  at : (o : Option (List (List ℕ))) → words_in columns o ≡ Err f → Below (length columns.wanted) f
  at None q = bad_record (length columns.wanted) f (let e : BadRecord ≡ f = cc in e)
  at (Some fields) q = fit fields (length fields == columns.width) q

-- ---- the rows of a text

abbrev FaultBelow : List Leaf → Rows → Type 0
FaultBelow leaves rows = (at : FaultAt) → rows.fault ≡ Some at → Below (length leaves) at.fault

abbrev HasLeaves : List Leaf → Option Columns → Type 0
HasLeaves leaves None = Unit {0}
HasLeaves leaves (Some columns) = length columns.wanted ≡ length leaves

this_fault : (leaves : List Leaf) (here : FaultAt) → Below (length leaves) here.fault → (at : FaultAt) → Some here ≡ Some at → Below (length leaves) at.fault
this_fault leaves here b at e = let k : here ≡ at = cc in subst (λ (x : FaultAt). Below (length leaves) x.fault) k b

limit_leaf : (number : ℕ) (line : List ℕ) (f : RowFault) → limit_fault number line ≡ Some f → fault_leaf f ≡ None
limit_leaf number line f h = at (nat_lt last_line number) (nat_lt longest_line (length line)) h where
  at : (u v : Bool) → (if u then Some TooManyLines else if v then Some LineTooLong else None) ≡ Some f → fault_leaf f ≡ None
  at true v q = let e : TooManyLines ≡ f = cc in ap fault_leaf (sym e)
  at false true q = let e : LineTooLong ≡ f = cc in ap fault_leaf (sym e)
  at false false q = absurd (cc)

part_leaf : (number : ℕ) (line : List ℕ) (f : RowFault) → part_limit number line [] ≡ Some f → fault_leaf f ≡ None
part_leaf number line f h = at (nat_lt 0 (length line + 0)) h where
  at : (v : Bool) → (if v then limit_fault number line else None) ≡ Some f → fault_leaf f ≡ None
  at true q = limit_leaf number line f q
  at false q = absurd (cc)

within-below : (leaves : List Leaf) (n o : ℕ) (limit : Option RowFault) (later : Rows) → ((f : RowFault) → limit ≡ Some f → fault_leaf f ≡ None) → FaultBelow leaves later → FaultBelow leaves (within_limits n o limit later)
within-below leaves n o None later none below = below
within-below leaves n o (Some f) later none below = λ at e. this_fault leaves _ (of_no_leaf (length leaves) f (none f refl)) at e

same_count : (ws : List Wanted) (leaves : List Leaf) → wanted_scalars ws ≡ scalars_of leaves → length ws ≡ length leaves
same_count [] [] h = refl
same_count [] (x ∷ leaves) h = absurd (cc)
same_count (w ∷ ws) [] h = absurd (cc)
same_count (w ∷ ws) (x ∷ leaves) h = ap suc (same_count ws leaves (let e : wanted_scalars ws ≡ scalars_of leaves = cc in e))

line-below : (leaves : List Leaf) (n end : ℕ) (line : List ℕ) (header : Option Columns) (later : Option Columns → Rows) → HasLeaves leaves header
    → ((h : Option Columns) → HasLeaves leaves h → FaultBelow leaves (later h)) → FaultBelow leaves (at_line leaves n end line header later)
line-below leaves n end line header later good all = blank (is_blank (without_cr line)) header good where
  text : List ℕ
  text = without_cr line

  row : (columns : Columns) → HasLeaves leaves (Some columns) → (r : Result (List ℕ) RowFault) → row_of columns text ≡ r → FaultBelow leaves (after_row n end r (later (Some columns)))
  row columns is (Ok ws) e = all (Some columns) is
  row columns is (Err f) e = λ at q. this_fault leaves (record { line = n; fault = f; end = end }) (subst (λ (k : ℕ). Below k f) is (row-below columns text f e)) at q

  head : (r : Result Columns RowFault) → header_of leaves text ≡ r → FaultBelow leaves (after_header n end r later)
  head (Ok columns) e = all (Some columns) (same_count columns.wanted leaves (header_of-scalars leaves text columns e))
  head (Err f) e = λ at q. this_fault leaves (record { line = n; fault = f; end = end }) (header-below leaves text f e) at q

  blank : (v : Bool) (h : Option Columns) → HasLeaves leaves h → FaultBelow leaves (if v then later h else at_text leaves n end text h later)
  blank true h is = all h is
  blank false None is = head (header_of leaves text) refl
  blank false (Some columns) is = row columns is (row_of columns text) refl

nothing-below : (leaves : List Leaf) → FaultBelow leaves no_rows
nothing-below leaves at e = absurd (cc)

rows-below : (leaves : List Leaf) (ended : Bool) (n o : ℕ) (ps : List (List ℕ)) (header : Option Columns) → HasLeaves leaves header → FaultBelow leaves (rows_from leaves ended n o ps header)
rows-below leaves ended n o [] header good = nothing-below leaves
rows-below leaves true n o (rest ∷ []) header good =
    within-below leaves n o (part_limit n rest []) (at_line leaves n (o + length rest) rest header (λ h. no_rows)) (part_leaf n rest) (line-below leaves n (o + length rest) rest header (λ h. no_rows) good (λ h is. nothing-below leaves))
rows-below leaves false n o (rest ∷ []) header good = within-below leaves n o (part_limit n rest []) no_rows (part_leaf n rest) (nothing-below leaves)
rows-below leaves ended n o (l ∷ q ∷ qs) header good =
    within-below leaves n o (limit_fault n l) _ (limit_leaf n l)
    (line-below leaves n (o + length l + 1) l header (rows_from leaves ended (n + 1) (o + length l + 1) (q ∷ qs)) good (λ h is. rows-below leaves ended (n + 1) (o + length l + 1) (q ∷ qs) h is))

pub faults_have_leaves : FaultsHaveLeaves
faults_have_leaves leaves ended text = rows-below leaves ended 1 0 (parts text) None tt
