-- The rows of a text that comes behind another.
use Rattle.std.proofs.Common.{◌≡◌, inl, inr, ℕ, zero, suc, ◌+◌, Bool, true, false, not, cond, nat_lt, List, [], ◌∷◌, ◌++◌, length, Option, Some, None, Result, Ok, Err, refl, ap, sym, ◌∙◌, arith, All, append_assoc, append-nil, length-append, subst}
use Rattle.std.specs.Prelude.{if◌then◌else◌, find}
use Rattle.std.specs.List.{count_by}
use Rattle.std.specs.Option.{option_and_then}
use Rattle.std.proofs.Math.Seq.{take-append-add, take-length}
use Rattle.std.proofs.lemmas.Bool.Decides.{nat_tests}
use Rattle.std.proofs.lemmas.List.Elements.{All-head, All-tail}
use Rattle.std.proofs.lemmas.List.Splits.{slice_split_none, slice_split_at, slice_split-cons_yes, slice_split-cons_no, length-slice_split}
use Rattle.extern_rows.specs.declared.fault.RowFault.{RowFault}
use Rattle.extern_rows.specs.declared.fault.RowFault.TheVariants.{LineTooLong, TooManyLines}
use Rattle.extern_rows.specs.declared.header.Leaf.{Leaf}
use Rattle.extern_rows.specs.Lines.{is_break, parts, longest_line, last_line, limit_fault, without_cr, is_blank}
use Rattle.extern_rows.specs.FeedStanding.{part_limit}
use Rattle.extern_rows.specs.Columns.{Columns, header_of, row_of}
use Rattle.extern_rows.specs.SampleRows.{RowAt, FaultAt, Rows, no_rows, within_limits, after_header, after_row, row_before, at_line, rows_from, rows_in}
use Rattle.extern_rows.specs.TextRows.{LineAt, lines_from, is_text, followed, then_rows, EndsLine, read_columns, header_in, RowsBehind, GrowsTo, RowsGrow}
use Rattle.extern_rows.proofs.FeedStanding.{some_parts}
use Rattle.extern_rows.proofs.LinesOfRows.{then_rows-row_before}

-- ---- a text as its whole lines and its rest

-- whole lines, as they are written
abbrev pub lines_text : List (List ℕ) → List ℕ
lines_text [] = []
lines_text (l ∷ ls) = l ++ 10 ∷ lines_text ls

abbrev pub CleanLines : List (List ℕ) → Type 0
CleanLines [] = Unit {0}
CleanLines (l ∷ ls) = All (λ b. is_break b ≡ false) l × CleanLines ls

pub record Cut (text : List ℕ) : Type 0 where
  pub lines : List (List ℕ)
  pub rest : List ℕ
  pub is : text ≡ lines_text lines ++ rest
  pub whole : CleanLines lines
  pub clean : All (λ b. is_break b ≡ false) rest
  pub split : (more : List ℕ) → parts (text ++ more) ≡ lines ++ parts (rest ++ more)

pub is_ten : (b : ℕ) → is_break b ≡ true → b ≡ 10
is_ten b h = grind (arith, nat_tests)

All-cons : (b : ℕ) (rest : List ℕ) → is_break b ≡ false → All (λ c. is_break c ≡ false) rest → All (λ c. is_break c ≡ false) (b ∷ rest)
All-cons b rest e h zero d low = e
All-cons b rest e h (suc k) d low = h k d (omega arith)

pub cut : (text : List ℕ) → Cut text
cut [] = record { lines = []; rest = []; is = refl; whole = tt; clean = λ k d h. absurd (omega arith); split = λ more. refl }
cut (b ∷ text) = at (is_break b) refl (cut text) where
  longer : is_break b ≡ false → (ls : List (List ℕ)) (rest : List ℕ) → text ≡ lines_text ls ++ rest → CleanLines ls → All (λ c. is_break c ≡ false) rest
      → ((more : List ℕ) → parts (text ++ more) ≡ ls ++ parts (rest ++ more)) → Cut (b ∷ text)
  longer e [] rest is each clean split = record {
    lines = [];
    rest = b ∷ rest;
    is = ap (λ xs. b ∷ xs) is;
    whole = tt;
    clean = All-cons b rest e clean;
    split = λ more. ap (λ (xs : List ℕ). parts (b ∷ xs ++ more)) is;
  }
  longer e (l ∷ ls) rest is each clean split = record {
    lines = (b ∷ l) ∷ ls;
    rest = rest;
    is = ap (λ xs. b ∷ xs) is;
    whole = (All-cons b l e each.0, each.1);
    clean = clean;
    split = λ more. rw (slice_split-cons_no is_break b (text ++ more) e, split more) refl;
  }

  at : (v : Bool) → is_break b ≡ v → Cut text → Cut (b ∷ text)
  at true e c = record {
    lines = [] ∷ c.lines;
    rest = c.rest;
    is = rw (is_ten b e) (ap (λ xs. 10 ∷ xs) c.is);
    whole = (λ k d h. absurd (omega arith), c.whole);
    clean = c.clean;
    split = λ more. rw (slice_split-cons_yes is_break b (text ++ more) e, c.split more) refl;
  }
  at false e c = longer e c.lines c.rest c.is c.whole c.clean c.split

-- a text of whole lines
pub record Whole (text : List ℕ) : Type 0 where
  pub lines : List (List ℕ)
  pub is : text ≡ lines_text lines
  pub split : (more : List ℕ) → parts (text ++ more) ≡ lines ++ parts more

lines_text-push : (ls : List (List ℕ)) (l : List ℕ) → lines_text (ls ++ l ∷ []) ≡ lines_text ls ++ l ++ 10 ∷ []
lines_text-push [] l = refl
lines_text-push (k ∷ ls) l = ap (λ (xs : List ℕ). k ++ 10 ∷ xs) (lines_text-push ls l) ∙ simp append_assoc

pub whole : (text : List ℕ) → EndsLine text → Whole text
whole text (inl empty) = record { lines = []; is = empty; split = λ more. ap (λ (xs : List ℕ). parts (xs ++ more)) empty }
whole text (inr (front, is)) =
    let c = cut front in
    record {
      lines = c.lines ++ c.rest ∷ [];
      is = is ∙ ap (λ (xs : List ℕ). xs ++ 10 ∷ []) c.is ∙ sym (lines_text-push c.lines c.rest);
      split = λ more.
          ap (λ (xs : List ℕ). parts (xs ++ more)) is ∙ ap parts (append_assoc front (10 ∷ []) more) ∙ c.split (10 ∷ more)
          ∙ ap (λ (ps : List (List ℕ)). c.lines ++ ps) (slice_split_at is_break c.rest 10 more c.clean refl) ∙ sym (append_assoc c.lines (c.rest ∷ []) (parts more));
    }

-- ---- rows behind whole lines

abbrev header_if : List Leaf → List ℕ → Bool → Option Columns → Option Columns
header_if leaves line true later = later
header_if leaves line false later = read_columns (header_of leaves (without_cr line))

-- the header behind some lines
abbrev header_after : List Leaf → Option Columns → List (List ℕ) → Option Columns
header_after leaves (Some columns) ls = Some columns
header_after leaves None [] = None
header_after leaves None (l ∷ ls) = header_if leaves l (is_blank (without_cr l)) (header_after leaves None ls)

-- a line, and what comes behind it in two parts
line_then : (leaves : List Leaf) (n o end : ℕ) (l : List ℕ) (ls : List (List ℕ)) (header : Option Columns) (all front back : Option Columns → Rows) (fault : Option RowFault)
    → ((h : Option Columns) → all h ≡ then_rows (front h) (back (header_after leaves h ls)))
    → within_limits n o fault (at_line leaves n end l header all) ≡ then_rows (within_limits n o fault (at_line leaves n end l header front)) (back (header_after leaves header (l ∷ ls)))
line_then leaves n o end l ls header all front back (Some fault) is = refl
line_then leaves n o end l ls (Some columns) all front back None is = at (is_blank (without_cr l)) where
  read : (r : Result (List ℕ) RowFault) → after_row n end r (all (Some columns)) ≡ then_rows (after_row n end r (front (Some columns))) (back (Some columns))
  read (Ok words) =
      let row : RowAt = record { words = words; end = end } in
      ap (row_before row) (is (Some columns)) ∙ sym (then_rows-row_before row (front (Some columns)) (back (Some columns)))
  read (Err fault) = refl

  at : (v : Bool) → (if v then all (Some columns) else after_row n end (row_of columns (without_cr l)) (all (Some columns)))
      ≡ then_rows (if v then front (Some columns) else after_row n end (row_of columns (without_cr l)) (front (Some columns))) (back (Some columns))
  at true = is (Some columns)
  at false = read (row_of columns (without_cr l))
line_then leaves n o end l ls None all front back None is = at (is_blank (without_cr l)) where
  read : (r : Result Columns RowFault) → after_header n end r all ≡ then_rows (after_header n end r front) (back (read_columns r))
  read (Ok columns) = is (Some columns)
  read (Err fault) = refl

  at : (v : Bool) → (if v then all None else after_header n end (header_of leaves (without_cr l)) all)
      ≡ then_rows (if v then front None else after_header n end (header_of leaves (without_cr l)) front) (back (header_if leaves l v (header_after leaves None ls)))
  at true = is None
  at false = read (header_of leaves (without_cr l))

some_list : (ls : List (List ℕ)) (q : List ℕ) (qs : List (List ℕ)) → (a : List ℕ) × (more : List (List ℕ)) × (ls ++ q ∷ qs ≡ a ∷ more)
some_list [] q qs = (q, qs, refl)
some_list (l ∷ ls) q qs = (l, ls ++ q ∷ qs, refl)

pub rows_first : (leaves : List Leaf) (ended : Bool) (n o : ℕ) (l : List ℕ) (ls : List (List ℕ)) (q : List ℕ) (qs : List (List ℕ)) (header : Option Columns)
    → rows_from leaves ended n o (l ∷ ls ++ q ∷ qs) header
    ≡ within_limits n o (limit_fault n l) (at_line leaves n (o + length l + 1) l header (rows_from leaves ended (n + 1) (o + length l + 1) (ls ++ q ∷ qs)))
rows_first leaves ended n o l ls q qs header = let p = some_list ls q qs in rw p.2 refl

pub behind : (leaves : List Leaf) (ended : Bool) (n o : ℕ) (ls : List (List ℕ)) (q : List ℕ) (qs : List (List ℕ)) (header : Option Columns)
    → rows_from leaves ended n o (ls ++ q ∷ qs) header
    ≡ then_rows (rows_from leaves false n o (ls ++ [] ∷ []) header) (rows_from leaves ended (n + length ls) (o + length (lines_text ls)) (q ∷ qs) (header_after leaves header ls))
behind leaves ended n o [] q qs (Some columns) = let a : n + 0 ≡ n = omega arith in let b : o + 0 ≡ o = omega arith in rw (a, b) refl
behind leaves ended n o [] q qs None = let a : n + 0 ≡ n = omega arith in let b : o + 0 ≡ o = omega arith in rw (a, b) refl
behind leaves ended n o (l ∷ ls) q qs header =
    let end : ℕ = o + length l + 1 in
    let count : (n + 1) + length ls ≡ n + length (l ∷ ls) = omega arith in
    let size : end + length (lines_text ls) ≡ o + length (lines_text (l ∷ ls)) = omega (arith, length-append l (10 ∷ lines_text ls)) in
    rows_first leaves ended n o l ls q qs header
    ∙ line_then leaves n o end l ls header (rows_from leaves ended (n + 1) end (ls ++ q ∷ qs)) (rows_from leaves false (n + 1) end (ls ++ [] ∷ []))
    (rows_from leaves ended ((n + 1) + length ls) (end + length (lines_text ls)) (q ∷ qs)) (limit_fault n l) (λ h. behind leaves ended (n + 1) end ls q qs h)
    ∙ ap (λ (r : Rows). then_rows r (rows_from leaves ended ((n + 1) + length ls) (end + length (lines_text ls)) (q ∷ qs) (header_after leaves header (l ∷ ls)))) (sym (rows_first leaves false n o l ls [] [] header))
    ∙ ap (λ (k : ℕ). then_rows (rows_from leaves false n o (l ∷ ls ++ [] ∷ []) header) (rows_from leaves ended k (end + length (lines_text ls)) (q ∷ qs) (header_after leaves header (l ∷ ls)))) count
    ∙ ap (λ (k : ℕ). then_rows (rows_from leaves false n o (l ∷ ls ++ [] ∷ []) header) (rows_from leaves ended (n + length (l ∷ ls)) k (q ∷ qs) (header_after leaves header (l ∷ ls)))) size

-- ---- the header of whole lines

lines_first : (n o : ℕ) (l : List ℕ) (ls : List (List ℕ)) → lines_from false n o (l ∷ ls ++ [] ∷ []) ≡ record { number = n; text = l; begin = o; end = o + length l + 1 } ∷ lines_from false (n + 1) (o + length l + 1) (ls ++ [] ∷ [])
lines_first n o l ls = let p = some_list ls [] [] in rw p.2 refl

header_is : (leaves : List Leaf) (n o : ℕ) (ls : List (List ℕ))
    → header_after leaves None ls ≡ option_and_then (λ (line : LineAt). read_columns (header_of leaves (without_cr line.text))) (find is_text (lines_from false n o (ls ++ [] ∷ [])))
header_is leaves n o [] = refl
header_is leaves n o (l ∷ ls) = rw (lines_first n o l ls, header_is leaves (n + 1) (o + length l + 1) ls) (at (is_blank (without_cr l))) where
  later : Option Columns
  later = option_and_then (λ (line : LineAt). read_columns (header_of leaves (without_cr line.text))) (find is_text (lines_from false (n + 1) (o + length l + 1) (ls ++ [] ∷ [])))

  line : LineAt
  line = record { number = n; text = l; begin = o; end = o + length l + 1 }

  at : (v : Bool) → header_if leaves l v later
      ≡ option_and_then (λ (x : LineAt). read_columns (header_of leaves (without_cr x.text))) (cond (not v) (Some line) (find is_text (lines_from false (n + 1) (o + length l + 1) (ls ++ [] ∷ []))))
  at true = refl
  at false = refl

-- ---- the laws

pub rows_behind : RowsBehind
rows_behind leaves ended front text e =
    let w = whole front e in
    let p = some_parts text in
    let own : parts front ≡ w.lines ++ [] ∷ [] = ap parts (sym (append-nil front)) ∙ w.split [] in
    let all : parts (front ++ text) ≡ w.lines ++ p.0 ∷ p.1 = w.split text ∙ ap (λ (ps : List (List ℕ)). w.lines ++ ps) p.2 in
    let count : 1 + length w.lines ≡ count_by is_break front + 1 = omega (arith, ap length own, length-append w.lines ([] ∷ []), length-slice_split is_break front) in
    let size : 0 + length (lines_text w.lines) ≡ length front = omega (arith, ap length w.is) in
    let header : header_after leaves None w.lines ≡ header_in leaves front = rw own (header_is leaves 1 0 w.lines) in
    ap (λ (ps : List (List ℕ)). rows_from leaves ended 1 0 ps None) all
    ∙ behind leaves ended 1 0 w.lines p.0 p.1 None
    ∙ rw (count, size, header, own, p.2) refl

grows-then : (first so_far later : Rows) → GrowsTo so_far later → GrowsTo (then_rows first so_far) (then_rows first later)
grows-then first so_far later g = at first.fault where
  at : (fault : Option FaultAt) → GrowsTo (followed first.rows fault so_far) (followed first.rows fault later)
  at None = record {
    rows = rw (length-append first.rows so_far.rows, take-append-add first.rows later.rows (length so_far.rows), g.rows) refl;
    fault = λ at h. ap (λ (r : Rows). followed first.rows None r) (g.fault at h);
  }
  at (Some fault) = record { rows = take-length first.rows; fault = λ at h. refl }

limit_stays : (n : ℕ) (rest q : List ℕ) (fault : RowFault) → part_limit n rest [] ≡ Some fault → (limit_fault n (rest ++ q) ≡ Some fault) × (part_limit n (rest ++ q) [] ≡ Some fault)
limit_stays n rest q fault h = at (nat_lt 0 (length rest + 0)) refl h where
  some : nat_lt 0 (length rest + 0) ≡ true → nat_lt 0 (length (rest ++ q) + 0) ≡ true
  some e = let p = length-append rest q in grind (arith, nat_tests)

  long : (v : Bool) → nat_lt longest_line (length rest) ≡ v → (if v then Some LineTooLong else None) ≡ Some fault → (if nat_lt longest_line (length (rest ++ q)) then Some LineTooLong else None) ≡ Some fault
  long true e k = let p = length-append rest q in let more : nat_lt longest_line (length (rest ++ q)) ≡ true = grind (arith, nat_tests) in rw more k
  long false e k = absurd (cc)

  count : (v : Bool) → (if v then Some TooManyLines else if nat_lt longest_line (length rest) then Some LineTooLong else None) ≡ Some fault
      → (if v then Some TooManyLines else if nat_lt longest_line (length (rest ++ q)) then Some LineTooLong else None) ≡ Some fault
  count true k = k
  count false k = long (nat_lt longest_line (length rest)) refl k

  at : (v : Bool) → nat_lt 0 (length rest + 0) ≡ v → (if v then limit_fault n rest else None) ≡ Some fault → (limit_fault n (rest ++ q) ≡ Some fault) × (part_limit n (rest ++ q) [] ≡ Some fault)
  at true e k = let stays : limit_fault n (rest ++ q) ≡ Some fault = count (nat_lt last_line n) k in (stays, rw (some e) stays)
  at false e k = absurd (cc)

rest_parts : (rest : List ℕ) (more : List ℕ) → All (λ b. is_break b ≡ false) rest → (q : List ℕ) × (qs : List (List ℕ)) × (parts (rest ++ more) ≡ (rest ++ q) ∷ qs)
rest_parts [] more clean = some_parts more
rest_parts (b ∷ rest) more clean =
    let p = rest_parts rest more (All-tail (λ c. is_break c ≡ false) b rest clean) in
    (p.0, p.1, rw (slice_split-cons_no is_break b (rest ++ more) (All-head (λ c. is_break c ≡ false) b rest clean), p.2) refl)

rest_grows : (leaves : List Leaf) (ended : Bool) (n o : ℕ) (rest q : List ℕ) (qs : List (List ℕ)) (header : Option Columns)
    → GrowsTo (rows_from leaves false n o (rest ∷ []) header) (rows_from leaves ended n o ((rest ++ q) ∷ qs) header)
rest_grows leaves ended n o rest q qs header = at (part_limit n rest []) refl where
  stops : (fault : RowFault) (xs : List (List ℕ)) → part_limit n rest [] ≡ Some fault → rows_from leaves ended n o ((rest ++ q) ∷ xs) header ≡ within_limits n o (Some fault) no_rows
  stops fault [] e = rw ((limit_stays n rest q fault e).1) refl
  stops fault (x ∷ xs) e = rw ((limit_stays n rest q fault e).0) refl

  at : (f : Option RowFault) → part_limit n rest [] ≡ f → GrowsTo (within_limits n o f no_rows) (rows_from leaves ended n o ((rest ++ q) ∷ qs) header)
  at None e = record { rows = refl; fault = λ at h. absurd (cc) }
  at (Some fault) e = rw (stops fault qs e) (record { rows = refl; fault = λ at h. refl })

pub rows_grow : RowsGrow
rows_grow leaves ended front text =
    let c = cut front in
    let p = rest_parts c.rest text c.clean in
    let own : parts front ≡ c.lines ++ c.rest ∷ [] =
    ap parts (sym (append-nil front)) ∙ c.split [] ∙ ap (λ (x : List ℕ). c.lines ++ parts x) (append-nil c.rest) ∙ ap (λ (ps : List (List ℕ)). c.lines ++ ps) (slice_split_none is_break c.rest c.clean) in
    let all : parts (front ++ text) ≡ c.lines ++ (c.rest ++ p.0) ∷ p.1 = c.split text ∙ ap (λ (ps : List (List ℕ)). c.lines ++ ps) p.2 in
    let first : Rows = rows_from leaves false 1 0 (c.lines ++ [] ∷ []) None in
    let n : ℕ = 1 + length c.lines in
    let o : ℕ = 0 + length (lines_text c.lines) in
    let h : Option Columns = header_after leaves None c.lines in
    let a : rows_in leaves false front ≡ then_rows first (rows_from leaves false n o (c.rest ∷ []) h) =
    ap (λ (ps : List (List ℕ)). rows_from leaves false 1 0 ps None) own ∙ behind leaves false 1 0 c.lines c.rest [] None in
    let b : rows_in leaves ended (front ++ text) ≡ then_rows first (rows_from leaves ended n o ((c.rest ++ p.0) ∷ p.1) h) =
    ap (λ (ps : List (List ℕ)). rows_from leaves ended 1 0 ps None) all ∙ behind leaves ended 1 0 c.lines (c.rest ++ p.0) p.1 None in
    subst (λ (x : Rows). GrowsTo x (rows_in leaves ended (front ++ text))) (sym a)
    (subst (λ (x : Rows). GrowsTo (then_rows first (rows_from leaves false n o (c.rest ∷ []) h)) x) (sym b)
    (grows-then first (rows_from leaves false n o (c.rest ∷ []) h) (rows_from leaves ended n o ((c.rest ++ p.0) ∷ p.1) h) (rest_grows leaves ended n o c.rest p.0 p.1 h)))
