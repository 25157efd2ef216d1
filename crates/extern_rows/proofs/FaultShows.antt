-- A fault of a text's rows shows at its offset.
use Rattle.std.proofs.Common.{◌≡◌, ◌⊎◌, inl, inr, ℕ, suc, ◌+◌, ◌<◌, ◌≤◌, Bool, true, false, nat_lt, List, [], ◌∷◌, ◌++◌, length, take, drop, Option, Some, None, Result, Ok, Err, refl, ap, sym, ◌∙◌, subst, arith, All, append-nil, append_assoc, length-append, length-take}
use Rattle.std.specs.Prelude.{if◌then◌else◌}
use Rattle.std.proofs.Math.Seq.{take-append-add, take-length}
use Rattle.std.proofs.lemmas.Bool.Decides.{nat_tests}
use Rattle.std.proofs.lemmas.List.{take-append-le, take-append-drop}
use Rattle.std.proofs.lemmas.List.Elements.{All-take}
use Rattle.std.proofs.lemmas.List.Splits.{slice_split_none, slice_split-cons_yes, slice_split-cons_no}
use Rattle.extern_rows.specs.declared.fault.RowFault.{RowFault}
use Rattle.extern_rows.specs.declared.fault.RowFault.TheVariants.{LineTooLong, TooManyLines}
use Rattle.extern_rows.specs.declared.header.Leaf.{Leaf}
use Rattle.extern_rows.specs.Lines.{is_break, parts, longest_line, last_line, limit_fault, without_cr, is_blank}
use Rattle.extern_rows.specs.FeedStanding.{part_limit}
use Rattle.extern_rows.specs.Columns.{Columns, header_of, row_of}
use Rattle.extern_rows.specs.SampleRows.{FaultAt, Rows, no_rows, limit_end, within_limits, after_header, after_row, at_text, at_line, rows_from, rows_in}
use Rattle.extern_rows.specs.TextRows.{FaultsShow}
use Rattle.extern_rows.proofs.RowLines.{rows_by_lines}
use Rattle.extern_rows.proofs.BehindRows.{cut, CleanLines, lines_text, rows_first, rows_grow}

abbrev NoBreak : List ℕ → Type 0
NoBreak l = All (λ b. is_break b ≡ false) l

record Shown (leaves : List Leaf) (ended : Bool) (n o : ℕ) (text : List ℕ) (header : Option Columns) (at : FaultAt) : Type 0 where
  k : ℕ
  is : at.end ≡ o + k
  within : k ≤ length text
  shown : (rows_from leaves ended n o (parts (take k text)) header).fault ≡ Some at

same_fault : {here at : FaultAt} → Some here ≡ Some at → here ≡ at
same_fault h = cc

-- ---- limits

limit_cases : (n : ℕ) (l : List ℕ) (f : RowFault) → limit_fault n l ≡ Some f → ((last_line < n) × (TooManyLines ≡ f)) ⊎ ((n ≤ last_line) × (longest_line < length l) × (LineTooLong ≡ f))
limit_cases n l f h = at (nat_lt last_line n) refl h where
  long : (v : Bool) → nat_lt longest_line (length l) ≡ v → n ≤ last_line → (if v then Some LineTooLong else None) ≡ Some f → ((last_line < n) × (TooManyLines ≡ f)) ⊎ ((n ≤ last_line) × (longest_line < length l) × (LineTooLong ≡ f))
  long true e low q = let e' : longest_line < length l = grind (arith, nat_tests) in let s : LineTooLong ≡ f = cc in inr (low, e', s)
  long false e low q = absurd (cc)

  at : (v : Bool) → nat_lt last_line n ≡ v → (if v then Some TooManyLines else if nat_lt longest_line (length l) then Some LineTooLong else None) ≡ Some f
      → ((last_line < n) × (TooManyLines ≡ f)) ⊎ ((n ≤ last_line) × (longest_line < length l) × (LineTooLong ≡ f))
  at true e q = let e' : last_line < n = grind (arith, nat_tests) in let s : TooManyLines ≡ f = cc in inl (e', s)
  at false e q = long (nat_lt longest_line (length l)) refl (grind (arith, nat_tests)) q

count_shows : (leaves : List Leaf) (ended : Bool) (n o b : ℕ) (text : List ℕ) (header : Option Columns) (at : FaultAt) → last_line < n
    → Some (record { line = n; fault = TooManyLines; end = limit_end o TooManyLines }) ≡ Some at → Shown leaves ended n o (b ∷ text) header at
count_shows leaves ended n o b text header at past is = record {
  k = 1;
  is = ap (λ (x : FaultAt). x.end) (sym (same_fault is));
  within = omega arith;
  shown = byte (is_break b) refl;
} where
  many : (l : List ℕ) → limit_fault n l ≡ Some TooManyLines
  many l = let e : nat_lt last_line n ≡ true = grind (arith, nat_tests) in rw e refl

  byte : (v : Bool) → is_break b ≡ v → (rows_from leaves ended n o (parts (b ∷ [])) header).fault ≡ Some at
  byte true e = rw (slice_split-cons_yes is_break b [] e, many []) is
  byte false e = rw (slice_split-cons_no is_break b [] e, many (b ∷ [])) is

long_shows : (leaves : List Leaf) (ended : Bool) (n o : ℕ) (l tail : List ℕ) (header : Option Columns) (at : FaultAt) → NoBreak l → n ≤ last_line → longest_line < length l
    → Some (record { line = n; fault = LineTooLong; end = limit_end o LineTooLong }) ≡ Some at → Shown leaves ended n o (l ++ tail) header at
long_shows leaves ended n o l tail header at clean low long is =
    let k : ℕ = longest_line + 1 in
    let front : List ℕ = take k l in
    let cut_is : take k (l ++ tail) ≡ front = take-append-le k l tail (omega arith) in
    let alone : parts front ≡ front ∷ [] = slice_split_none is_break front (All-take (λ b. is_break b ≡ false) k l clean) in
    let size : length front ≡ longest_line + 1 = omega (arith, length-take k l) in
    let some : nat_lt 0 (length front + 0) ≡ true = grind (arith, nat_tests) in
    let few : nat_lt last_line n ≡ false = grind (arith, nat_tests) in
    let past : nat_lt longest_line (length front) ≡ true = grind (arith, nat_tests) in
    let limit : part_limit n front [] ≡ Some LineTooLong = rw (some, few, past) refl in
    record {
      k = k;
      is = ap (λ (x : FaultAt). x.end) (sym (same_fault is)) ∙ (let e : o + longest_line + 1 ≡ o + (longest_line + 1) = omega arith in e);
      within = omega (arith, length-append l tail);
      shown = rw (cut_is, alone, limit) is;
    }

some_byte : (text : List ℕ) → 0 < length text → (b : ℕ) × (more : List ℕ) × (text ≡ b ∷ more)
some_byte [] h = absurd (omega arith)
some_byte (b ∷ more) h = (b, more, refl)

limit_shows : (leaves : List Leaf) (ended : Bool) (n o : ℕ) (l tail : List ℕ) (header : Option Columns) (at : FaultAt) (f : RowFault) → NoBreak l → 0 < length (l ++ tail) → limit_fault n l ≡ Some f
    → Some (record { line = n; fault = f; end = limit_end o f }) ≡ Some at → Shown leaves ended n o (l ++ tail) header at
limit_shows leaves ended n o l tail header at f clean some h is = by (limit_cases n l f h) where
  by : ((last_line < n) × (TooManyLines ≡ f)) ⊎ ((n ≤ last_line) × (longest_line < length l) × (LineTooLong ≡ f)) → Shown leaves ended n o (l ++ tail) header at
  by (inl p) =
      let t = some_byte (l ++ tail) some in
      subst (λ (x : List ℕ). Shown leaves ended n o x header at) (sym t.2)
      (count_shows leaves ended n o t.0 t.1 header at p.0 (ap (λ (g : RowFault). let x : FaultAt = record { line = n; fault = g; end = limit_end o g } in Some x) p.1 ∙ is))
  by (inr p) = long_shows leaves ended n o l tail header at clean p.0 p.1 (ap (λ (g : RowFault). let x : FaultAt = record { line = n; fault = g; end = limit_end o g } in Some x) p.2 ∙ is)

-- ---- a line's own fault, or one behind it

abbrev body : List Leaf → ℕ → ℕ → List ℕ → Option Columns → Bool → (Option Columns → Rows) → Rows
body leaves n end text header v later = if v then later header else at_text leaves n end text header later

abbrev Comes : List Leaf → ℕ → ℕ → List ℕ → Option Columns → Bool → (Option Columns → Rows) → FaultAt → Type 0
Comes leaves n end text header v later at =
    ((at.end ≡ end) × ((other : Option Columns → Rows) → (body leaves n end text header v other).fault ≡ Some at))
    ⊎ ((h : Option Columns) × ((later h).fault ≡ Some at) × ((other : Option Columns → Rows) → (other h).fault ≡ Some at → (body leaves n end text header v other).fault ≡ Some at))

comes : (leaves : List Leaf) (n end : ℕ) (text : List ℕ) (header : Option Columns) (v : Bool) (later : Option Columns → Rows) (at : FaultAt)
    → (body leaves n end text header v later).fault ≡ Some at → Comes leaves n end text header v later at
comes leaves n end text header true later at h = inr (header, h, λ other q. q)
comes leaves n end text None false later at h = by (header_of leaves text) refl h where
  by : (r : Result Columns RowFault) → header_of leaves text ≡ r → (after_header n end r later).fault ≡ Some at → Comes leaves n end text None false later at
  by (Ok columns) e q = inr (Some columns, q, λ other g. rw e g)
  by (Err f) e q = inl (ap (λ (x : FaultAt). x.end) (sym (same_fault q)), λ other. rw e q)
comes leaves n end text (Some columns) false later at h = by (row_of columns text) refl h where
  by : (r : Result (List ℕ) RowFault) → row_of columns text ≡ r → (after_row n end r (later (Some columns))).fault ≡ Some at → Comes leaves n end text (Some columns) false later at
  by (Ok words) e q = inr (Some columns, q, λ other g. rw e g)
  by (Err f) e q = inl (ap (λ (x : FaultAt). x.end) (sym (same_fault q)), λ other. rw e q)

-- ---- a text's lines

rest_shows : (leaves : List Leaf) (ended : Bool) (n o : ℕ) (rest : List ℕ) (header : Option Columns) (at : FaultAt) → NoBreak rest
    → (rows_from leaves ended n o (rest ∷ []) header).fault ≡ Some at → Shown leaves ended n o rest header at
rest_shows leaves ended n o rest header at clean h = by (part_limit n rest []) refl h where
  whole : at.end ≡ o + length rest → Shown leaves ended n o rest header at
  whole e = record { k = length rest; is = e; within = omega arith; shown = rw (take-length rest, slice_split_none is_break rest clean) h }

  line : (v : Bool) → (if v then at_line leaves n (o + length rest) rest header (λ h. no_rows) else no_rows).fault ≡ Some at → Shown leaves ended n o rest header at
  line false q = absurd (cc)
  line true q = own (comes leaves n (o + length rest) (without_cr rest) header (is_blank (without_cr rest)) (λ h. no_rows) at q) where
    own : Comes leaves n (o + length rest) (without_cr rest) header (is_blank (without_cr rest)) (λ h. no_rows) at → Shown leaves ended n o rest header at
    own (inl p) = whole p.0
    own (inr p) = absurd (let e : None ≡ Some at = p.1 in cc)

  limit : (v : Bool) → nat_lt 0 (length rest + 0) ≡ v → (f : RowFault) → (if v then limit_fault n rest else None) ≡ Some f
      → Some (record { line = n; fault = f; end = limit_end o f }) ≡ Some at → Shown leaves ended n o rest header at
  limit true e f g q =
      let some : 0 < length (rest ++ []) = (let p = length-append rest [] in grind (arith, nat_tests)) in
      subst (λ (x : List ℕ). Shown leaves ended n o x header at) (append-nil rest) (limit_shows leaves ended n o rest [] header at f clean some g q)
  limit false e f g q = absurd (cc)

  by : (r : Option RowFault) → part_limit n rest [] ≡ r
      → (within_limits n o r (if ended then at_line leaves n (o + length rest) rest header (λ h. no_rows) else no_rows)).fault ≡ Some at → Shown leaves ended n o rest header at
  by None e q = line ended q
  by (Some f) e q = limit (nat_lt 0 (length rest + 0)) refl f e q

lines_show : (leaves : List Leaf) (ended : Bool) (n o : ℕ) (ls : List (List ℕ)) (rest : List ℕ) (header : Option Columns) (at : FaultAt) → CleanLines ls → NoBreak rest
    → (rows_from leaves ended n o (ls ++ rest ∷ []) header).fault ≡ Some at → Shown leaves ended n o (lines_text ls ++ rest) header at
lines_show leaves ended n o [] rest header at clean_ls clean h = rest_shows leaves ended n o rest header at clean h
lines_show leaves ended n o (l ∷ ls) rest header at clean_ls clean h =
    subst (λ (x : List ℕ). Shown leaves ended n o x header at) (sym (append_assoc l (10 ∷ lines_text ls) rest))
    (by (λ hh q. lines_show leaves ended (n + 1) (o + length l + 1) ls rest hh at clean_ls.1 clean q) (limit_fault n l) refl (ap (λ (r : Rows). r.fault) (sym (rows_first leaves ended n o l ls rest [] header)) ∙ h)) where
      tail : List ℕ
      tail = lines_text ls ++ rest

      end : ℕ
      end = o + length l + 1

      later : Option Columns → Rows
      later = rows_from leaves ended (n + 1) end (ls ++ rest ∷ [])

      line : (text : List ℕ) → limit_fault n l ≡ None → (at_line leaves n end l header (rows_from leaves ended (n + 1) end (parts text))).fault ≡ Some at
          → (rows_from leaves ended n o (parts (l ++ 10 ∷ text)) header).fault ≡ Some at
      line text e q = ap (λ (r : Rows). r.fault) (rows_by_lines leaves ended n o l text header clean_ls.0) ∙ rw e q

      behind : (k : ℕ) → take (length l + (1 + k)) (l ++ 10 ∷ tail) ≡ l ++ 10 ∷ take k tail
      behind k = let s : 1 + k ≡ suc k = omega arith in take-append-add l (10 ∷ tail) (1 + k) ∙ rw s refl

      own : ((hh : Option Columns) → (later hh).fault ≡ Some at → Shown leaves ended (n + 1) end tail hh at) → limit_fault n l ≡ None
          → Comes leaves n end (without_cr l) header (is_blank (without_cr l)) later at → Shown leaves ended n o (l ++ 10 ∷ tail) header at
      own more e (inl p) = record {
        k = length l + (1 + 0);
        is = p.0 ∙ (let s : o + length l + 1 ≡ o + (length l + (1 + 0)) = omega arith in s);
        within = omega (arith, length-append l (10 ∷ tail));
        shown = rw (behind 0) (line [] e (p.1 (rows_from leaves ended (n + 1) end (parts []))));
      }
      own more e (inr p) =
          let m = more p.0 p.1 in
          record {
            k = length l + (1 + m.k);
            is = m.is ∙ (let s : (o + length l + 1) + m.k ≡ o + (length l + (1 + m.k)) = omega arith in s);
            within = omega (arith, length-append l (10 ∷ tail), m.within);
            shown = rw (behind m.k) (line (take m.k tail) e (p.2 (rows_from leaves ended (n + 1) end (parts (take m.k tail))) m.shown));
          }

      by : ((hh : Option Columns) → (later hh).fault ≡ Some at → Shown leaves ended (n + 1) end tail hh at) → (r : Option RowFault) → limit_fault n l ≡ r
          → (within_limits n o r (at_line leaves n end l header later)).fault ≡ Some at → Shown leaves ended n o (l ++ 10 ∷ tail) header at
      by more None e q = own more e (comes leaves n end (without_cr l) header (is_blank (without_cr l)) later at q)
      by more (Some f) e q = limit_shows leaves ended n o l (10 ∷ tail) header at f clean_ls.0 (omega (arith, length-append l (10 ∷ tail))) e q

shown_in : (leaves : List Leaf) (ended : Bool) (text : List ℕ) (at : FaultAt) → (rows_in leaves ended text).fault ≡ Some at → Shown leaves ended 1 0 text None at
shown_in leaves ended text at h =
    let c = cut text in
    let own : parts text ≡ c.lines ++ c.rest ∷ [] =
    ap parts (sym (append-nil text)) ∙ c.split [] ∙ ap (λ (x : List ℕ). c.lines ++ parts x) (append-nil c.rest) ∙ ap (λ (ps : List (List ℕ)). c.lines ++ ps) (slice_split_none is_break c.rest c.clean) in
    subst (λ (x : List ℕ). Shown leaves ended 1 0 x None at) (sym c.is)
    (lines_show leaves ended 1 0 c.lines c.rest None at c.whole c.clean (ap (λ (ps : List (List ℕ)). (rows_from leaves ended 1 0 ps None).fault) (sym own) ∙ h))

pub faults_show : FaultsShow
faults_show leaves ended text at h =
    let s = shown_in leaves ended text at h in
    let k : s.k ≡ at.end = omega (arith, s.is) in
    record {
      within = omega (arith, s.is, s.within);
      shown = rw k at s.shown;
      first = λ n low. earlier n low (rows_in leaves false (take n text)).fault refl;
    } where
      earlier : (n : ℕ) → n < at.end → (o : Option FaultAt) → (rows_in leaves false (take n text)).fault ≡ o → o ≡ None
      earlier n low None e = refl
      earlier n low (Some other) e =
          let g = (rows_grow leaves ended (take n text) (drop n text)).fault other e in
          let same : rows_in leaves ended text ≡ rows_in leaves false (take n text) = ap (λ (x : List ℕ). rows_in leaves ended x) (sym (take-append-drop n text)) ∙ g in
          let is : other ≡ at = same_fault (sym e ∙ ap (λ (r : Rows). r.fault) (sym same) ∙ h) in
          let s = shown_in leaves false (take n text) other e in
          absurd (omega (arith, s.is, s.within, length-take n text, ap (λ (x : FaultAt). x.end) is))
