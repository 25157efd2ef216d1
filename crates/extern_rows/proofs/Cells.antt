-- The columns and the words of leaves, one more at a time.
use Rattle.std.proofs.Common.{◌≡◌, ℕ, zero, suc, ◌+◌, ◌<◌, List, [], ◌∷◌, ◌++◌, length, get_or, take, drop, slice_get, Option, Some, None, Result, Ok, Err, refl, ap, sym, ◌∙◌, arith, add-one, append_assoc, append-nil, drop-cons, Bool, true, false, cond}
use Rattle.std.proofs.Common.{Bor, map, ◌≤◌}
use Rattle.std.proofs.lemmas.Grind.{common_steps}
use Rattle.std.proofs.lemmas.List.{take_more, map-append}
use Rattle.std.specs.Option.{option_map, unwrap_or}
use Rattle.std.specs.Prelude.{if◌then◌else◌, bytes_eq}
use Rattle.std.proofs.lemmas.Slice.Eq.{bytes_eq-Decides}
use Rattle.csv.specs.Records.{field_at}
use Rattle.extern_rows.specs.declared.fault.RowFault.{RowFault}
use Rattle.extern_rows.specs.declared.fault.RowFault.TheVariants.{NoColumn, TwoColumns, BadRecord, BadField, LineTooLong, TooManyLines, Memory}
use Rattle.extern_rows.specs.declared.header.Leaf.{Leaf}
use Rattle.extern_rows.specs.declared.header.Wanted.{Wanted}
use Rattle.extern_rows.specs.Columns.{before, places_from, column_at, column_of, wanted_at, wanted_from, cell_word}
use Rattle.extern_rows.specs.LeafReading.{behind, seen_at, ReadsWanted}
use Rattle.extern_rows.specs.Fields.{trimmed, field_word}

pub field_at-get : (xs : List (List ℕ)) (i : ℕ) → field_at xs i ≡ slice_get xs i
unfolding field_at
field_at-get [] i = refl
field_at-get (x ∷ xs) zero = refl
field_at-get (x ∷ xs) (suc i) = field_at-get xs i

-- one more behind those that stand
behind_one : {X : Type 0} (front : List X) (x : X) (more : Result (List X) RowFault) → behind front (before (Ok x) more) ≡ behind (front ++ x ∷ []) more
behind_one front x (Ok xs) = ap Ok (sym (append_assoc front (x ∷ []) xs))
behind_one front x (Err fault) = refl

next_of : {X : Type 0} (xs : List X) (i : ℕ) (x : X) → i < length xs → x ≡ get_or xs i x → drop i xs ≡ x ∷ drop (i + 1) xs
next_of xs i x low is = rw add-one (drop-cons xs i x low ∙ ap (λ y. y ∷ drop (suc i) xs) (sym is))

-- ---- columns

places_more : (i : ℕ) (name : List ℕ) (names : List (List ℕ)) (n : List ℕ)
    → places_from i name (names ++ n ∷ []) ≡ places_from i name names ++ (if bytes_eq n name then (i + length names) ∷ [] else [])
places_more i name [] n = at (bytes_eq n name) where
  at : (v : Bool) → (if v then i ∷ [] else []) ≡ (if v then (i + 0) ∷ [] else [])
  at true = ap (λ k. k ∷ []) (let e : i ≡ i + 0 = omega arith in e)
  at false = refl
places_more i name (m ∷ names) n = rw (places_more (i + 1) name names n) (at (bytes_eq m name) (bytes_eq n name)) where
  one_more : (i + 1) + length names ≡ i + suc (length names)
  one_more = omega arith

  at : (v w : Bool) → (if v then i ∷ (places_from (i + 1) name names ++ (if w then ((i + 1) + length names) ∷ [] else [])) else places_from (i + 1) name names ++ (if w then ((i + 1) + length names) ∷ [] else []))
      ≡ (if v then i ∷ places_from (i + 1) name names else places_from (i + 1) name names) ++ (if w then (i + suc (length names)) ∷ [] else [])
  at true true = rw one_more refl
  at true false = refl
  at false true = rw one_more refl
  at false false = refl

seen_more : (places : List ℕ) (place : ℕ) → column_at (places ++ place ∷ []) ≡ Some (seen_at (column_at places) place)
seen_more [] place = refl
seen_more (a ∷ []) place = refl
seen_more (a ∷ b ∷ more) place = refl

pub column_more : (q n : List ℕ) (names : List (List ℕ)) → column_of q (names ++ n ∷ []) ≡ cond (bytes_eq n q) (Some (seen_at (column_of n names) (length names))) (column_of q names)
column_more q n names = ap column_at (places_more 0 q names n) ∙ at (bytes_eq n q) refl where
  at : (v : Bool) → bytes_eq n q ≡ v → column_at (places_from 0 q names ++ (if v then (0 + length names) ∷ [] else [])) ≡ cond v (Some (seen_at (column_of n names) (length names))) (column_of q names)
  at true e =
      let same : n ≡ q = (bytes_eq-Decides n q).0 e in
      let start : 0 + length names ≡ length names = omega arith in
      rw (same, start) (seen_more (places_from 0 q names) (length names))
  at false e = ap column_at (append-nil (places_from 0 q names))

-- ---- leaves

pub leaf_found : (leaves : List Leaf) (names : List (List ℕ)) (i : ℕ) (leaf : Leaf) (front : List Wanted) (w : Wanted) → i < length leaves → leaf ≡ get_or leaves i leaf
    → Ok w ≡ wanted_at i leaf.scalar (column_of leaf.name names) → wanted_from 0 leaves names ≡ behind front (wanted_from i (drop i leaves) names)
    → wanted_from 0 leaves names ≡ behind (front ++ w ∷ []) (wanted_from (i + 1) (drop (i + 1) leaves) names)
leaf_found leaves names i leaf front w low is found so_far =
    so_far ∙ ap (λ ls. behind front (wanted_from i ls names)) (next_of leaves i leaf low is)
    ∙ ap (λ r. behind front (before r (wanted_from (i + 1) (drop (i + 1) leaves) names))) (sym found)
    ∙ behind_one front w (wanted_from (i + 1) (drop (i + 1) leaves) names)

pub leaf_missed : (leaves : List Leaf) (names : List (List ℕ)) (i : ℕ) (leaf : Leaf) (front : List Wanted) (fault : RowFault) → i < length leaves → leaf ≡ get_or leaves i leaf
    → Err fault ≡ wanted_at i leaf.scalar (column_of leaf.name names) → wanted_from 0 leaves names ≡ behind front (wanted_from i (drop i leaves) names)
    → wanted_from 0 leaves names ≡ Err fault
leaf_missed leaves names i leaf front fault low is missed so_far =
    so_far ∙ ap (λ ls. behind front (wanted_from i ls names)) (next_of leaves i leaf low is)
    ∙ ap (λ r. behind front (before r (wanted_from (i + 1) (drop (i + 1) leaves) names))) (sym missed)

-- ---- words

-- ---- fields

field_at-at : (xs : List (List ℕ)) (i : ℕ) → i < length xs → field_at xs i ≡ Some (get_or xs i [])
unfolding field_at
field_at-at [] i low = absurd (omega arith)
field_at-at (x ∷ xs) zero low = refl
field_at-at (x ∷ xs) (suc i) low = field_at-at xs i (omega arith)

pub field_there : (o : Option (Bor (List ℕ))) (d : Bor (List ℕ)) (xs : List (List ℕ)) (i : ℕ) → option_map (λ s. s.now) o ≡ field_at xs i → i < length xs → (unwrap_or o d).now ≡ get_or xs i []
field_there None d xs i h low = let e = h ∙ field_at-at xs i low in absurd (cc)
field_there (Some f) d xs i h low = let e : Some f.now ≡ Some (get_or xs i []) = h ∙ field_at-at xs i low in cc

pub cell_none : (w : Wanted) (fields : List (List ℕ)) → None ≡ field_at fields w.place → cell_word w fields ≡ None
cell_none w fields h = rw (← field_at-get fields w.place, ← h) refl

pub cell_some : (w : Wanted) (fields : List (List ℕ)) (f : List ℕ) → Some f ≡ field_at fields w.place → cell_word w fields ≡ field_word w.scalar (trimmed f)
cell_some w fields f h = rw (← field_at-get fields w.place, ← h) refl

-- the names of one column more
pub names_more : (fields : List (List ℕ)) (i : ℕ) → i < length fields → map trimmed (take i fields) ++ trimmed (get_or fields i []) ∷ [] ≡ map trimmed (take (i + 1) fields)
names_more fields i low = sym (ap (map trimmed) (take_more fields i [] low) ∙ map-append trimmed (take i fields) (get_or fields i [] ∷ []))

pub length-names : (fields : List (List ℕ)) (i : ℕ) → i ≤ length fields → length (map trimmed (take i fields)) ≡ i
length-names fields i low = grind (arith, common_steps)

pub reads_missed : (leaves : List Leaf) (names : List (List ℕ)) (fault : RowFault) → wanted_from 0 leaves names ≡ Err fault → ReadsWanted leaves names (Err fault)
reads_missed leaves names Memory h = tt
reads_missed leaves names (NoColumn i) h = h
reads_missed leaves names (TwoColumns i) h = h
reads_missed leaves names (BadField i) h = h
reads_missed leaves names BadRecord h = h
reads_missed leaves names LineTooLong h = h
reads_missed leaves names TooManyLines h = h
