-- The rings, as they lie in the words of the block.
use Rattle.std.proofs.Common.{◌≡◌, ℕ, zero, suc, ◌+◌, ◌-◌, ◌*◌, ◌%◌, ◌<◌, ◌≤◌, List, [], ◌∷◌, length, get_or, take, drop, set, refl, sym, ap, ap₂, subst, ◌∙◌, arith, length-drop, length-take-le, mod-eq_of_lt, get_or-drop, get_or-take}
use native.Mathlib.Nat.{suc-mul, mod-lt}
use Rattle.std.proofs.Math.Nat.{mul-le-mul_right}
use Rattle.std.proofs.lemmas.List.{drop-drop, append-nil}
use Rattle.ring_bank.specs.declared.shape.Shape.{Shape}
use Rattle.ring_bank.specs.declared.ring.Ring.{Ring}
use Rattle.ring_bank.specs.RingRows.{rows_of, rings_of, words_of, pushed}
use Rattle.ring_bank.specs.Layout.{rings_from, rings_in, from_oldest, Laid, LiesBetween, row_start, turned, written}
use Rattle.ring_bank.proofs.RowsInWords.{length-rows_of, get_or-rows_of, length-from_oldest, get_or-from_oldest, from_oldest-pushed, drop-written, drop-written_before, rows_of-written, rows_of-written_past}

pub Laid-le : (at : ℕ) (rs : List Ring) (end : ℕ) → Laid at rs end → at ≤ end
Laid-le at [] end l = omega (arith, l)
Laid-le at (r ∷ rs) end l = omega (arith, Laid-le (at + r.len * r.width) rs end l.3)

-- new rings lie one behind the other
pub rings_from-Laid : (at : ℕ) (ss : List Shape) → Laid at (rings_from at ss) (at + words_of ss)
rings_from-Laid at [] = omega arith
rings_from-Laid at (s ∷ ss) = (
  refl,
  omega (arith, s.holds_a_word.0),
  omega (arith, s.holds_a_word.1),
  subst (Laid (at + s.len * s.width) (rings_from (at + s.len * s.width) ss)) (omega arith) (rings_from-Laid (at + s.len * s.width) ss),
)

-- and hold the words as they are
pub rings_in-rings_from : (at : ℕ) (ss : List Shape) (words : List ℕ) → rings_in (rings_from at ss) words ≡ rings_of ss words
rings_in-rings_from at [] words = refl
rings_in-rings_from at (s ∷ ss) words =
    ap₂ ◌∷◌ (append-nil (rows_of s.len s.width words)) (rings_in-rings_from (at + s.len * s.width) ss (drop (s.len * s.width) words))

pub length-rings_in : (rs : List Ring) (words : List ℕ) → length (rings_in rs words) ≡ length rs
length-rings_in [] words = refl
length-rings_in (r ∷ rs) words = ap suc (length-rings_in rs (drop (r.len * r.width) words))

pub placed : (at : ℕ) (rs : List Ring) (end i : ℕ) (r : Ring) → Laid at rs end → i < length rs → r ≡ get_or rs i r → LiesBetween at r end
placed at [] end i r l lt e = absurd (omega arith)
placed at (x ∷ rs) end zero r l lt e =
    subst (λ y. LiesBetween at y end) (sym e) (record { starts = omega (arith, l.0); ends = omega (arith, l.0, Laid-le (at + x.len * x.width) rs end l.3); oldest = l.1; wide = l.2 })
placed at (x ∷ rs) end (suc i) r l lt e =
    let p = placed (at + x.len * x.width) rs end i r l.3 (omega arith) e in
    record { starts = omega (arith, p.starts); ends = p.ends; oldest = p.oldest; wide = p.wide }

-- what a ring holds
pub get_or-rings_in : (at : ℕ) (rs : List Ring) (words : List ℕ) (i : ℕ) (r : Ring) → Laid at rs (at + length words) → i < length rs → r ≡ get_or rs i r
    → get_or (rings_in rs words) i [] ≡ from_oldest r.oldest (rows_of r.len r.width (drop (r.base - at) words))
get_or-rings_in at [] words i r l lt e = absurd (omega arith)
get_or-rings_in at (x ∷ rs) words zero r l lt e =
    subst (λ y. from_oldest x.oldest (rows_of x.len x.width words) ≡ from_oldest y.oldest (rows_of y.len y.width (drop (y.base - at) words))) (sym e)
    (ap (λ k. from_oldest x.oldest (rows_of x.len x.width (drop k words))) {x = 0} {y = x.base - at} (omega (arith, l.0)))
get_or-rings_in at (x ∷ rs) words (suc i) r l lt e =
    let m = x.len * x.width in
    let more = Laid-le (at + m) rs (at + length words) l.3 in
    let l' : Laid (at + m) rs (at + m + length (drop m words)) = subst (Laid (at + m) rs) (omega (arith, length-drop m words)) l.3 in
    let p = placed (at + m) rs (at + length words) i r l.3 (omega arith) e in
    get_or-rings_in (at + m) rs (drop m words) i r l' (omega arith) e
    ∙ ap (λ l. from_oldest r.oldest (rows_of r.len r.width l)) (drop-drop (r.base - (at + m)) m words ∙ ap (λ k. drop k words) {x = m + (r.base - (at + m))} {y = r.base - at} (omega (arith, p.starts)))

pub turned-Laid : (at : ℕ) (rs : List Ring) (end i : ℕ) (r : Ring) → Laid at rs end → i < length rs → r ≡ get_or rs i r → Laid at (set rs i (turned r)) end
turned-Laid at [] end i r l lt e = absurd (omega arith)
turned-Laid at (x ∷ rs) end zero r l lt e =
    subst (λ y. Laid at (turned y ∷ rs) end) (sym e) (l.0, mod-lt (x.oldest + 1) (omega (arith, l.1)), l.2, l.3)
turned-Laid at (x ∷ rs) end (suc i) r l lt e = (l.0, l.1, l.2, turned-Laid (at + x.len * x.width) rs end i r l.3 (omega arith) e)

-- a row written into the slot of the oldest, and the next slot the oldest then
pub rings_in-pushed : (at : ℕ) (rs : List Ring) (words : List ℕ) (i : ℕ) (r : Ring) (p : ℕ) (row : List ℕ)
    → Laid at rs (at + length words) → i < length rs → r ≡ get_or rs i r → at + p ≡ r.base + r.oldest * r.width → length row ≡ r.width
    → rings_in (set rs i (turned r)) (written p row words) ≡ set (rings_in rs words) i (pushed (get_or (rings_in rs words) i []) row)
rings_in-pushed at [] words i r p row l lt e is wide = absurd (omega arith)
rings_in-pushed at (x ∷ rs) words zero r p row l lt e is wide =
    let m = x.len * x.width in
    let more = Laid-le (at + m) rs (at + length words) l.3 in
    let rows = rows_of x.len x.width words in
    let count = length-rows_of x.len x.width words in
    let wide' : length row ≡ x.width = wide ∙ ap (λ y. y.width) e in
    let within : x.oldest * x.width + x.width ≤ m = omega (arith, suc-mul x.oldest x.width, mul-le-mul_right {m = suc x.oldest} {n = x.len} x.width (omega (arith, l.1))) in
    let place : p ≡ x.oldest * x.width = omega (arith, l.0, is, ap (λ y. y.base + y.oldest * y.width) e) in
    let here : rows_of x.len x.width (written p row words) ≡ set rows x.oldest row = ap (λ k. rows_of x.len x.width (written k row words)) place ∙ rows_of-written x.len x.width x.oldest row words l.1 wide' (omega (arith, more)) in
    let turned_once : from_oldest ((x.oldest + 1) % x.len) (set rows x.oldest row) ≡ pushed (from_oldest x.oldest rows) row =
    ap (λ n. from_oldest ((x.oldest + 1) % n) (set rows x.oldest row)) (sym count) ∙ from_oldest-pushed x.oldest rows row (omega (arith, l.1, count)) in
    subst (λ y. rings_in (turned y ∷ rs) (written p row words) ≡ pushed (from_oldest x.oldest rows) row ∷ rings_in rs (drop m words)) (sym e)
    (ap₂ ◌∷◌ (ap (from_oldest ((x.oldest + 1) % x.len)) here ∙ turned_once) (ap (rings_in rs) (drop-written m p row words (omega arith) (omega (arith, more)))))
rings_in-pushed at (x ∷ rs) words (suc i) r p row l lt e is wide =
    let m = x.len * x.width in
    let more = Laid-le (at + m) rs (at + length words) l.3 in
    let there = placed (at + m) rs (at + length words) i r l.3 (omega arith) e in
    let turn : r.oldest * r.width ≤ r.len * r.width = mul-le-mul_right {m = r.oldest} {n = r.len} r.width (omega (arith, there.oldest)) in
    let past : m ≤ p = omega (arith, there.starts, is) in
    let below : p ≤ length words = omega (arith, there.ends, is) in
    let l' : Laid (at + m) rs (at + m + length (drop m words)) = subst (Laid (at + m) rs) (omega (arith, length-drop m words)) l.3 in
    ap₂ ◌∷◌ (ap (from_oldest x.oldest) (rows_of-written_past x.len x.width p row words past below))
    (ap (rings_in (set rs i (turned r))) (drop-written_before m p row words past below)
    ∙ rings_in-pushed (at + m) rs (drop m words) i r (p - m) row l' (omega arith) e (omega (arith, is)) wide)

-- a ring of the list lies in the words
pub placed_in : (rs : List Ring) (words : List ℕ) (i : ℕ) (r : Ring) → Laid 0 rs (length words) → length words ≤ 262144 → i < length rs → r ≡ get_or rs i r → LiesBetween 0 r 262144
placed_in rs words i r l few lt e =
    let p = placed 0 rs (length words) i r l lt e in record { starts = p.starts; ends = omega (arith, p.ends); oldest = p.oldest; wide = p.wide }

module _ (rs : List Ring) (words : List ℕ) (i : ℕ) (r : Ring) (laid : Laid 0 rs (length words)) (lt : i < length rs) (e : r ≡ get_or rs i r) where
  abbrev rows : List (List ℕ)
  rows = rows_of r.len r.width (drop (r.base - 0) words)

  abbrev held : List (List ℕ)
  held = get_or (rings_in rs words) i []

  place : LiesBetween 0 r (length words)
  place = placed 0 rs (length words) i r laid lt e

  held-is : held ≡ from_oldest r.oldest rows
  held-is = get_or-rings_in 0 rs words i r (subst (Laid 0 rs) (omega arith) laid) lt e

  count : length rows ≡ r.len
  count = length-rows_of r.len r.width (drop (r.base - 0) words)

  -- how many rows the ring has
  pub length-ring : length held ≡ r.len
  length-ring = ap length held-is ∙ length-from_oldest r.oldest rows (omega (arith, count, place.oldest)) ∙ count

  module _ (k : ℕ) (in_range : k < r.len) where
    abbrev slot : ℕ
    slot = (r.oldest + k) % r.len

    slot-lt : slot < r.len
    slot-lt = mod-lt (r.oldest + k) (omega arith)

    -- where its row k ends
    pub row-ends : row_start r k + r.width ≤ length words
    row-ends = omega (arith, place.ends, suc-mul slot r.width, mul-le-mul_right {m = suc slot} {n = r.len} r.width (omega (arith, slot-lt)))

    -- what that row holds
    pub row-is : get_or held k [] ≡ take r.width (drop (row_start r k) words)
    row-is =
        ap (λ l. get_or l k []) held-is ∙ get_or-from_oldest r.oldest k rows (omega (arith, count, place.oldest)) (omega (arith, count))
        ∙ ap (λ n. get_or rows ((r.oldest + k) % n) []) count ∙ get_or-rows_of r.len r.width slot (drop (r.base - 0) words) slot-lt
        ∙ ap (take r.width) (drop-drop (slot * r.width) (r.base - 0) words ∙ ap (λ j. drop j words) {x = r.base - 0 + slot * r.width} {y = row_start r k} (omega arith))

    pub length-row : length (get_or held k []) ≡ r.width
    length-row = ap length row-is ∙ length-take-le r.width (drop (row_start r k) words) (omega (arith, row-ends, length-drop (row_start r k) words))

    pub word-is : (j : ℕ) → j < r.width → get_or (get_or held k []) j 0 ≡ get_or words (row_start r k + j) 0
    word-is j lt' = ap (λ l. get_or l j 0) row-is ∙ get_or-take r.width (drop (row_start r k) words) j 0 lt' ∙ get_or-drop (row_start r k) words j 0

-- a ring of the bank, which holds v
module _ (rs : List Ring) (words : List ℕ) (v : List (List (List ℕ))) (is : rings_in rs words ≡ v) (i : ℕ) (here : i < length v) where
  pub in_rings : i < length rs
  in_rings = omega (arith, ap length is, length-rings_in rs words)

  module _ (r : Ring) (laid : Laid 0 rs (length words)) (e : r ≡ get_or rs i r) where
    abbrev ring-is : get_or (rings_in rs words) i [] ≡ get_or v i []
    ring-is = ap (λ u. get_or u i []) is

    pub rows-are : length (get_or v i []) ≡ r.len
    rows-are = ap length (sym ring-is) ∙ length-ring rs words i r laid in_rings e

    pub words-are : (k : ℕ) → k < length (get_or v i []) → (length (get_or (get_or v i []) k []) ≡ r.width) × (row_start r k + r.width ≤ length words)
    words-are k lt =
        let inside : k < r.len = omega (arith, rows-are) in
        (ap (λ u. length (get_or u k [])) (sym ring-is) ∙ length-row rs words i r laid in_rings e k inside, row-ends rs words i r laid in_rings e k inside)

    pub reads : (k j : ℕ) → k < length (get_or v i []) → j < length (get_or (get_or v i []) k []) → get_or words (row_start r k + j) 0 ≡ get_or (get_or (get_or v i []) k []) j 0
    reads k j lt lt' =
        sym (word-is rs words i r laid in_rings e k (omega (arith, rows-are)) j (omega (arith, (words-are k lt).0))) ∙ ap (λ u. get_or (get_or u k []) j 0) ring-is

    pub pushes : (row : List ℕ) → length row ≡ length (get_or (get_or v i []) 0 []) → rings_in (set rs i (turned r)) (written (row_start r 0) row words) ≡ set v i (pushed (get_or v i []) row)
    pushes row wide =
        let p = placed 0 rs (length words) i r laid in_rings e in
        let turn : (r.oldest + 0) % r.len ≡ r.oldest = ap (λ n. n % r.len) {x = r.oldest + 0} (omega arith) ∙ mod-eq_of_lt p.oldest in
        rings_in-pushed 0 rs words i r (row_start r 0) row (subst (Laid 0 rs) (omega arith) laid) in_rings e (omega (arith, ap (λ n. n * r.width) turn)) (wide ∙ (words-are 0 (omega (arith, rows-are, p.oldest))).0)
        ∙ ap (λ u. set u i (pushed (get_or u i []) row)) is

    pub fits : (row : List ℕ) → length row ≡ length (get_or (get_or v i []) 0 []) → (at : ℕ) → at ≡ row_start r 0 → at + length row ≤ length words
    fits row wide at start =
        let first = words-are 0 (omega (arith, rows-are, (placed 0 rs (length words) i r laid in_rings e).oldest)) in omega (arith, first.0, first.1, wide, start)
