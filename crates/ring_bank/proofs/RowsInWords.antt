-- The rows of one ring, as they lie in its words.
use Rattle.std.proofs.Common.{◌≡◌, ℕ, zero, suc, ◌+◌, ◌-◌, ◌*◌, ◌%◌, ◌<◌, ◌≤◌, ◌⊎◌, List, [], ◌∷◌, ◌++◌, length, get_or, take, drop, set, refl, sym, ap, ap₂, ◌∙◌, inl, inr, mod-eq_of_lt, arith, length-append, length-drop, length-set, length-take-le, get_or-drop, get_or-take, append_assoc}
use native.Mathlib.Nat.{mod-eq-sub-mod, zero-mul, suc-mul}
use Rattle.std.proofs.lemmas.List.{drop_more, drop-drop, drop-take, take_at, drop_at, take-append-le, drop-append-le, take-take, get_or_append_left, get_or-append_right, drop-set-lt, take_more, take_more_set, set_at, append-nil, take_all, drop_all}
use Rattle.std.proofs.lemmas.Slice.{drop-append-drop}
use Rattle.std.proofs.Math.Nat.{mul-le-mul_right}
use Rattle.std.proofs.lemmas.Bool.{cases_lt}
use Rattle.ring_bank.specs.RingRows.{rows_of, pushed}
use Rattle.ring_bank.specs.Layout.{from_oldest, written}

pub length-rows_of : (n w : ℕ) (ws : List ℕ) → length (rows_of n w ws) ≡ n
length-rows_of zero w ws = refl
length-rows_of (suc n) w ws = ap suc (length-rows_of n w (drop w ws))

pub get_or-rows_of : (n w s : ℕ) (ws : List ℕ) → s < n → get_or (rows_of n w ws) s [] ≡ take w (drop (s * w) ws)
get_or-rows_of zero w s ws lt = absurd (omega arith)
get_or-rows_of (suc n) w zero ws lt = ap (λ k. take w (drop k ws)) (sym (zero-mul w))
get_or-rows_of (suc n) w (suc s) ws lt =
    get_or-rows_of n w s (drop w ws) (omega arith) ∙ ap (take w) (drop-drop (s * w) w ws ∙ ap (λ k. drop k ws) (omega (arith, suc-mul s w)))

-- an index below 2 n wraps once at most
pub wraps_once : (n j : ℕ) → j < n + n → ((j < n) × (j % n ≡ j)) ⊎ ((n ≤ j) × (j % n ≡ j - n))
wraps_once n j below = elim (cases_lt j n) [
  | inl low ↦ inl (low, mod-eq_of_lt low)
  | inr high ↦ inr (high, mod-eq-sub-mod high ∙ mod-eq_of_lt (omega arith))
]

pub length-from_oldest : (s : ℕ) (rows : List (List ℕ)) → s ≤ length rows → length (from_oldest s rows) ≡ length rows
length-from_oldest s rows le = simp (length-append, length-drop) (omega (arith, length-take-le s rows le))

pub get_or-from_oldest : (s k : ℕ) (rows : List (List ℕ)) → s < length rows → k < length rows
    → get_or (from_oldest s rows) k [] ≡ get_or rows ((s + k) % length rows) []
get_or-from_oldest s k rows lt in_range =
    let tail = length-drop s rows in
    elim (wraps_once (length rows) (s + k) (omega arith)) [
      | inl w ↦ get_or_append_left _ _ [] k (omega arith) ∙ get_or-drop s rows k [] ∙ ap (λ j. get_or rows j []) (sym w.1)
      | inr w ↦ get_or-append_right _ _ (length rows - s) k [] tail (omega arith) ∙ get_or-take s rows _ [] (omega arith) ∙ ap (λ j. get_or rows j []) (omega (arith, w.1))
    ]

-- the slot of the oldest row takes the new one, and the next slot's row is the oldest then
pub from_oldest-pushed : (s : ℕ) (rows : List (List ℕ)) (row : List ℕ) → s < length rows
    → from_oldest ((s + 1) % length rows) (set rows s row) ≡ pushed (from_oldest s rows) row
from_oldest-pushed s rows row lt =
    let front = take_more_set rows s row lt in
    let there : drop 1 (from_oldest s rows) ≡ drop (s + 1) rows ++ take s rows = ap (λ l. drop 1 (l ++ take s rows)) (drop_more rows s [] lt) in
    let right : pushed (from_oldest s rows) row ≡ drop (s + 1) rows ++ (take s rows ++ row ∷ []) = ap (λ l. l ++ row ∷ []) there ∙ append_assoc (drop (s + 1) rows) (take s rows) (row ∷ []) in
    elim (wraps_once (length rows) (s + 1) (omega arith)) [
      | inl w ↦ ap (λ k. from_oldest k (set rows s row)) w.1 ∙ ap₂ ◌++◌ (drop-set-lt (s + 1) rows s row (omega arith)) front ∙ sym right
      | inr w ↦
          let last : (s + 1) % length rows ≡ 0 = omega (arith, w.1) in
          let all : take (s + 1) (set rows s row) ≡ set rows s row = take_all (s + 1) (set rows s row) (omega (arith, length-set rows s row)) in
          ap (λ k. from_oldest k (set rows s row)) last ∙ append-nil (set rows s row) ∙ sym all ∙ front
          ∙ ap (λ l. l ++ (take s rows ++ row ∷ [])) (sym (drop_all (s + 1) rows (omega arith))) ∙ sym right
    ]

pub length-written : (at : ℕ) (run words : List ℕ) → at + length run ≤ length words → length (written at run words) ≡ length words
length-written at run words le = simp (length-append, length-drop) (omega (arith, length-take-le at words (omega arith)))

-- what lies before the run
pub take-written : (m at : ℕ) (run words : List ℕ) → m ≤ at → at ≤ length words → take m (written at run words) ≡ take m words
take-written m at run words le within =
    let long = length-take-le at words within in
    take-append-le m (take at words ++ run) _ (omega (arith, long, length-append (take at words) run)) ∙ take-append-le m (take at words) run (omega (arith, long)) ∙ take-take m at words le

-- what lies behind it
pub drop-written : (m at : ℕ) (run words : List ℕ) → at + length run ≤ m → at ≤ length words → drop m (written at run words) ≡ drop m words
drop-written m at run words le within =
    drop-append-drop (at + length run) words (take at words ++ run) m le (omega (arith, length-take-le at words within, length-append (take at words) run))

-- the run, seen from an index before it
pub drop-written_before : (m at : ℕ) (run words : List ℕ) → m ≤ at → at ≤ length words → drop m (written at run words) ≡ written (at - m) run (drop m words)
drop-written_before m at run words le within =
    let long = length-take-le at words within in
    let front : drop m (take at words) ≡ take (at - m) (drop m words) = ap (λ k. drop m (take k words)) {y = m + (at - m)} (omega arith) ∙ drop-take m (at - m) words in
    let rest : drop (at + length run) words ≡ drop (at - m + length run) (drop m words) = sym (drop-drop (at - m + length run) m words ∙ ap (λ k. drop k words) (omega arith)) in
    drop-append-le m (take at words ++ run) _ (omega (arith, long, length-append (take at words) run))
    ∙ ap₂ ◌++◌ (drop-append-le m (take at words) run (omega (arith, long)) ∙ ap (λ l. l ++ run) front) rest

-- a row written over another
pub rows_of-written : (n w s : ℕ) (row ws : List ℕ) → s < n → length row ≡ w → n * w ≤ length ws
    → rows_of n w (written (s * w) row ws) ≡ set (rows_of n w ws) s row
rows_of-written zero w s row ws lt wide fits = absurd (omega arith)
rows_of-written (suc n) w zero row ws lt wide fits =
    let start : written (zero * w) row ws ≡ row ++ drop w ws = ap (λ k. written k row ws) (zero-mul w) ∙ ap (λ k. row ++ drop k ws) (omega (arith, wide)) in
    ap (rows_of (suc n) w) start ∙ ap₂ ◌∷◌ (take_at row _ w wide) (ap (rows_of n w) (drop_at row _ w wide))
rows_of-written (suc n) w (suc s) row ws lt wide fits =
    let wider = suc-mul s w in let all = suc-mul n w in
    let far : s * w + w ≤ n * w = omega (arith, suc-mul s w, mul-le-mul_right {m = suc s} {n = n} w (omega arith)) in
    ap₂ ◌∷◌ (take-written w (suc s * w) row ws (omega arith) (omega arith))
    (ap (rows_of n w) (drop-written_before w (suc s * w) row ws (omega arith) (omega arith) ∙ ap (λ k. written k row (drop w ws)) (omega arith))
    ∙ rows_of-written n w s row (drop w ws) (omega arith) wide (omega (arith, length-drop w ws)))

-- a run written behind them
pub rows_of-written_past : (n w p : ℕ) (run ws : List ℕ) → n * w ≤ p → p ≤ length ws → rows_of n w (written p run ws) ≡ rows_of n w ws
rows_of-written_past zero w p run ws le within = refl
rows_of-written_past (suc n) w p run ws le within =
    let all = suc-mul n w in
    ap₂ ◌∷◌ (take-written w p run ws (omega arith) within)
    (ap (rows_of n w) (drop-written_before w p run ws (omega arith) within)
    ∙ rows_of-written_past n w (p - w) run (drop w ws) (omega arith) (omega (arith, length-drop w ws)))

-- one more word of a run
pub written_more : (at i : ℕ) (run words : List ℕ) → at + length run ≤ length words → i < length run
    → set (written at (take i run) words) (at + i) (get_or run i 0) ≡ written at (take (i + 1) run) words
written_more at i run words fits lt =
    let front = length-take-le at words (omega arith) in let part = length-take-le i run (omega arith) in let longer = length-take-le (i + 1) run (omega arith) in
    let before = take at words ++ take i run in
    let long : length before ≡ at + i = omega (arith, length-append (take at words) (take i run)) in
    let here : drop (at + length (take i run)) words ≡ get_or words (at + i) 0 ∷ drop (at + i + 1) words = ap (λ k. drop (at + k) words) part ∙ drop_more words (at + i) 0 (omega arith) in
    ap (λ l. set (before ++ l) (at + i) (get_or run i 0)) here ∙ set_at before (get_or words (at + i) 0) (drop (at + i + 1) words) (get_or run i 0) (at + i) long
    ∙ sym (append_assoc before (get_or run i 0 ∷ []) (drop (at + i + 1) words))
    ∙ ap₂ ◌++◌ (append_assoc (take at words) (take i run) (get_or run i 0 ∷ []) ∙ ap (λ l. take at words ++ l) (sym (take_more run i 0 lt))) (ap (λ k. drop k words) (omega (arith, longer)))
