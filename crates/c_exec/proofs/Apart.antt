-- Words that lie apart from those that are written over stay.
use Rattle.std.proofs.Common.{◌≡◌, ℕ, zero, suc, ◌+◌, ◌<◌, ◌≤◌, List, [], ◌∷◌, ◌++◌, length, take, drop, Some, refl, sym, ap, ◌∙◌, arith}
use Rattle.std.specs.Prelude.{slice_get, slice_set}
use Rattle.std.specs.List.{sum_by}
use Rattle.std.proofs.lemmas.List.{drop-take, length-take, length-drop, take-append-drop}
use Rattle.std.proofs.lemmas.List.Sums.{sum_by-cons}
use Rattle.std.proofs.Math.Seq.{take-append_seam, drop-append_seam}
use Rattle.c_exec.specs.Runs.{written}
use Rattle.c_exec.proofs.SetRuns.{written_at}

take_set : (ws : List ℕ) (place x n : ℕ) → n ≤ place → take n (slice_set ws place x) ≡ take n ws
take_set [] place x n h = refl
take_set (w ∷ ws) zero x zero h = refl
take_set (w ∷ ws) zero x (suc n) h = absurd (omega (arith, h))
take_set (w ∷ ws) (suc place) x zero h = refl
take_set (w ∷ ws) (suc place) x (suc n) h = ap (λ (ys : List ℕ). w ∷ ys) (take_set ws place x n (omega (arith, h)))

drop_set : (ws : List ℕ) (place x n : ℕ) → place < n → drop n (slice_set ws place x) ≡ drop n ws
drop_set [] place x n h = refl
drop_set (w ∷ ws) zero x zero h = absurd (omega (arith, h))
drop_set (w ∷ ws) zero x (suc n) h = refl
drop_set (w ∷ ws) (suc place) x zero h = absurd (omega (arith, h))
drop_set (w ∷ ws) (suc place) x (suc n) h = drop_set ws place x n (omega (arith, h))

pub take_before : (xs ws : List ℕ) (place n : ℕ) → n ≤ place → take n (written place xs ws) ≡ take n ws
take_before [] ws place n h = refl
take_before (x ∷ xs) ws place n h = take_before xs (slice_set ws place x) (place + 1) n (omega (arith, h)) ∙ take_set ws place x n h

pub drop_behind : (xs ws : List ℕ) (place n : ℕ) → place + length xs ≤ n → drop n (written place xs ws) ≡ drop n ws
drop_behind [] ws place n h = refl
drop_behind (x ∷ xs) ws place n h = drop_behind xs (slice_set ws place x) (place + 1) n (omega (arith, h)) ∙ drop_set ws place x n (omega (arith, h))

-- a run before those words
pub run_before : (xs ws : List ℕ) (place start n : ℕ) → start + n ≤ place → take n (drop start (written place xs ws)) ≡ take n (drop start ws)
run_before xs ws place start n h =
    sym (drop-take start n (written place xs ws)) ∙ ap (λ (ys : List ℕ). drop start ys) (take_before xs ws place (start + n) h) ∙ drop-take start n ws

-- a run behind them
pub run_behind : (xs ws : List ℕ) (place start n : ℕ) → place + length xs ≤ start → take n (drop start (written place xs ws)) ≡ take n (drop start ws)
run_behind xs ws place start n h = ap (λ (ys : List ℕ). take n ys) (drop_behind xs ws place start h)

-- ---- the run itself

-- the words that were written
pub run_same : (xs ws : List ℕ) (place : ℕ) → place + length xs ≤ length ws → take (length xs) (drop place (written place xs ws)) ≡ xs
run_same xs ws place h =
    let front : List ℕ = take place ws in
    let old : List ℕ = take (length xs) (drop place ws) in
    let rest : List ℕ = drop (length xs) (drop place ws) in
    let a = length-take place ws in
    let b = length-take (length xs) (drop place ws) in
    let c = length-drop place ws in
    let p : place ≡ length front = omega (arith, a, h) in
    let l : length xs ≡ length old = omega (arith, b, c, h) in
    let all : ws ≡ front ++ (old ++ rest) = sym (ap (λ (ys : List ℕ). front ++ ys) (take-append-drop (length xs) (drop place ws)) ∙ take-append-drop place ws) in
    ap (λ (ys : List ℕ). take (length xs) (drop place ys)) (written_at place xs old front rest ws p all l)
    ∙ ap (λ (k : ℕ). take (length xs) (drop k (front ++ (xs ++ rest)))) p
    ∙ ap (λ (ys : List ℕ). take (length xs) ys) (drop-append_seam front (xs ++ rest)) ∙ take-append_seam xs rest

-- the run of an earlier place ends before that of a later one begins
pub starts_apart : {A : Type 0} (w : A → ℕ) (xs : List A) (a b : ℕ) (x : A) → slice_get xs a ≡ Some x → a < b
    → sum_by w (take a xs) + w x ≤ sum_by w (take b xs)
starts_apart w [] a b x e h = absurd (cc e)
starts_apart w (y ∷ xs) zero zero x e h = absurd (omega (arith, h))
starts_apart w (y ∷ xs) zero (suc b) x e h =
    let same : y ≡ x = cc e in
    let here : w y ≡ w x = ap w same in
    let first = sum_by-cons w y (take b xs) in
    omega (arith, here, first)
starts_apart w (y ∷ xs) (suc a) zero x e h = absurd (omega (arith, h))
starts_apart w (y ∷ xs) (suc a) (suc b) x e h =
    let one = sum_by-cons w y (take a xs) in
    let two = sum_by-cons w y (take b xs) in
    let rest = starts_apart w xs a b x e (omega (arith, h)) in
    omega (arith, one, two, rest)
