-- Fronts of lists, and lists that are written over.
use Rattle.std.proofs.Common.{◌≡◌, Bool, true, false, ℕ, zero, suc, ◌+◌, ◌-◌, ◌≤◌, List, [], ◌∷◌, ◌++◌, length, take, drop, refl, sym, ap, ◌∙◌, arith}
use Rattle.std.specs.Prelude.{min, nat_le, slice_set}
use Rattle.std.proofs.Math.Seq.{paste}
use Rattle.std.proofs.lemmas.Bool.Decides.{nat_tests}
use Rattle.std.proofs.lemmas.List.{drop-take, length-drop, length-take, append-nil}
use Rattle.std.proofs.lemmas.List.Edits.{take-paste}
use Rattle.c_exec.specs.Piles.{kept}
use Rattle.c_exec.specs.Runs.{written}

pub take_fits : {X : Type 0} (n : ℕ) (xs : List X) → length xs ≤ n → take n xs ≡ xs
take_fits zero [] h = refl
take_fits zero (x ∷ xs) h = absurd (omega (arith, h))
take_fits (suc n) [] h = refl
take_fits (suc n) (x ∷ xs) h = ap (λ (ys : List _). x ∷ ys) (take_fits n xs (omega (arith, h)))

pub take_front : {X : Type 0} (n m : ℕ) (xs : List X) → n ≤ m → take n (take m xs) ≡ take n xs
take_front zero m xs h = refl
take_front (suc n) zero xs h = absurd (omega (arith, h))
take_front (suc n) (suc m) [] h = refl
take_front (suc n) (suc m) (x ∷ xs) h = ap (λ (ys : List _). x ∷ ys) (take_front n m xs (omega (arith, h)))

-- what is cut off stays cut off
pub take_cut : {X : Type 0} (n : ℕ) (xs ys : List X) → take n (take n xs ++ ys) ≡ take n (xs ++ ys)
take_cut zero xs ys = refl
take_cut (suc n) [] ys = refl
take_cut (suc n) (x ∷ xs) ys = ap (λ (zs : List _). x ∷ zs) (take_cut n xs ys)

pub take_one_more : {X : Type 0} (n : ℕ) (xs ys : List X) (z : X) → take n (take n xs ++ z ∷ []) ≡ take n (xs ++ z ∷ [])
take_one_more n xs ys z = take_cut n xs (z ∷ [])

-- a write behind the end changes nothing
set_past : (ws : List ℕ) (at x : ℕ) → length ws ≤ at → slice_set ws at x ≡ ws
set_past [] at x h = refl
set_past (w ∷ ws) zero x h = absurd (omega (arith, h))
set_past (w ∷ ws) (suc at) x h = ap (λ (ys : List ℕ). w ∷ ys) (set_past ws at x (omega (arith, h)))

pub written_past : (xs ws : List ℕ) (at : ℕ) → length ws ≤ at → written at xs ws ≡ ws
written_past [] ws at h = refl
written_past (x ∷ xs) ws at h =
    ap (written (at + 1) xs) (set_past ws at x h) ∙ written_past xs ws (at + 1) (omega (arith, h))

front_of_two : {X : Type 0} (n m : ℕ) (xs : List X) (b : Bool) → nat_le n m ≡ b → take (min n m) xs ≡ take n (take m xs)
front_of_two n m xs true h =
    let l : n ≤ m = grind (arith, nat_tests, h) in
    let e : min n m ≡ n = omega (arith, l) in
    ap (λ k. take k xs) e ∙ sym (take_front n m xs l)
front_of_two n m xs false h =
    let l : m ≤ n = grind (arith, nat_tests, h) in
    let e : min n m ≡ m = omega (arith, l) in
    ap (λ k. take k xs) e ∙ sym (take_fits n (take m xs) (omega (arith, l, length-take m xs)))

-- words above a base, moved down to it
pub moved_down : (ws moved : List ℕ) (room len base off n count k : ℕ) → len ≤ length ws → base + off ≤ len → count ≡ min n ((len - base) - off) → length moved ≡ length ws
    → len ≤ room → k ≡ count → moved ≡ paste ws base (drop (base + off) ws) k → take (base + count) (take room (moved ++ drop (length moved) ws)) ≡ kept base off n (take len ws)
moved_down ws moved room len base off n count k long h e same wide ke is =
    let m : ℕ = (len - base) - off in
    let whole : (base + off) + m ≡ len = omega arith in
    let none : drop (length moved) ws ≡ [] = drop_all ws (length moved) (omega (arith, same)) in
    let left : moved ++ drop (length moved) ws ≡ moved = rw none (append-nil moved) in
    let short : base + count ≤ len = omega (arith, e, h) in
    let low : take base (take len ws) ≡ take base ws = take_front base len ws (omega (arith, h)) in
    let high : drop (base + off) (take len ws) ≡ take m (drop (base + off) ws) = ap (λ j. drop (base + off) (take j ws)) (sym whole) ∙ drop-take (base + off) m ws in
    let taken : take (base + count) moved ≡ take base ws ++ take count (drop (base + off) ws) =
    rw (is, ke) (take-paste ws base (drop (base + off) ws) count (omega (arith, h, long)) (omega (arith, e, h, long, length-drop (base + off) ws))) in
    let moved_is : take (base + count) (take room (moved ++ drop (length moved) ws)) ≡ take base ws ++ take count (drop (base + off) ws) =
    rw left (take_front (base + count) room moved (omega (arith, short, wide)) ∙ taken) in
    moved_is ∙ rw (low, high, e) (ap (λ (ys : List ℕ). take base ws ++ ys) (front_of_two n m (drop (base + off) ws) (nat_le n m) refl))
  where
    drop_all : (xs : List ℕ) (j : ℕ) → length xs ≤ j → drop j xs ≡ []
    drop_all [] zero h = refl
    drop_all [] (suc j) h = refl
    drop_all (x ∷ xs) zero h = absurd (omega (arith, h))
    drop_all (x ∷ xs) (suc j) h = drop_all xs j (omega (arith, h))
