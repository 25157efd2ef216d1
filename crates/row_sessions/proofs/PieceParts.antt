-- The parts of a piece, one after another.
use Rattle.std.proofs.Common.{◌≡◌, ℕ, zero, suc, ◌+◌, ◌-◌, ◌≤◌, List, [], ◌∷◌, ◌++◌, length, take, drop, refl, ap, sym, ◌∙◌, arith}
use Rattle.std.specs.List.{position_or_len}
use Rattle.std.proofs.lemmas.Grind.{common_steps}
use Rattle.std.proofs.lemmas.List.{take-append-drop}
use Rattle.std.proofs.Math.Seq.{take-add}
use Rattle.extern_rows.specs.Lines.{is_break, first_line}

-- `&bytes[done..]`
abbrev pub rest_of : ℕ → List ℕ → List ℕ
rest_of done bytes = take (length bytes - done) (drop done bytes)

rest_is : (done : ℕ) (bytes : List ℕ) → rest_of done bytes ≡ drop done bytes
rest_is done bytes = grind (arith, common_steps)

pub rest_all : (done : ℕ) (bytes : List ℕ) → take done bytes ++ rest_of done bytes ≡ bytes
rest_all done bytes = ap (λ (t : List ℕ). take done bytes ++ t) (rest_is done bytes) ∙ take-append-drop done bytes

own_length : (k : ℕ) (y : List ℕ) → take k y ≡ take (length (take k y)) y
own_length zero y = refl
own_length (suc k) [] = refl
own_length (suc k) (b ∷ y) = ap (λ (z : List ℕ). b ∷ z) (own_length k y)

pub rest_more : (done n : ℕ) (bytes : List ℕ) → n ≡ length (first_line (rest_of done bytes)) → take done bytes ++ first_line (rest_of done bytes) ≡ take (done + n) bytes
rest_more done n bytes is =
    let y : List ℕ = rest_of done bytes in
    let first : first_line y ≡ take n y = own_length (position_or_len is_break y + 1) y ∙ ap (λ (k : ℕ). take k y) (sym is) in
    let front : take n y ≡ take n (drop done bytes) = ap (take n) (rest_is done bytes) in
    ap (λ (t : List ℕ). take done bytes ++ t) (first ∙ front) ∙ sym (take-add done n bytes)

take_within : (k : ℕ) (y : List ℕ) → length (take k y) ≤ length y
take_within k y = grind (arith, common_steps)

pub rest_within : (done n : ℕ) (bytes : List ℕ) → done ≤ length bytes → n ≡ length (first_line (rest_of done bytes)) → done + n ≤ length bytes
rest_within done n bytes within is =
    let y : List ℕ = rest_of done bytes in
    let a : length (first_line y) ≤ length y = take_within (position_or_len is_break y + 1) y in
    let b : length (rest_of done bytes) ≤ length bytes - done = grind (arith, common_steps) in
    omega (arith, a, b, is, within)
