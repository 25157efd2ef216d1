-- The greatest and the least word of some samples.
use Rattle.std.proofs.Common.{◌≡◌, ℕ, zero, suc, ◌<◌, Bool, true, false, List, [], ◌∷◌, length, refl, arith}
use Rattle.std.specs.Prelude.{ℤ, int_lt, int_le, if◌then◌else◌, slice_index_or, Contains, IsTrue}
use Rattle.std.specs.List.{AllByRecursion}
use Rattle.std.proofs.lemmas.Bool.Decides.{nat_tests}
use Rattle.stream_types.specs.declared.scalar.Scalar.{Scalar}
use Rattle.stream_types.specs.Numbers.{number}
use Rattle.stream_core.specs.Library.{greatest_word, least_word}

-- ---- one of the samples

behind_first : (x y : ℕ) (ws : List ℕ) (g : ℕ) → Contains (y ∷ ws) g → Contains (x ∷ y ∷ ws) g
behind_first x y ws g c = (suc c.0, omega (arith, c.1), c.2)

round_second : (x y : ℕ) (ws : List ℕ) (g k : ℕ) → k < length (x ∷ ws) → slice_index_or (x ∷ ws) k g ≡ g → Contains (x ∷ y ∷ ws) g
round_second x y ws g zero b e = (0, omega arith, e)
round_second x y ws g (suc k) b e = (suc (suc k), omega (arith, b), e)

kept_or_taken : (b : Bool) (x y : ℕ) (ws : List ℕ) (g : ℕ) → Contains ((if b then y else x) ∷ ws) g → Contains (x ∷ y ∷ ws) g
kept_or_taken true x y ws g c = behind_first x y ws g c
kept_or_taken false x y ws g c = round_second x y ws g c.0 c.1 c.2

pub greatest_is_sample : (s : Scalar) (best : ℕ) (ws : List ℕ) → Contains (best ∷ ws) (greatest_word s best ws)
greatest_is_sample s best [] = (0, omega arith, refl)
greatest_is_sample s best (w ∷ ws) =
    let b = int_lt (number s best) (number s w) in
    kept_or_taken b best w ws (greatest_word s (if b then w else best) ws) (greatest_is_sample s (if b then w else best) ws)

pub least_is_sample : (s : Scalar) (best : ℕ) (ws : List ℕ) → Contains (best ∷ ws) (least_word s best ws)
least_is_sample s best [] = (0, omega arith, refl)
least_is_sample s best (w ∷ ws) =
    let b = int_lt (number s w) (number s best) in
    kept_or_taken b best w ws (least_word s (if b then w else best) ws) (least_is_sample s (if b then w else best) ws)

-- ---- none beyond it

le_refl : (x : ℤ) → int_le x x ≡ true
le_refl x = grind (arith, nat_tests)

lt_le : (x y z : ℤ) → int_lt x y ≡ true → int_le y z ≡ true → int_le x z ≡ true
lt_le x y z a b = grind (arith, nat_tests, a, b)

not_lt_le : (x y z : ℤ) → int_lt x y ≡ false → int_le x z ≡ true → int_le y z ≡ true
not_lt_le x y z a b = grind (arith, nat_tests, a, b)

-- the sample at hand, and the next one, are no greater
both_below : (s : Scalar) (x y g : ℕ) (b : Bool) → int_lt (number s x) (number s y) ≡ b → int_le (number s (if b then y else x)) (number s g) ≡ true → (int_le (number s x) (number s g) ≡ true) × (int_le (number s y) (number s g) ≡ true)
both_below s x y g true e h = (lt_le (number s x) (number s y) (number s g) e h, h)
both_below s x y g false e h = (h, not_lt_le (number s x) (number s y) (number s g) e h)

pub none_greater : (s : Scalar) (best : ℕ) (ws : List ℕ) → AllByRecursion (λ w. IsTrue (int_le (number s w) (number s (greatest_word s best ws)))) (best ∷ ws)
none_greater s best [] = (le_refl (number s best), tt)
none_greater s best (w ∷ ws) =
    let b = int_lt (number s best) (number s w) in
    let rest = none_greater s (if b then w else best) ws in
    let both = both_below s best w (greatest_word s (if b then w else best) ws) b refl rest.0 in
    (both.0, (both.1, rest.1))

le_lt : (x y z : ℤ) → int_lt x y ≡ true → int_le z x ≡ true → int_le z y ≡ true
le_lt x y z a b = grind (arith, nat_tests, a, b)

le_not_lt : (x y z : ℤ) → int_lt x y ≡ false → int_le z y ≡ true → int_le z x ≡ true
le_not_lt x y z a b = grind (arith, nat_tests, a, b)

both_above : (s : Scalar) (x y g : ℕ) (b : Bool) → int_lt (number s y) (number s x) ≡ b → int_le (number s g) (number s (if b then y else x)) ≡ true → (int_le (number s g) (number s x) ≡ true) × (int_le (number s g) (number s y) ≡ true)
both_above s x y g true e h = (le_lt (number s y) (number s x) (number s g) e h, h)
both_above s x y g false e h = (h, le_not_lt (number s y) (number s x) (number s g) e h)

pub none_less : (s : Scalar) (best : ℕ) (ws : List ℕ) → AllByRecursion (λ w. IsTrue (int_le (number s (least_word s best ws)) (number s w))) (best ∷ ws)
none_less s best [] = (le_refl (number s best), tt)
none_less s best (w ∷ ws) =
    let b = int_lt (number s w) (number s best) in
    let rest = none_less s (if b then w else best) ws in
    let both = both_above s best w (least_word s (if b then w else best) ws) b refl rest.0 in
    (both.0, (both.1, rest.1))
