-- Every operator on numbers gives numbers in the range of their type.
use Rattle.std.proofs.Common.{◌≡◌, ℕ, zero, suc, ◌+◌, ◌-◌, ◌/◌, ◌%◌, ◌^◌, ◌<◌, ◌≤◌, ◌≢◌, Bool, true, false, not, ◌&&◌, ◌||◌, List, [], ◌∷◌, Some, refl, ap, ◌∙◌, arith}
use Rattle.std.specs.Prelude.{ℤ, pos, negsuc, IsTrue, nat_lt, nat_le, ◌-ℤ◌, neg_ℤ, int_le, int_lt, int_div, int_rem, unsigned_abs, if◌then◌else◌, slice_get}
use Rattle.std.specs.List.{list_all}
use Rattle.std.specs.Ordering.{int_eq}
use Rattle.std.specs.Int.{int_rem_euclid}
use Rattle.std.proofs.lemmas.Bool.Decides.{nat_tests}
use Rattle.std.proofs.lemmas.Int.{ints, rem_below}
use Rattle.std.proofs.Math.Pow.{pow_mono}
use Rattle.std.proofs.Math.Nat.{two-pow-succ, div-le_self, mul-div-le}
use Rattle.std.proofs.lemmas.Nat.{pow_pos}
use Rattle.c99_tree.specs.declared.types.CScalar.{CScalar}
use Rattle.c99_tree.specs.declared.types.CScalar.TheVariants as t
use Rattle.c99_tree.specs.CTypes.{bits, is_signed, promoted, usual}
use Rattle.c99_tree.specs.Words.{scalars}
use Rattle.c99_tree.specs.Typed.{in_range}
use Rattle.sm_io.proofs.Truths.{left_passes, right_passes, both_pass}

-- ---- what holds of each scalar type

passed_at : {X : Type 0} (p : X → Bool) (xs : List X) (k : ℕ) (x : X) → list_all p xs ≡ true → slice_get xs k ≡ Some x → p x ≡ true
passed_at p [] k x h e = absurd (cc e)
passed_at p (y ∷ ys) zero x h e = let same : y ≡ x = cc e in rw (← same) (left_passes (p y) (list_all p ys) h)
passed_at p (y ∷ ys) (suc k) x h e = passed_at p ys k x (right_passes (p y) (list_all p ys) h) e

-- a test that each scalar type passes
pub each_scalar : (p : CScalar → Bool) → list_all p scalars ≡ true → (s : CScalar) → p s ≡ true
each_scalar p h t.Bool = passed_at p scalars 0 t.Bool h refl
each_scalar p h t.I8 = passed_at p scalars 1 t.I8 h refl
each_scalar p h t.I16 = passed_at p scalars 2 t.I16 h refl
each_scalar p h t.I32 = passed_at p scalars 3 t.I32 h refl
each_scalar p h t.I64 = passed_at p scalars 4 t.I64 h refl
each_scalar p h t.U8 = passed_at p scalars 5 t.U8 h refl
each_scalar p h t.U16 = passed_at p scalars 6 t.U16 h refl
each_scalar p h t.U32 = passed_at p scalars 7 t.U32 h refl
each_scalar p h t.U64 = passed_at p scalars 8 t.U64 h refl

pub each_pair : (p : CScalar → CScalar → Bool) → list_all (λ a. list_all (p a) scalars) scalars ≡ true → (a b : CScalar) → p a b ≡ true
each_pair p h a b = each_scalar (p a) (each_scalar (λ c. list_all (p c) scalars) h a) b

-- ---- ranges by width and sign

abbrev pub within_half : ℕ → ℤ → Bool
within_half k (pos m) = nat_lt m k
within_half k (negsuc m) = nat_lt m k

abbrev pub within : ℕ → Bool → ℤ → Bool
within n true z = within_half (2 ^ (n - 1)) z
within n false (pos m) = nat_lt m (2 ^ n)
within n false (negsuc m) = false

holds-within : (k : ℕ) (z : ℤ) → 0 < k → (int_le (pos 0 -ℤ pos k) z && int_lt z (pos k)) ≡ true → (b : Bool) → b ≡ within_half k z → b ≡ true
holds-within k (pos m) p h b e = grind (arith, nat_tests, ints)
holds-within k (negsuc m) p h b e = grind (arith, nat_tests, ints)

within-holds : (k : ℕ) (z : ℤ) → 0 < k → within_half k z ≡ true → (int_le (pos 0 -ℤ pos k) z && int_lt z (pos k)) ≡ true
within-holds k (pos m) p h = grind (arith, nat_tests, ints)
within-holds k (negsuc m) p h = grind (arith, nat_tests, ints)

natural-within : (n : ℕ) (z : ℤ) → (int_le (pos 0) z && int_lt z (pos (2 ^ n))) ≡ true → within n false z ≡ true
natural-within n (pos m) h = right_passes (nat_le 0 m) (nat_lt m (2 ^ n)) h
natural-within n (negsuc m) h = h

within-natural : (n : ℕ) (z : ℤ) → within n false z ≡ true → (int_le (pos 0) z && int_lt z (pos (2 ^ n))) ≡ true
within-natural n (pos m) h = both_pass (nat_le 0 m) (nat_lt m (2 ^ n)) (grind (arith, nat_tests)) h
within-natural n (negsuc m) h = h

range-at : (n : ℕ) (sign : Bool) (z : ℤ) → (if sign then (int_le (pos 0 -ℤ pos (2 ^ (n - 1))) z && int_lt z (pos (2 ^ (n - 1)))) else int_le (pos 0) z && int_lt z (pos (2 ^ n))) ≡ true → within n sign z ≡ true
range-at n true z h = holds-within (2 ^ (n - 1)) z (pow_pos (n - 1)) h (within_half (2 ^ (n - 1)) z) refl
range-at n false z h = natural-within n z h

at-range : (n : ℕ) (sign : Bool) (z : ℤ) → within n sign z ≡ true → (if sign then (int_le (pos 0 -ℤ pos (2 ^ (n - 1))) z && int_lt z (pos (2 ^ (n - 1)))) else int_le (pos 0) z && int_lt z (pos (2 ^ n))) ≡ true
at-range n true z h = within-holds (2 ^ (n - 1)) z (pow_pos (n - 1)) h
at-range n false z h = within-natural n z h

pub range_within : (s : CScalar) (z : ℤ) → IsTrue (in_range s z) → within (bits s) (is_signed s) z ≡ true
range_within s z h = range-at (bits s) (is_signed s) z h

pub within_range : (s : CScalar) (z : ℤ) → within (bits s) (is_signed s) z ≡ true → IsTrue (in_range s z)
within_range s z h = at-range (bits s) (is_signed s) z h

-- ---- a range inside of another

abbrev pub inside : CScalar → CScalar → Bool
inside a b =
    if is_signed a then is_signed b && nat_le (bits a) (bits b)
    else (if is_signed b then nat_lt (bits a) (bits b) else nat_le (bits a) (bits b))

abbrev inside_at : ℕ → Bool → ℕ → Bool → Bool
inside_at n true m s = s && nat_le n m
inside_at n false m true = nat_lt n m
inside_at n false m false = nat_le n m

wider : (n m : ℕ) (s r : Bool) (z : ℤ) → inside_at n s m r ≡ true → within n s z ≡ true → within m r z ≡ true
wider n m true true (pos k) e h =
    let d : n ≤ m = grind (arith, nat_tests, e) in
    let l : n - 1 ≤ m - 1 = omega (arith, d) in
    let q : k < 2 ^ (n - 1) = grind (arith, nat_tests, h) in
    let p : k < 2 ^ (m - 1) = omega (arith, q, pow_mono l) in
    grind (arith, nat_tests, p)
wider n m true true (negsuc k) e h =
    let d : n ≤ m = grind (arith, nat_tests, e) in
    let l : n - 1 ≤ m - 1 = omega (arith, d) in
    let q : k < 2 ^ (n - 1) = grind (arith, nat_tests, h) in
    let p : k < 2 ^ (m - 1) = omega (arith, q, pow_mono l) in
    grind (arith, nat_tests, p)
wider n m true false z e h = absurd (cc e)
wider n m false true (pos k) e h =
    let d : n < m = grind (arith, nat_tests, e) in
    let l : n ≤ m - 1 = omega (arith, d) in
    let q : k < 2 ^ n = grind (arith, nat_tests, h) in
    let p : k < 2 ^ (m - 1) = omega (arith, q, pow_mono l) in
    grind (arith, nat_tests, p)
wider n m false true (negsuc k) e h = absurd (cc h)
wider n m false false (pos k) e h =
    let d : n ≤ m = grind (arith, nat_tests, e) in
    let q : k < 2 ^ n = grind (arith, nat_tests, h) in
    let p : k < 2 ^ m = omega (arith, q, pow_mono d) in
    grind (arith, nat_tests, p)
wider n m false false (negsuc k) e h = h

inside-at : (n : ℕ) (s : Bool) (m : ℕ) (r : Bool) → (if s then r && nat_le n m else (if r then nat_lt n m else nat_le n m)) ≡ true → inside_at n s m r ≡ true
inside-at n true m r h = h
inside-at n false m true h = h
inside-at n false m false h = h

-- a number in the range of the inner type is in that of the outer one
pub inside_within : (a b : CScalar) (z : ℤ) → inside a b ≡ true → within (bits a) (is_signed a) z ≡ true → within (bits b) (is_signed b) z ≡ true
inside_within a b z e h = wider (bits a) (bits b) (is_signed a) (is_signed b) z (inside-at (bits a) (is_signed a) (bits b) (is_signed b) e) h

-- promotion loses no number
pub inside_promoted : (a : CScalar) → inside a (promoted a) ≡ true
inside_promoted = each_scalar (λ a. inside a (promoted a)) refl

-- the common type loses no number of an operand, where it is signed
pub inside_usual : (a b : CScalar) → (not (is_signed (usual a b)) || (inside a (usual a b) && inside b (usual a b))) ≡ true
inside_usual = each_pair (λ a b. not (is_signed (usual a b)) || (inside a (usual a b) && inside b (usual a b))) refl

pub some_bits : (s : CScalar) → 1 ≤ bits s
some_bits s = let h = each_scalar (λ a. nat_le 1 (bits a)) refl s in grind (arith, nat_tests, h)

-- ---- operators

-- the number modulo 2^N is one of N bits
pub wrapped_within : (n : ℕ) (z : ℤ) → within n false (int_rem_euclid z (pos (2 ^ n))) ≡ true
wrapped_within n (pos m) = let p : 0 < 2 ^ n = pow_pos n in grind (arith, nat_tests)
wrapped_within n (negsuc m) = let p : 0 < 2 ^ n = pow_pos n in grind (arith, nat_tests)

pub bits-lt : (n : ℕ) (z : ℤ) → unsigned_abs (int_rem_euclid z (pos (2 ^ n))) < 2 ^ n
bits-lt n (pos m) = let p : 0 < 2 ^ n = pow_pos n in omega arith
bits-lt n (negsuc m) = let p : 0 < 2 ^ n = pow_pos n in omega arith

double : (n : ℕ) → 1 ≤ n → 2 ^ n ≡ 2 ^ (n - 1) + 2 ^ (n - 1)
double n a = let e : n ≡ suc (n - 1) = omega arith in ap (λ k. 2 ^ k) e ∙ two-pow-succ (n - 1)

signed_bits-within : (n w : ℕ) (c : Bool) → c ≡ nat_le (2 ^ (n - 1)) w → 1 ≤ n → w < 2 ^ n → within n true (if c then pos w -ℤ pos (2 ^ n) else pos w) ≡ true
signed_bits-within n w false e a h = grind (arith, nat_tests)
signed_bits-within n w true e a h =
    let d = double n a in
    let q : 2 ^ (n - 1) ≤ w = grind (arith, nat_tests, e) in
    let z : pos w -ℤ pos (2 ^ n) ≡ negsuc (2 ^ n - w - 1) = omega (arith, ints) in
    let t : nat_lt (2 ^ n - w - 1) (2 ^ (n - 1)) ≡ true = grind (arith, nat_tests) in
    rw z t

-- the number that N bits stand for
pub of_bits-within : (n : ℕ) (sign : Bool) (w : ℕ) → 1 ≤ n → w < 2 ^ n → within n sign (if sign && nat_le (2 ^ (n - 1)) w then pos w -ℤ pos (2 ^ n) else pos w) ≡ true
of_bits-within n true w a h = signed_bits-within n w (nat_le (2 ^ (n - 1)) w) refl a h
of_bits-within n false w a h = grind (arith, nat_tests)

abs_within : (n : ℕ) (z : ℤ) → unsigned_abs z < 2 ^ (n - 1) → within n true z ≡ true
abs_within n (pos m) h = grind (arith, nat_tests)
abs_within n (negsuc m) h = grind (arith, nat_tests)

within_abs : (n : ℕ) (z : ℤ) → within n true z ≡ true → unsigned_abs z ≤ 2 ^ (n - 1)
within_abs n (pos m) h = grind (arith, nat_tests)
within_abs n (negsuc m) h = grind (arith, nat_tests)

not_zero : (z : ℤ) → int_eq z (pos 0) ≡ false → 0 < unsigned_abs z
not_zero (pos m) h = grind (arith, nat_tests)
not_zero (negsuc m) h = omega arith

pub rem_within : (n : ℕ) (sign : Bool) (a b : ℤ) → within n sign a ≡ true → within n sign b ≡ true → int_eq b (pos 0) ≡ false → within n sign (int_rem a b) ≡ true
rem_within n true a b p q h = abs_within n (int_rem a b) (omega (arith, rem_below a b (not_zero b h), within_abs n b q))
rem_within n false (pos m) (pos k) p q h =
    let z = not_zero (pos k) h in
    let e : m % k < k = omega (arith, z) in
    grind (arith, nat_tests)
rem_within n false (negsuc m) b p q h = absurd (cc p)
rem_within n false (pos m) (negsuc k) p q h = absurd (cc q)

-- ---- quotients

neg-within : (n q : ℕ) → q ≤ 2 ^ (n - 1) → within n true (neg_ℤ (pos q)) ≡ true
neg-within n zero h = let p : 0 < 2 ^ (n - 1) = pow_pos (n - 1) in grind (arith, nat_tests)
neg-within n (suc q) h = grind (arith, nat_tests)

not_least : (a k : ℕ) → int_eq (negsuc a) (negsuc k) ≡ false → a ≢ k
not_least a k h e = grind (arith, nat_tests)

-- the dividend isn't the least number, or the divisor isn't -1
div-signed : (n : ℕ) (a b : ℤ) → within n true a ≡ true → (int_eq b (negsuc 0) && int_eq a (negsuc (2 ^ (n - 1) - 1))) ≡ false → within n true (int_div a b) ≡ true
div-signed n (pos a) (pos b) p h = let q = div-le_self a b in grind (arith, nat_tests)
div-signed n (pos a) (negsuc b) p h =
    let q = div-le_self a (suc b) in
    let l : a < 2 ^ (n - 1) = grind (arith, nat_tests, p) in
    neg-within n (a / suc b) (omega (arith, q, l))
div-signed n (negsuc a) (pos b) p h =
    let q = div-le_self (suc a) b in
    let l : a < 2 ^ (n - 1) = grind (arith, nat_tests, p) in
    neg-within n (suc a / b) (omega (arith, q, l))
div-signed n (negsuc a) (negsuc zero) p h =
    let l : a < 2 ^ (n - 1) = grind (arith, nat_tests, p) in
    let d = not_least a (2 ^ (n - 1) - 1) h in
    let r : suc a / 1 < 2 ^ (n - 1) = omega (arith, l, d) in
    grind (arith, nat_tests, r)
div-signed n (negsuc a) (negsuc (suc b)) p h =
    let l : a < 2 ^ (n - 1) = grind (arith, nat_tests, p) in
    let q = mul-div-le (suc a) (suc (suc b)) in
    let r : suc a / suc (suc b) < 2 ^ (n - 1) = omega (arith, l, q) in
    grind (arith, nat_tests, r)

pub div_within : (n : ℕ) (sign : Bool) (a b : ℤ) → within n sign a ≡ true → within n sign b ≡ true
    → (sign && int_eq b (negsuc 0) && int_eq a (negsuc (2 ^ (n - 1) - 1))) ≡ false → within n sign (int_div a b) ≡ true
div_within n true a b p q h = div-signed n a b p h
div_within n false (pos a) (pos b) p q h = let l = div-le_self a b in grind (arith, nat_tests)
div_within n false (negsuc a) b p q h = absurd (cc p)
div_within n false (pos a) (negsuc b) p q h = absurd (cc q)

-- ---- shifts to the right

-- a number that isn't negative, divided
pub shift_within : (n : ℕ) (sign : Bool) (a : ℤ) (k : ℕ) → within n sign a ≡ true → (sign && int_lt a (pos 0)) ≡ false → within n sign (pos (unsigned_abs a / k)) ≡ true
shift_within n true (pos a) k p h = let l = div-le_self a k in grind (arith, nat_tests)
shift_within n true (negsuc a) k p h = absurd (cc h)
shift_within n false (pos a) k p h = let l = div-le_self a k in grind (arith, nat_tests)
shift_within n false (negsuc a) k p h = absurd (cc p)
