-- What an operator answers is a word of its answer's scalar.
use Rattle.std.proofs.Common.{◌≡◌, ℕ, suc, ◌+◌, ◌-◌, ◌%◌, ◌^◌, ◌<◌, ◌≤◌, Bool, true, false, refl, arith, Result, Ok, Err, ◌∙◌, ap}
use Rattle.std.specs.Prelude.{ℤ, pos, negsuc, IsTrue, IfOk, nat_lt, ◌-ℤ◌, int_div, int_rem, unsigned_abs, if◌then◌else◌}
use Rattle.std.specs.Int.Bits.{and_lt}
use Rattle.std.proofs.lemmas.Bool.Decides.{nat_tests}
use Rattle.std.proofs.lemmas.Int.{ints, rem_below}
use Rattle.std.proofs.Math.Pow.{pow_mono}
use Rattle.std.proofs.Math.Nat.{two-pow-succ}
use Rattle.std.proofs.lemmas.Nat.{or_lt, xor_lt, pow_pos}
use Rattle.stream_types.specs.declared.scalar.Scalar.{Scalar}
use Rattle.stream_types.specs.declared.scalar.Scalar.TheVariants as scalar
use Rattle.stream_types.specs.declared.scalar.Op2.{Op2}
use Rattle.stream_types.specs.declared.scalar.Op2.TheVariants as op2
use Rattle.stream_types.specs.declared.scalar.Hazard.{Hazard}
use Rattle.stream_types.specs.declared.scalar.Hazard.TheVariants.{Overflow, ZeroDivisor}
use Rattle.stream_types.specs.Scalars.{bits, signed, is_integer, op2_fits, op2_gives}
use Rattle.stream_types.specs.Numbers.{number, number_at, word, in_range, is_word_at, is_word, fit, as_word, to_twos, from_twos, quotient, remainder, is_zero, op2_number, op2_word, of_test}
use Rattle.stream_types.specs.IntTyLaws.{word_back}
use Rattle.sm_io.proofs.Truths.{both_pass, right_passes}

-- ---- results in range

pub below_word : (w : ℕ) → w < 2 ^ 64 → IsTrue (nat_lt w (2 ^ 64))
below_word w h = grind (arith, nat_tests)

pub word-lt : (n : ℕ) (sign : Bool) (z : ℤ) → n ≤ 64 → IsTrue (in_range n sign z) → word z < 2 ^ 64
word-lt n true (pos m) b h = let p : n - 1 ≤ 64 = omega arith in let q : m < 2 ^ (n - 1) = grind (arith, nat_tests, h) in omega (arith, q, pow_mono p)
word-lt n true (negsuc m) b h = omega arith
word-lt n false (pos m) b h = let q : m < 2 ^ n = grind (arith, nat_tests, h) in omega (arith, q, pow_mono b)
word-lt n false (negsuc m) b h = omega arith

-- the word of a number in range is a word of the type
pub is_word_at-word : (n : ℕ) (sign : Bool) (z : ℤ) → 1 ≤ n → n ≤ 64 → IsTrue (in_range n sign z) → IsTrue (is_word_at n sign (word z))
is_word_at-word n sign z a b h =
    let t : IsTrue (nat_lt (word z) (2 ^ 64)) = below_word (word z) (word-lt n sign z b h) in
    let r : IsTrue (in_range n sign (number_at sign (word z))) = rw (word_back n sign z a b h) h in
    both_pass _ _ t r

-- a number, where it passes a test
test : (P : ℤ → Type 0) (c : Bool) (z : ℤ) → (c ≡ true → P z) → IfOk (if c then Ok z else Err Overflow) P
test P true z h = h refl
test P false z h = tt

pub fit_in_range : (n : ℕ) (sign : Bool) (z : ℤ) → IfOk (fit n sign z) (λ y. IsTrue (in_range n sign y))
fit_in_range n true z = test _ (in_range n true z) z (λ h. h)
fit_in_range n false (pos m) = let p : 0 < 2 ^ n = pow_pos n in grind (arith, nat_tests)
fit_in_range n false (negsuc m) = let p : 0 < 2 ^ n = pow_pos n in grind (arith, nat_tests)

to_twos-lt : (n : ℕ) (z : ℤ) → to_twos n z < 2 ^ n
to_twos-lt n (pos m) = let p : 0 < 2 ^ n = pow_pos n in omega arith
to_twos-lt n (negsuc m) = let p : 0 < 2 ^ n = pow_pos n in omega arith

double : (n : ℕ) → 1 ≤ n → 2 ^ n ≡ 2 ^ (n - 1) + 2 ^ (n - 1)
double n a = let e : n ≡ suc (n - 1) = omega arith in ap (λ k. 2 ^ k) e ∙ two-pow-succ (n - 1)

twos_in_range : (n b : ℕ) (c : Bool) → c ≡ nat_lt b (2 ^ (n - 1)) → 1 ≤ n → b < 2 ^ n → IsTrue (in_range n true (if c then pos b else pos b -ℤ pos (2 ^ n)))
twos_in_range n b true e a h = grind (arith, nat_tests)
twos_in_range n b false e a h =
    let d = double n a in
    let q : 2 ^ (n - 1) ≤ b = grind (arith, nat_tests, e) in
    let z : pos b -ℤ pos (2 ^ n) ≡ negsuc (2 ^ n - b - 1) = omega (arith, ints) in
    let t : IsTrue (nat_lt (2 ^ n - b - 1) (2 ^ (n - 1))) = grind (arith, nat_tests) in
    rw z t

from_twos_in_range : (n : ℕ) (sign : Bool) (b : ℕ) → 1 ≤ n → b < 2 ^ n → IsTrue (in_range n sign (from_twos n sign b))
from_twos_in_range n true b a h = twos_in_range n b (nat_lt b (2 ^ (n - 1))) refl a h
from_twos_in_range n false b a h = grind (arith, nat_tests)

-- a choice of an error or a number
choice : (P : ℤ → Type 0) (c d : Bool) (z : ℤ) → (c ≡ false → d ≡ true → P z) → IfOk (if c then Err ZeroDivisor else if d then Ok z else Err Overflow) P
choice P true d z h = tt
choice P false true z h = h refl refl
choice P false false z h = tt

quotient_in_range : (n : ℕ) (sign : Bool) (a b : ℤ) → IfOk (quotient n sign a b) (λ z. IsTrue (in_range n sign z))
quotient_in_range n sign a b = choice _ (is_zero b) (in_range n sign (int_div a b)) (int_div a b) (λ _ h. h)

in_range_small : (n : ℕ) (z : ℤ) → unsigned_abs z < 2 ^ (n - 1) → IsTrue (in_range n true z)
in_range_small n (pos m) h = grind (arith, nat_tests)
in_range_small n (negsuc m) h = grind (arith, nat_tests)

unsigned_abs-le : (n : ℕ) (z : ℤ) → IsTrue (in_range n true z) → unsigned_abs z ≤ 2 ^ (n - 1)
unsigned_abs-le n (pos m) h = grind (arith, nat_tests)
unsigned_abs-le n (negsuc m) h = grind (arith, nat_tests)

not_zero : (z : ℤ) → is_zero z ≡ false → 0 < unsigned_abs z
not_zero z h = grind (arith, nat_tests)

int_rem_in_range : (n : ℕ) (sign : Bool) (a b : ℤ) → IsTrue (in_range n sign a) → IsTrue (in_range n sign b) → 0 < unsigned_abs b → IsTrue (in_range n sign (int_rem a b))
int_rem_in_range n true a b p q h = in_range_small n (int_rem a b) (omega (arith, rem_below a b h, unsigned_abs-le n b q))
int_rem_in_range n false (pos m) (pos k) p q h =
    let e : m % k < k = omega arith in
    grind (arith, nat_tests)
int_rem_in_range n false (negsuc m) b p q h = absurd (cc)
int_rem_in_range n false (pos m) (negsuc k) p q h = absurd (cc)

remainder_in_range : (n : ℕ) (sign : Bool) (a b : ℤ) → IsTrue (in_range n sign a) → IsTrue (in_range n sign b) → IfOk (remainder n sign a b) (λ z. IsTrue (in_range n sign z))
remainder_in_range n sign a b p q = choice _ (is_zero b) (in_range n sign (int_div a b)) (int_rem a b) (λ c _. int_rem_in_range n sign a b p q (not_zero b c))

-- ---- at the scalars

-- a result in range gives a word of an integer
pub as_word_is : (s : Scalar) (r : Result ℤ Hazard) → IsTrue (is_integer s) → IfOk r (λ z. IsTrue (in_range (bits s) (signed s) z)) → IfOk (as_word r) (λ w. IsTrue (is_word s w))
as_word_is scalar.Bool r i h = absurd (cc)
as_word_is s (Err e) i h = tt
as_word_is scalar.Int8 (Ok z) i h = is_word_at-word 8 true z (omega arith) (omega arith) h
as_word_is scalar.Int16 (Ok z) i h = is_word_at-word 16 true z (omega arith) (omega arith) h
as_word_is scalar.Int32 (Ok z) i h = is_word_at-word 32 true z (omega arith) (omega arith) h
as_word_is scalar.Int64 (Ok z) i h = is_word_at-word 64 true z (omega arith) (omega arith) h
as_word_is scalar.Word8 (Ok z) i h = is_word_at-word 8 false z (omega arith) (omega arith) h
as_word_is scalar.Word16 (Ok z) i h = is_word_at-word 16 false z (omega arith) (omega arith) h
as_word_is scalar.Word32 (Ok z) i h = is_word_at-word 32 false z (omega arith) (omega arith) h
as_word_is scalar.Word64 (Ok z) i h = is_word_at-word 64 false z (omega arith) (omega arith) h

pub number_in_range : (s : Scalar) (a : ℕ) → IsTrue (is_integer s) → IsTrue (is_word s a) → IsTrue (in_range (bits s) (signed s) (number s a))
number_in_range scalar.Bool a i h = absurd (cc)
number_in_range scalar.Int8 a i h = right_passes _ _ h
number_in_range scalar.Int16 a i h = right_passes _ _ h
number_in_range scalar.Int32 a i h = right_passes _ _ h
number_in_range scalar.Int64 a i h = right_passes _ _ h
number_in_range scalar.Word8 a i h = right_passes _ _ h
number_in_range scalar.Word16 a i h = right_passes _ _ h
number_in_range scalar.Word32 a i h = right_passes _ _ h
number_in_range scalar.Word64 a i h = right_passes _ _ h

pub bits_some : (s : Scalar) → 1 ≤ bits s
bits_some scalar.Bool = omega arith
bits_some scalar.Int8 = omega arith
bits_some scalar.Int16 = omega arith
bits_some scalar.Int32 = omega arith
bits_some scalar.Int64 = omega arith
bits_some scalar.Word8 = omega arith
bits_some scalar.Word16 = omega arith
bits_some scalar.Word32 = omega arith
bits_some scalar.Word64 = omega arith

of_test_is_word : (b : Bool) → IsTrue (is_word scalar.Bool (word (of_test b)))
of_test_is_word true = refl
of_test_is_word false = refl

pub from_bits : (s : Scalar) (b : ℕ) → IsTrue (is_integer s) → b < 2 ^ bits s → IsTrue (is_word s (word (from_twos (bits s) (signed s) b)))
from_bits s b i h = as_word_is s (Ok (from_twos (bits s) (signed s) b)) i (from_twos_in_range (bits s) (signed s) b (bits_some s) h)

pub op2_answer : (o : Op2) (s : Scalar) (a b : ℕ) → IsTrue (op2_fits o s) → IsTrue (is_word s a) → IsTrue (is_word s b) → IfOk (op2_word o s a b) (λ w. IsTrue (is_word (op2_gives o s) w))
op2_answer op2.Add s a b i p q = as_word_is s _ i (fit_in_range (bits s) (signed s) _)
op2_answer op2.Sub s a b i p q = as_word_is s _ i (fit_in_range (bits s) (signed s) _)
op2_answer op2.Mul s a b i p q = as_word_is s _ i (fit_in_range (bits s) (signed s) _)
op2_answer op2.Quot s a b i p q = as_word_is s _ i (quotient_in_range (bits s) (signed s) (number s a) (number s b))
op2_answer op2.Rem s a b i p q = as_word_is s _ i (remainder_in_range (bits s) (signed s) _ _ (number_in_range s a i p) (number_in_range s b i q))
op2_answer op2.BitAnd s a b i p q = from_bits s _ i (and_lt _ _ _ (to_twos-lt (bits s) (number s a)) (to_twos-lt (bits s) (number s b)))
op2_answer op2.BitOr s a b i p q = from_bits s _ i (or_lt _ _ _ (to_twos-lt (bits s) (number s a)) (to_twos-lt (bits s) (number s b)))
op2_answer op2.BitXor s a b i p q = from_bits s _ i (xor_lt _ _ _ (to_twos-lt (bits s) (number s a)) (to_twos-lt (bits s) (number s b)))
op2_answer op2.Eq s a b i p q = of_test_is_word _
op2_answer op2.Ne s a b i p q = of_test_is_word _
op2_answer op2.Lt s a b i p q = of_test_is_word _
op2_answer op2.Le s a b i p q = of_test_is_word _
op2_answer op2.Gt s a b i p q = of_test_is_word _
op2_answer op2.Ge s a b i p q = of_test_is_word _

-- the same, where the scalar and the result are known by equations
pub op2_answered : (o : Op2) (s t : Scalar) (a b : ℕ) (r : Result ℕ Hazard) → s ≡ t → r ≡ as_word (op2_number o (bits t) (signed t) (number t a) (number t b)) → IsTrue (op2_fits o s) → IsTrue (is_word s a) → IsTrue (is_word s b) → IfOk r (λ w. IsTrue (is_word (op2_gives o s) w))
op2_answered o s t a b r e f i p q =
    let x : IfOk (op2_word o s a b) (λ w. IsTrue (is_word (op2_gives o s) w)) = op2_answer o s a b i p q in
    rw (f, ← e) x
