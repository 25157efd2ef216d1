-- What each operator answers is a word of its answer's scalar.
use Rattle.std.proofs.Common.{◌≡◌, ℕ, zero, suc, ◌-◌, ◌/◌, ◌^◌, ◌<◌, ◌≤◌, Bool, true, false, refl, arith, Result, Ok, Err}
use Rattle.std.specs.Prelude.{ℤ, pos, negsuc, IsTrue, IfOk, nat_lt, int_lt, unsigned_abs, if◌then◌else◌}
use Rattle.std.proofs.lemmas.Bool.Decides.{nat_tests}
use Rattle.std.proofs.lemmas.Nat.{pow_pos}
use Rattle.std.proofs.Math.Pow.{pow_mono}
use Rattle.stream_types.specs.declared.scalar.Scalar.{Scalar}
use Rattle.stream_types.specs.declared.scalar.Scalar.TheVariants as scalar
use Rattle.stream_types.specs.declared.scalar.Op1.{Op1}
use Rattle.stream_types.specs.declared.scalar.Op1.TheVariants as op1
use Rattle.stream_types.specs.declared.scalar.Dir.{Dir}
use Rattle.stream_types.specs.declared.scalar.Dir.TheVariants as dir
use Rattle.stream_types.specs.declared.scalar.Hazard.{Hazard}
use Rattle.stream_types.specs.declared.scalar.Hazard.TheVariants.{BadShift}
use Rattle.stream_types.specs.Scalars.{bits, signed, is_integer, op1_fits, shift_fits, cast_fits}
use Rattle.stream_types.specs.Numbers.{number, in_range, is_word, bad_shift, op1_word, shift_word, cast_word, abs_word, sign_number, sign_word}
use Rattle.stream_types.proofs.Ranges.{fit_in_range, as_word_is, number_in_range, from_bits}
use Rattle.sm_io.proofs.Truths.{left_passes}

-- ---- one operand

not_answer : (a : ℕ) → IsTrue (nat_lt a 2) → IsTrue (is_word scalar.Bool (op1_word op1.Not scalar.Bool a))
not_answer zero h = refl
not_answer (suc zero) h = refl
not_answer (suc (suc a)) h = let q : suc (suc a) < 2 = grind (arith, nat_tests, h) in absurd (omega arith)

below_power : (n b : ℕ) → 2 ^ n - 1 - b < 2 ^ n
below_power n b = let p : 0 < 2 ^ n = pow_pos n in omega arith

pub op1_answer : (o : Op1) (s : Scalar) (a : ℕ) → IsTrue (op1_fits o s) → IsTrue (is_word s a) → IsTrue (is_word s (op1_word o s a))
op1_answer op1.Not scalar.Bool a i p = not_answer a p
op1_answer op1.Not _ a i p = absurd (cc)
op1_answer op1.BitNot s a i p = from_bits s _ i (below_power (bits s) _)

-- ---- shifts

unless : (P : ℤ → Type 0) (c : Bool) (r : Result ℤ Hazard) → (c ≡ false → IfOk r P) → IfOk (if c then Err BadShift else r) P
unless P true r h = tt
unless P false r h = h refl

quotient-le : (m d : ℕ) → m / d ≤ m
quotient-le m d = omega arith

right_in_range : (n : ℕ) (sign : Bool) (a : ℤ) (d : ℕ) → IsTrue (in_range n sign a) → int_lt a (pos 0) ≡ false → IsTrue (in_range n sign (pos (unsigned_abs a / d)))
right_in_range n true (pos m) d h e = let p = quotient-le m d in grind (arith, nat_tests)
right_in_range n false (pos m) d h e = let p = quotient-le m d in grind (arith, nat_tests)
right_in_range n true (negsuc m) d h e = absurd (cc)
right_in_range n false (negsuc m) d h e = absurd (cc)

-- where a shift is no bad one, its operand is not negative
not_negative : (n : ℕ) (a c : ℤ) → bad_shift n a c ≡ false → int_lt a (pos 0) ≡ false
not_negative n a c e = grind (arith, nat_tests, e)

pub shift_answer : (d : Dir) (s : Scalar) (a : ℕ) (t : Scalar) (c : ℕ) → IsTrue (shift_fits s t) → IsTrue (is_word s a) → IfOk (shift_word d s a t c) (λ w. IsTrue (is_word s w))
shift_answer dir.Left s a t c i p =
    as_word_is s _ (left_passes (is_integer s) (is_integer t) i) (unless _ (bad_shift (bits s) (number s a) (number t c)) _ (λ e. fit_in_range (bits s) (signed s) _))
shift_answer dir.Right s a t c i p =
    let whole = left_passes (is_integer s) (is_integer t) i in
    as_word_is s _ whole (unless _ (bad_shift (bits s) (number s a) (number t c)) _
    (λ e. right_in_range (bits s) (signed s) (number s a) _ (number_in_range s a whole p) (not_negative (bits s) (number s a) (number t c) e)))

-- ---- conversions, sizes and signs

pub cast_answer : (from to : Scalar) (a : ℕ) → IsTrue (cast_fits from to) → IfOk (cast_word from to a) (λ w. IsTrue (is_word to w))
cast_answer from to a i = as_word_is to _ i (fit_in_range (bits to) (signed to) _)

pub abs_answer : (s : Scalar) (a : ℕ) → IsTrue (is_integer s) → IfOk (abs_word s a) (λ w. IsTrue (is_word s w))
abs_answer s a i = as_word_is s _ i (fit_in_range (bits s) (signed s) _)

zero_or_one : (n : ℕ) → 2 ≤ n → IsTrue (nat_lt 0 (2 ^ (n - 1))) × IsTrue (nat_lt 1 (2 ^ (n - 1))) × IsTrue (nat_lt 0 (2 ^ n)) × IsTrue (nat_lt 1 (2 ^ n))
zero_or_one n h =
    let a : 1 ≤ n - 1 = omega arith in
    let b : 1 ≤ n = omega arith in
    let p : 2 ^ 1 ≤ 2 ^ (n - 1) = pow_mono a in
    let q : 2 ^ 1 ≤ 2 ^ n = pow_mono b in
    (grind (arith, nat_tests, p), grind (arith, nat_tests, p), grind (arith, nat_tests, q), grind (arith, nat_tests, q))

-- -1, 0 and 1 are numbers of a signed type, and 0 and 1 of an unsigned one
signs_in_range : (n : ℕ) (sign zeroed below : Bool) → 2 ≤ n → (below ≡ true → sign ≡ true) → IsTrue (in_range n sign (if zeroed then pos 0 else if below then negsuc 0 else pos 1))
signs_in_range n true true below b h = (zero_or_one n b).0
signs_in_range n true false true b h = (zero_or_one n b).0
signs_in_range n true false false b h = (zero_or_one n b).1
signs_in_range n false true below b h = (zero_or_one n b).2
signs_in_range n false false true b h = absurd (let e = h refl in cc)
signs_in_range n false false false b h = (zero_or_one n b).3

below_zero : (n : ℕ) (sign : Bool) (z : ℤ) → IsTrue (in_range n sign z) → int_lt z (pos 0) ≡ true → sign ≡ true
below_zero n true z h e = refl
below_zero n false (pos m) h e = grind (arith, nat_tests, e)
below_zero n false (negsuc m) h e = absurd (cc)

bits_two : (s : Scalar) → 2 ≤ bits s
bits_two scalar.Bool = omega arith
bits_two scalar.Int8 = omega arith
bits_two scalar.Int16 = omega arith
bits_two scalar.Int32 = omega arith
bits_two scalar.Int64 = omega arith
bits_two scalar.Word8 = omega arith
bits_two scalar.Word16 = omega arith
bits_two scalar.Word32 = omega arith
bits_two scalar.Word64 = omega arith

pub sign_answer : (s : Scalar) (a : ℕ) → IsTrue (is_integer s) → IsTrue (is_word s a) → IsTrue (is_word s (sign_word s a))
sign_answer s a i p = as_word_is s (Ok (sign_number (number s a))) i (signs_in_range (bits s) (signed s) _ _ (bits_two s) (below_zero (bits s) (signed s) (number s a) (number_in_range s a i p)))
