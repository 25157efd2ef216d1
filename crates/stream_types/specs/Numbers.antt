-- The number tables: operators over whole numbers at a type of N bits, with their hazards.
use Rattle.std.specs.Prelude.{ℕ, ◌-◌, ◌/◌, ◌^◌, Bool, true, false, ◌&&◌, ◌||◌, if◌then◌else◌, not, ℤ, pos, negsuc, ◌+ℤ◌, ◌-ℤ◌, ◌*ℤ◌, neg_ℤ, int_lt, int_le, int_div, int_rem, unsigned_abs, bit_and, bit_or, bit_xor, nat_lt, nat_eq, Result, Ok, Err}
use Rattle.std.specs.Ordering.{int_eq}
use Rattle.std.specs.Int.{w64, cast_signed, cast_unsigned, int_rem_euclid}
use Rattle.stream_types.specs.declared.scalar.Scalar.{Scalar}
use Rattle.stream_types.specs.declared.scalar.Scalar.TheVariants as scalar
use Rattle.stream_types.specs.declared.scalar.Hazard.{Hazard}
use Rattle.stream_types.specs.declared.scalar.Hazard.TheVariants.{Overflow, ZeroDivisor, BadShift}
use Rattle.stream_types.specs.declared.scalar.Op1.{Op1}
use Rattle.stream_types.specs.declared.scalar.Op1.TheVariants as op1
use Rattle.stream_types.specs.declared.scalar.Op2.{Op2}
use Rattle.stream_types.specs.declared.scalar.Op2.TheVariants as op2
use Rattle.stream_types.specs.declared.scalar.Dir.{Dir}
use Rattle.stream_types.specs.declared.scalar.Dir.TheVariants as dir
use Rattle.stream_types.specs.Scalars.{bits, signed}

-- ---- words and numbers

-- the number of a word, at a signed or an unsigned type
abbrev pub number_at : Bool → ℕ → ℤ
number_at true w = cast_signed w64 w
number_at false w = pos w

abbrev pub number : Scalar → ℕ → ℤ
number s w = number_at (signed s) w

-- the word of a number: modulo 2 ^ 64
abbrev pub word : ℤ → ℕ
word z = cast_unsigned w64 z

-- ---- ranges

abbrev pub least : ℕ → Bool → ℤ
least n true = neg_ℤ (pos (2 ^ (n - 1)))
least n false = pos 0

abbrev pub greatest : ℕ → Bool → ℤ
greatest n true = pos (2 ^ (n - 1) - 1)
greatest n false = pos (2 ^ n - 1)

-- from the least to the greatest
abbrev pub in_range : ℕ → Bool → ℤ → Bool
in_range n true (pos m) = nat_lt m (2 ^ (n - 1))
in_range n true (negsuc m) = nat_lt m (2 ^ (n - 1))
in_range n false (pos m) = nat_lt m (2 ^ n)
in_range n false (negsuc m) = false

-- a word that stands for a number of the type
abbrev pub is_word_at : ℕ → Bool → ℕ → Bool
is_word_at n sign w = nat_lt w (2 ^ 64) && in_range n sign (number_at sign w)

-- exact at a signed type, where the result is in range; modulo 2 ^ N at an unsigned one
abbrev pub fit : ℕ → Bool → ℤ → Result ℤ Hazard
fit n true z = if in_range n true z then Ok z else Err Overflow
fit n false z = Ok (int_rem_euclid z (pos (2 ^ n)))

-- ---- bits, as a number below 2 ^ N in two's complement

abbrev pub to_twos : ℕ → ℤ → ℕ
to_twos n z = unsigned_abs (int_rem_euclid z (pos (2 ^ n)))

abbrev pub from_twos : ℕ → Bool → ℕ → ℤ
from_twos n true b = if nat_lt b (2 ^ (n - 1)) then pos b else pos b -ℤ pos (2 ^ n)
from_twos n false b = pos b

-- ---- the tables

-- one for a fact, and else zero
abbrev pub of_test : Bool → ℤ
of_test true = pos 1
of_test false = pos 0

-- the other truth value, and the complement of the bits
abbrev pub op1_number : Op1 → ℕ → Bool → ℤ → ℤ
op1_number op1.Not n sign a = pos 1 -ℤ a
op1_number op1.BitNot n sign a = from_twos n sign (2 ^ n - 1 - to_twos n a)

abbrev pub is_zero : ℤ → Bool
is_zero z = nat_eq (unsigned_abs z) 0

-- towards zero; the least number by -1 is out of range
abbrev pub quotient : ℕ → Bool → ℤ → ℤ → Result ℤ Hazard
quotient n sign a b = if is_zero b then Err ZeroDivisor else if in_range n sign (int_div a b) then Ok (int_div a b) else Err Overflow

-- what the quotient leaves over, with the dividend's sign; Overflow where the quotient is out of range
abbrev pub remainder : ℕ → Bool → ℤ → ℤ → Result ℤ Hazard
remainder n sign a b = if is_zero b then Err ZeroDivisor else if in_range n sign (int_div a b) then Ok (int_rem a b) else Err Overflow

abbrev pub op2_number : Op2 → ℕ → Bool → ℤ → ℤ → Result ℤ Hazard
op2_number op2.Add n sign a b = fit n sign (a +ℤ b)
op2_number op2.Sub n sign a b = fit n sign (a -ℤ b)
op2_number op2.Mul n sign a b = fit n sign (a *ℤ b)
op2_number op2.Quot n sign a b = quotient n sign a b
op2_number op2.Rem n sign a b = remainder n sign a b
op2_number op2.BitAnd n sign a b = Ok (from_twos n sign (bit_and (to_twos n a) (to_twos n b)))
op2_number op2.BitOr n sign a b = Ok (from_twos n sign (bit_or (to_twos n a) (to_twos n b)))
op2_number op2.BitXor n sign a b = Ok (from_twos n sign (bit_xor (to_twos n a) (to_twos n b)))
op2_number op2.Eq n sign a b = Ok (of_test (int_eq a b))
op2_number op2.Ne n sign a b = Ok (of_test (not (int_eq a b)))
op2_number op2.Lt n sign a b = Ok (of_test (int_lt a b))
op2_number op2.Le n sign a b = Ok (of_test (int_le a b))
op2_number op2.Gt n sign a b = Ok (of_test (int_lt b a))
op2_number op2.Ge n sign a b = Ok (of_test (int_le b a))

-- a count out of range, or a negative operand
abbrev pub bad_shift : ℕ → ℤ → ℤ → Bool
bad_shift n a c = int_lt c (pos 0) || int_le (pos n) c || int_lt a (pos 0)

-- times a power of two, or divided by one and rounded down
abbrev pub shift_number : Dir → ℕ → Bool → ℤ → ℤ → Result ℤ Hazard
shift_number dir.Left n sign a c = if bad_shift n a c then Err BadShift else fit n sign (a *ℤ pos (2 ^ unsigned_abs c))
shift_number dir.Right n sign a c = if bad_shift n a c then Err BadShift else Ok (pos (unsigned_abs a / 2 ^ unsigned_abs c))

-- the size of a number, and -1, 0 or 1 by its sign
abbrev pub abs_number : ℕ → Bool → ℤ → Result ℤ Hazard
abs_number n sign a = fit n sign (pos (unsigned_abs a))

abbrev pub sign_number : ℤ → ℤ
sign_number z = if is_zero z then pos 0 else if int_lt z (pos 0) then negsuc 0 else pos 1

-- ---- the same on words

abbrev pub as_word : Result ℤ Hazard → Result ℕ Hazard
as_word (Ok z) = Ok (word z)
as_word (Err h) = Err h

abbrev pub op1_word : Op1 → Scalar → ℕ → ℕ
op1_word o s a = word (op1_number o (bits s) (signed s) (number s a))

abbrev pub op2_word : Op2 → Scalar → ℕ → ℕ → Result ℕ Hazard
op2_word o s a b = as_word (op2_number o (bits s) (signed s) (number s a) (number s b))

abbrev pub shift_word : Dir → Scalar → ℕ → Scalar → ℕ → Result ℕ Hazard
shift_word d s a cs c = as_word (shift_number d (bits s) (signed s) (number s a) (number cs c))

abbrev pub cast_word : Scalar → Scalar → ℕ → Result ℕ Hazard
cast_word from to a = as_word (fit (bits to) (signed to) (number from a))

abbrev pub abs_word : Scalar → ℕ → Result ℕ Hazard
abs_word s a = as_word (abs_number (bits s) (signed s) (number s a))

abbrev pub sign_word : Scalar → ℕ → ℕ
sign_word s a = word (sign_number (number s a))

-- a word of the type
abbrev pub is_word : Scalar → ℕ → Bool
is_word scalar.Bool w = nat_lt w 2
is_word s w = is_word_at (bits s) (signed s) w
