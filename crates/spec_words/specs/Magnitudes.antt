-- The word of a number of a type, and numbers by their sign and their magnitude, as the code has them.
use Rattle.std.specs.Prelude.{ℕ, ◌-◌, ◌^◌, Bool, true, false, if◌then◌else◌, nat_lt, ℤ, pos, neg_ℤ, Option, Some, None}
use Rattle.stream_types.specs.declared.scalar.Scalar.{Scalar}
use Rattle.stream_types.specs.Scalars.{bits, signed}
use Rattle.stream_types.specs.Numbers.{in_range, word}
use Rattle.spec_words.specs.declared.magnitudes.Magnitude.{Magnitude}
use Rattle.spec_words.specs.declared.magnitudes.Magnitude.TheVariants.{Of, Beyond}

-- the word of a number of the type
abbrev pub word_in : Scalar → ℤ → Option ℕ
word_in s z = if in_range (bits s) (signed s) z then Some (word z) else None

-- No scalar has a number of 2 ^ 64 or more.
abbrev pub magnitude_of : ℕ → Magnitude
magnitude_of n = if nat_lt n 18446744073709551616 then Of n else Beyond

-- the greatest number of a type of n bits, and the magnitude of its least
abbrev pub greatest_of : ℕ → Bool → ℕ
greatest_of n true = 2 ^ (n - 1) - 1
greatest_of n false = 2 ^ n - 1

abbrev pub least_of : ℕ → Bool → ℕ
least_of n true = 2 ^ (n - 1)
least_of n false = 0

-- a number by its sign and its magnitude
abbrev pub signed_number : Bool → ℕ → ℤ
signed_number true n = neg_ℤ (pos n)
signed_number false n = pos n
