-- Literals: how a word of a scalar is written, and what a text writes.
use Rattle.std.specs.Prelude.{ℕ, ◌+◌, Bool, true, false, ◌==◌, ◌&&◌, ◌||◌, if◌then◌else◌, nat_lt, ℤ, pos, neg_ℤ, List, [], ◌∷◌, ◌++◌, take, drop, codes, decimal, position, slice_get, Option, Some, None}
use Rattle.std.specs.Fmt.{signed_decimal}
use Rattle.std.specs.List.{list_any}
use Rattle.std.specs.Option.{option_map, option_map_or, option_and_then}
use Rattle.stream_types.specs.declared.scalar.Scalar.{Scalar}
use Rattle.stream_types.specs.declared.scalar.Scalar.TheVariants as scalar
use Rattle.stream_types.specs.Scalars.{signed}
use Rattle.stream_types.specs.Numbers.{number_at}
use Rattle.spec_words.specs.Words.{scalar_word, scalar_of, truth_text, truth_of}
use Rattle.spec_words.specs.Decimals.{is_digit, is_decimal, value_of}
use Rattle.spec_words.specs.Magnitudes.{word_in}

abbrev pub number_text : Bool → ℕ → List ℕ
number_text true w = signed_decimal (number_at true w)
number_text false w = decimal w

-- how the word of a scalar is written as a literal
unfoldable pub literal_text : Scalar → ℕ → List ℕ
literal_text scalar.Bool w = truth_text w
literal_text s w = number_text (signed s) w ++ codes ":" ++ scalar_word s

-- the size of a negative number: a decimal that isn't zero
abbrev pub negative_of : List ℕ → Option ℤ
negative_of text = if is_decimal text && nat_lt 0 (value_of text) then Some (neg_ℤ (pos (value_of text))) else None

abbrev pub positive_of : List ℕ → Option ℤ
positive_of text = if is_decimal text then Some (pos (value_of text)) else None

-- the number that a text writes: a decimal, with `-` before it where the number is negative
abbrev pub integer_of : List ℕ → Option ℤ
integer_of [] = None
integer_of (b ∷ text) = if b == 45 then negative_of text else positive_of (b ∷ text)

-- the literal of a number and an integer scalar
abbrev pub typed : List ℕ → Scalar → Option (Scalar × ℕ)
typed text scalar.Bool = None
typed text s = option_map (λ w. (s, w)) (option_and_then (word_in s) (integer_of text))

-- what stands before the first colon is the number, what stands behind it the scalar
abbrev pub typed_at : List ℕ → ℕ → Option (Scalar × ℕ)
typed_at text k = option_and_then (typed (take k text)) (scalar_of (drop (k + 1) text))

abbrev pub is_colon : ℕ → Bool
is_colon b = b == 58

abbrev pub number_of : List ℕ → Option (Scalar × ℕ)
number_of text = option_and_then (typed_at text) (position is_colon text)

-- the scalar and the word that a text writes as a literal
unfoldable pub literal_of : List ℕ → Option (Scalar × ℕ)
literal_of text = option_map_or (λ w. Some (scalar.Bool, w)) (truth_of text) (number_of text)

-- an atom that must be a literal where an expression stands: it begins with a digit or `-`, or holds `:`
unfoldable pub is_numeric : List ℕ → Bool
is_numeric text = option_map_or (λ b. is_digit b || b == 45) (slice_get text 0) false || list_any is_colon text
