-- Operators on words of scalar types, by the numbers that they stand for.
use Rattle.std.specs.Prelude.{ℕ, Bool, true, false, not, nat_eq, nat_lt, if◌then◌else◌, Result, Ok, Err, ℤ, pos, negsuc, unsigned_abs, ◌^◌, ◌&&◌, ◌||◌, int_lt, int_le}
use Rattle.std.specs.Int.{int_rem_euclid}
use Rattle.std.specs.Option.{option_map_or}
use Rattle.c99_tree.specs.declared.expr.CUn.{CUn}
use Rattle.c99_tree.specs.declared.expr.CBin.{CBin}
use Rattle.c99_tree.specs.declared.types.CScalar.{CScalar}
use Rattle.c99_tree.specs.declared.undefined.Undefined.{Undefined}
use Rattle.c99_tree.specs.declared.undefined.Undefined.TheVariants as why
use Rattle.c99_tree.specs.CTypes.{Num, converted, bits, is_signed}
use Rattle.c99_tree.specs.Values.{number_of_word, word_of_number}
use Rattle.c99_tree.specs.Evaluation.{unary, binary, decided_at}

-- the word of a number: the number modulo 2^64
abbrev pub word : ℤ → ℕ
word z = unsigned_abs (int_rem_euclid z (pos (2 ^ 64)))

-- the word of a result
abbrev pub as_word : Result Num Undefined → Result ℕ Undefined
as_word (Ok x) = Ok (word_of_number x)
as_word (Err e) = Err e

abbrev pub unary_word : CUn → CScalar → ℕ → Result ℕ Undefined
unary_word op t w = as_word (unary op (number_of_word t w))

abbrev pub binary_word : CBin → CScalar → CScalar → ℕ → ℕ → Result ℕ Undefined
binary_word op s t v w = as_word (binary op (number_of_word s v) (number_of_word t w))

abbrev pub converted_word : CScalar → CScalar → ℕ → Result ℕ Undefined
converted_word from to w = as_word (converted to (number_of_word from w))

-- the word of a truth value
abbrev pub truth_word : Bool → ℕ
truth_word true = 1
truth_word false = 0

-- whether a word has the truth at which the right operand isn't evaluated
abbrev pub decides_word : Bool → ℕ → Bool
decides_word true w = not (nat_eq w 0)
decides_word false w = nat_eq w 0

abbrev pub is_decided : CBin → ℕ → Bool
is_decided op w = option_map_or (λ b. decides_word b w) (decided_at op) false

-- the word that such an operator then gives
abbrev pub decision : CBin → ℕ
decision op = option_map_or truth_word (decided_at op) 0

-- a count out of range, or a signed negative number to be shifted, by the promoted type
abbrev pub is_bad_shift : CScalar → ℤ → ℤ → Bool
is_bad_shift t x y = int_lt y (pos 0) || int_le (pos (bits t)) y || (is_signed t && int_lt x (pos 0))

-- the place of a subscript, where it is one of so many elements
abbrev pub place : ℤ → ℕ → Result ℕ Undefined
place (pos k) len = if nat_lt k len then Ok k else Err why.BadIndex
place (negsuc k) len = Err why.BadIndex

abbrev pub subscript : CScalar → ℕ → ℕ → Result ℕ Undefined
subscript t w len = place (number_of_word t w).n len
