-- The words of fields.
use Rattle.std.specs.Prelude.{ℕ, ◌-◌, Bool, ◌==◌, ◌&&◌, if◌then◌else◌, nat_lt, ℤ, pos, neg_ℤ, List, [], ◌∷◌, length, take, drop, reverse, codes, bytes_eq, Option, Some, None}
use Rattle.std.specs.List.{list_all, prefix_len}
use Rattle.std.specs.Option.{option_map, option_and_then}
use Rattle.stream_types.specs.declared.scalar.Scalar.{Scalar}
use Rattle.stream_types.specs.declared.scalar.Scalar.TheVariants as scalar
use Rattle.spec_words.specs.Words.{truth_of}
use Rattle.spec_words.specs.Decimals.{is_digit, value_of}
use Rattle.spec_words.specs.Magnitudes.{word_in}
use Rattle.extern_rows.specs.Lines.{is_blank_byte}

-- a text without the spaces and tabs at its front
abbrev pub without_front : List ℕ → List ℕ
without_front text = drop (prefix_len is_blank_byte text) text

-- a text without the spaces and tabs at its end
abbrev pub without_end : List ℕ → List ℕ
without_end text = take (length text - prefix_len is_blank_byte (reverse text)) text

-- a text without spaces and tabs at both ends
abbrev pub trimmed : List ℕ → List ℕ
trimmed text = without_end (without_front text)

-- one digit or more
abbrev pub is_numeral : List ℕ → Bool
is_numeral text = nat_lt 0 (length text) && list_all is_digit text

-- the number of a numeral, whatever zeros come first
abbrev pub numeral_of : List ℕ → Option ℕ
numeral_of text = if is_numeral text then Some (value_of text) else None

-- the number that a field writes: digits, with a minus sign before them or none
abbrev pub field_number : List ℕ → Option ℤ
field_number [] = None
field_number (b ∷ text) = if b == 45 then option_map (λ n. neg_ℤ (pos n)) (numeral_of text) else option_map pos (numeral_of (b ∷ text))

-- a truth value by its word, or 1 or 0
abbrev pub field_truth : List ℕ → Option ℕ
field_truth text =
    if bytes_eq text (codes "1") then Some 1
    else if bytes_eq text (codes "0") then Some 0
    else truth_of text

-- the word that a field writes at a type, if it writes a value of it
abbrev pub field_word : Scalar → List ℕ → Option ℕ
field_word scalar.Bool text = field_truth text
field_word s text = option_and_then (word_in s) (field_number text)
