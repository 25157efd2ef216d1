-- How many words a value takes, where it is filled and no higher than a bound. It serves the proofs that a program is
-- well formed; no public clause cites it.
use Rattle.std.specs.Prelude.{ℕ, nat_le, if◌then◌else◌, List, Option, Some, None}
use Rattle.std.specs.List.{list_all}
use Rattle.std.specs.Option.{option_and_then}
use Rattle.c99_tree.specs.Values.{Value, Values, Shape, Shapes, filled, filled_all, repeated}
use Rattle.c99_tree.specs.Spelling.{constant_height, highest_constant}

abbrev pub low_value : ℕ → (Value × List ℕ) → Option (List ℕ)
low_value m a = if nat_le (constant_height a.0) m then Some a.1 else None

abbrev pub low_values : ℕ → (Values × List ℕ) → Option (List ℕ)
low_values m a = if nat_le (highest_constant a.0) m then Some a.1 else None

abbrev pub low_list : ℕ → (List Value × List ℕ) → Option (List ℕ)
low_list m a = if list_all (λ v. nat_le (constant_height v) m) a.0 then Some a.1 else None

-- the words that one value of a shape leaves
abbrev pub left_of : ℕ → Option Shape → List ℕ → Option (List ℕ)
left_of m s ws = option_and_then (λ shape. option_and_then (low_value m) (filled shape ws)) s

-- the words that the values of a struct's members leave
abbrev pub left_of_all : ℕ → Option Shapes → List ℕ → Option (List ℕ)
left_of_all m s ws = option_and_then (λ shapes. option_and_then (low_values m) (filled_all shapes ws)) s

-- the words that n values of a shape leave
abbrev pub left_of_times : ℕ → ℕ → Option Shape → List ℕ → Option (List ℕ)
left_of_times m n s ws = option_and_then (λ shape. option_and_then (low_list m) (repeated n (filled shape) ws)) s
