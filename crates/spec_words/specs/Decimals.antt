-- Decimals: which texts they are, and the number that digits write.
use Rattle.std.specs.Prelude.{◌≡◌, ℕ, ◌+◌, ◌-◌, ◌*◌, ◌≤◌, Bool, true, false, ◌==◌, ◌&&◌, ◌||◌, not, nat_lt, nat_le, List, [], ◌∷◌, length, decimal}
use Rattle.std.specs.List.{list_all, fold}

abbrev pub is_digit : ℕ → Bool
is_digit b = nat_le 48 b && nat_le b 57

-- one zero alone, or digits of which the first is no zero
unfoldable pub is_decimal : List ℕ → Bool
is_decimal [] = false
is_decimal (b ∷ text) = list_all is_digit (b ∷ text) && (not (b == 48) || nat_lt (length text) 1)

-- the number that digits write, whatever zeros come first
unfoldable pub value_of : List ℕ → ℕ
value_of digits = fold (λ n d. n * 10 + (d - 48)) 0 digits

-- a decimal from the one number to the other
abbrev pub is_decimal_between : ℕ → ℕ → List ℕ → Bool
is_decimal_between least most text = is_decimal text && (nat_le least (value_of text) && nat_le (value_of text) most)

-- a text, and the number from the one to the other that it writes
abbrev pub WritesBetween : ℕ → ℕ → List ℕ → ℕ → Type 0
WritesBetween least most text n = (is_decimal_between least most text ≡ true) × (text ≡ decimal n) × (least ≤ n) × (n ≤ most) × (n ≡ value_of text)
