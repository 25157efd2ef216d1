-- A decimal is what is written of its number.
use Rattle.std.proofs.Common.{◌≡◌, refl, sym, ℕ, ◌+◌, ◌-◌, ◌*◌, ◌^◌, ◌<◌, List, [], ◌∷◌, length, get_or, Bool, true, false, nat_lt, arith, rules}
use Rattle.std.specs.Prelude.{decimal, if◌then◌else◌}
use Rattle.std.specs.List.{list_all, fold}
use Rattle.std.proofs.lemmas.Bool.Decides.{nat_tests}
use Rattle.std.proofs.lemmas.Str.Parse.{IsNumeralModel, IsDigitsTest, FoldsDigits, numerals_by_fold}
use Rattle.std.proofs.lemmas.Fmt.{decimal-digits_value}
use Rattle.spec_words.specs.Decimals.{is_digit, is_decimal, value_of}
use Rattle.spec_words.specs.Magnitudes.{magnitude_of}
use Rattle.spec_words.specs.declared.magnitudes.Magnitude.TheVariants.{Of, Beyond}

digits_test : IsDigitsTest (λ ds. list_all is_digit ds ≡ true)
digits_test = search rules

abbrev pub read_on : ℕ → List ℕ → ℕ
read_on n ds = fold (λ n d. n * 10 + (d - 48)) n ds

folds : FoldsDigits read_on
folds = search rules

pub own : IsNumeralModel (λ ds. list_all is_digit ds ≡ true) (read_on 0)
own = numerals_by_fold _ digits_test read_on folds

-- a decimal begins with no zero, or is one alone
no_zeros : (text : List ℕ) → is_decimal text ≡ true → (list_all is_digit text ≡ true) × (0 < length text) × (get_or text 0 0 ≡ 48 → length text ≡ 1)
unfolding is_decimal
no_zeros [] h = search rules
no_zeros (b ∷ text) h = (grind arith, grind arith, grind arith)

-- a decimal below 2 ^ 64 is what is written of its number
pub decimal-value_of : (text : List ℕ) → is_decimal text ≡ true → value_of text < 2 ^ 64 → decimal (value_of text) ≡ text
unfolding value_of
decimal-value_of text h small =
    let facts = no_zeros text h in
    decimal-digits_value own text facts.0 facts.1 facts.2 small

same_of : (n v : ℕ) → Of n ≡ Of v → n ≡ v
same_of n v h = cc

of_case : (n v : ℕ) (b : Bool) → nat_lt v 18446744073709551616 ≡ b → Of n ≡ (if b then Of v else Beyond) → (v < 2 ^ 64) × (n ≡ v)
of_case n v true small h = (grind (arith, nat_tests, small), same_of n v h)
of_case n v false large h = absurd (cc)

of_magnitude : (n v : ℕ) → Of n ≡ magnitude_of v → (v < 2 ^ 64) × (n ≡ v)
of_magnitude n v h = of_case n v (nat_lt v 18446744073709551616) refl h

-- what a decimal below 2 ^ 64 is written as
pub written : (text : List ℕ) (n : ℕ) → is_decimal text ≡ true → Of n ≡ magnitude_of (value_of text) → text ≡ decimal n
written text n h is =
    let facts = of_magnitude n (value_of text) is in
    rw facts.1 (sym (decimal-value_of text h facts.0))

pub ruleset decimals = (written)
