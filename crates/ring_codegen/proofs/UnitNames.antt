-- Names and decimals are names of rings.
use Rattle.std.proofs.Common.{◌≡◌, ℕ, suc, ◌+◌, ◌%◌, ◌/◌, ◌^◌, ◌<◌, ◌≤◌, Bool, true, false, ◌&&◌, List, [], ◌∷◌, ◌++◌, length, refl, ap, ◌∙◌, arith}
use Rattle.std.specs.Prelude.{nat_le, decimal}
use Rattle.std.specs.List.{list_all}
use Rattle.std.proofs.lemmas.Bool.{and_from, or_left, or_right, le-leb}
use Rattle.std.proofs.lemmas.Fmt.{decimal_by_steps, length-decimal-le}
use Rattle.sm_io.specs.Words.{is_name}
use Rattle.c99_tree.specs.Words.{is_digit, is_index, is_ring_name}
use Rattle.ring_codegen.proofs.Listing.{all_both}

-- the first byte is a digit from 1 on
abbrev begins : List ℕ → Bool
begins [] = false
begins (b ∷ bs) = nat_le 49 b

still_begins : (ds more : List ℕ) → begins ds ≡ true → begins (ds ++ more) ≡ true
still_begins [] more h = absurd (cc h)
still_begins (b ∷ bs) more h = h

digit_is : (k : ℕ) → k < 10 → is_digit (48 + k) ≡ true
digit_is k h = and_from (nat_le 48 (48 + k)) (nat_le (48 + k) 57) (le-leb 48 (48 + k) (omega arith)) (le-leb (48 + k) 57 (omega (arith, h)))

one_digit : (k : ℕ) → k < 10 → list_all is_digit ((48 + k) ∷ []) ≡ true
one_digit k h = and_from (is_digit (48 + k)) true (digit_is k h) refl

all_digits : (n : ℕ) → n < 2 ^ 64 → list_all is_digit (decimal n) ≡ true
all_digits n h = decimal_by_steps (λ k ds. list_all is_digit ds ≡ true) one_digit
    (λ k ds big all. all_both is_digit ds ((48 + k % 10) ∷ []) all (one_digit (k % 10) (omega arith))) n h

decimal_begins : (n : ℕ) → 1 ≤ n → n < 2 ^ 64 → begins (decimal n) ≡ true
decimal_begins n some h = decimal_by_steps (λ k ds. 1 ≤ k → begins ds ≡ true)
    (λ k small one. le-leb 49 (48 + k) (omega (arith, one)))
    (λ k ds big rest one. still_begins ds ((48 + k % 10) ∷ []) (rest (omega (arith, big)))) n h some

indexed : (ds : List ℕ) → begins ds ≡ true → list_all is_digit ds ≡ true → length ds ≤ 31 → is_index ds ≡ true
indexed [] b all short = absurd (cc b)
indexed (d ∷ ds) b all short =
    let low : nat_le (length ds) 30 ≡ true = le-leb (length ds) 30 (omega (arith, short)) in
    λ j. b j && all j && low j

pub number_named : (n : ℕ) → 1 ≤ n → n < 2 ^ 64 → is_ring_name (decimal n) ≡ true
number_named n some h =
    let short = length-decimal-le 20 n (omega arith) (omega (arith, h)) h in
    or_right (is_name (decimal n)) (is_index (decimal n)) (indexed (decimal n) (decimal_begins n some h) (all_digits n h) (omega (arith, short)))

pub name_named : (x : List ℕ) → is_name x ≡ true → is_ring_name x ≡ true
name_named x h = or_left (is_name x) (is_index x) h
