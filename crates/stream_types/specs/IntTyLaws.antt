-- Words and numbers of an integer type stand for each other.
use Rattle.std.proofs.Common.{◌≡◌, ℕ, zero, suc, ◌-◌, ◌^◌, ◌<◌, ◌≤◌, Bool, true, false, refl, arith}
use Rattle.std.specs.Prelude.{ℤ, neg_ℤ, pos, negsuc, IsTrue, nat_lt, int_le, ◌&&◌}
use Rattle.std.specs.Int.{w64}
use Rattle.std.proofs.Math.Pow.{pow_mono}
use Rattle.std.proofs.lemmas.Int.{to_z-of_z, of_z-to_z}
use Rattle.std.proofs.lemmas.Bool.Decides.{nat_tests}
use Rattle.std.proofs.lemmas.Nat.{pow_pos}
use Rattle.stream_types.specs.Numbers.{number_at, word, least, greatest, in_range, is_word_at}
use Rattle.sm_io.proofs.Truths.{left_passes}

pub half_below : (m n : ℕ) → n ≤ 64 → IsTrue (nat_lt m (2 ^ (n - 1))) → m < 2 ^ 63
half_below m n b h =
    let p : n - 1 ≤ 63 = omega arith in
    let q : m < 2 ^ (n - 1) = grind (arith, nat_tests, h) in
    omega (arith, q, pow_mono p)

pub word_back : (n : ℕ) (sign : Bool) (z : ℤ) → 1 ≤ n → n ≤ 64 → IsTrue (in_range n sign z) → number_at sign (word z) ≡ z
word_back n true (pos m) a b h = to_z-of_z w64 (pos m) (record { sfits = half_below m n b h })
word_back n true (negsuc m) a b h = to_z-of_z w64 (negsuc m) (record { sfits = half_below m n b h })
word_back n false (pos m) a b h = refl
word_back n false (negsuc m) a b h = absurd (cc)

pub number_back : (n : ℕ) (sign : Bool) (w : ℕ) → 1 ≤ n → n ≤ 64 → IsTrue (is_word_at n sign w) → word (number_at sign w) ≡ w
number_back n true w a b h =
    let t = left_passes (nat_lt w (2 ^ 64)) (in_range n true (number_at true w)) h in
    let p : w < 2 ^ 64 = grind (arith, nat_tests, t) in
    of_z-to_z w64 w p
number_back n false w a b h = refl

signed_range-pos : (p m : ℕ) → 0 < p → nat_lt m p ≡ (int_le (neg_ℤ (pos p)) (pos m) && int_le (pos m) (pos (p - 1)))
signed_range-pos zero m h = absurd (omega arith)
signed_range-pos (suc k) m h = grind (arith, nat_tests)

signed_range-negsuc : (p m : ℕ) → 0 < p → nat_lt m p ≡ (int_le (neg_ℤ (pos p)) (negsuc m) && int_le (negsuc m) (pos (p - 1)))
signed_range-negsuc zero m h = absurd (omega arith)
signed_range-negsuc (suc k) m h = grind (arith, nat_tests)

-- a range is from its least number to its greatest
in_range_is : (n : ℕ) (sign : Bool) (z : ℤ) → in_range n sign z ≡ (int_le (least n sign) z && int_le z (greatest n sign))
in_range_is n true (pos m) = signed_range-pos (2 ^ (n - 1)) m (pow_pos (n - 1))
in_range_is n true (negsuc m) = signed_range-negsuc (2 ^ (n - 1)) m (pow_pos (n - 1))
in_range_is n false (pos m) = let p : 0 < 2 ^ n = pow_pos n in grind (arith, nat_tests)
in_range_is n false (negsuc m) = refl

pub range_is : (n : ℕ) (sign : Bool) (low high : ℤ) → low ≡ least n sign → high ≡ greatest n sign → (z : ℤ) → in_range n sign z ≡ (int_le low z && int_le z high)
range_is n sign low high a b z = rw (a, b) (in_range_is n sign z)
