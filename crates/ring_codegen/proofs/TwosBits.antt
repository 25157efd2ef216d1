-- Bits in two's complement: what an operator on them gives does not depend on the width.
use Rattle.std.proofs.Common.{◌≡◌, ℕ, suc, ◌+◌, ◌*◌, ◌-◌, ◌^◌, ◌<◌, ◌≤◌, Bool, true, false, not, ◌&&◌, ◌||◌, Ok, Err, refl, ap, sym, ◌∙◌, subst, arith}
use Rattle.std.specs.Prelude.{IsTrue, ℤ, pos, negsuc, nat_lt, nat_le, ◌-ℤ◌, bit_and, bit_or, bit_xor, if◌then◌else◌}
use Rattle.std.specs.Int.Bits.{and_self, and_zero_l, and_zero_r, or_self, xor_self, and_lt}
use Rattle.std.proofs.lemmas.Bool.Decides.{nat_tests}
use Rattle.std.proofs.lemmas.Int.{ints}
use Rattle.std.proofs.Math.Nat.{mod-eq_of_lt, two-pow-succ}
use Rattle.std.proofs.Math.Pow.{pow_mono}
use Rattle.std.proofs.lemmas.Nat.{pow_pos, pow-add, or_lt, xor_lt, or_comm, xor_comm, and_block, or_block, xor_block}
use Rattle.stream_types.specs.declared.scalar.Scalar.{Scalar}
use Rattle.stream_types.specs.declared.scalar.Scalar.TheVariants as scalar
use Rattle.stream_types.specs.declared.scalar.Hazard.TheVariants.{Overflow}
use Rattle.stream_types.specs.Scalars as of
use Rattle.stream_types.specs.Numbers.{in_range, fit, to_twos, from_twos}
use Rattle.c99_tree.specs.Evaluation.{bits_of, of_bits}
use Rattle.c99_tree.proofs.NumberRanges.{within, within_half, bits-lt, of_bits-within}
use Rattle.ring_codegen.specs.CTypes.{c_scalar}
use Rattle.ring_codegen.specs.Translation.{wide}
use Rattle.ring_codegen.proofs.Carriers.{Has}

-- ---- a sign, and k bits below it

abbrev is_below : ℤ → Bool
is_below (pos m) = false
is_below (negsuc m) = true

abbrev low : ℕ → ℤ → ℕ
low k (pos m) = m
low k (negsuc m) = 2 ^ k - 1 - m

-- j + 1 times the sign
abbrev pub ones : ℕ → Bool → ℕ
ones j true = 2 ^ suc j - 1
ones j false = 0

abbrev signed_of : ℕ → Bool → ℕ → ℤ
signed_of k true l = negsuc (2 ^ k - 1 - l)
signed_of k false l = pos l

below_half : (p m : ℕ) → nat_lt m p ≡ true → m < p
below_half p m h = grind (arith, nat_tests, h)

below_test : (p m : ℕ) → m < p → nat_lt m p ≡ true
below_test p m h = grind (arith, nat_tests, h)

not_below : (p m : ℕ) → p ≤ m → nat_lt m p ≡ false
not_below p m h = grind (arith, nat_tests, h)

low-lt : (k : ℕ) (z : ℤ) → within_half (2 ^ k) z ≡ true → low k z < 2 ^ k
low-lt k (pos m) h = below_half (2 ^ k) m h
low-lt k (negsuc m) h = omega (arith, pow_pos k)

wider : (j k m : ℕ) → m < 2 ^ k → m < 2 ^ (suc j + k)
wider j k m h = let l : k ≤ suc j + k = omega arith in omega (arith, h, pow_mono l)

all_but : (p q w m : ℕ) → p ≡ q + 1 → m < w → p * w - 1 - m ≡ q * w + (w - 1 - m)
all_but p q w m e l = subst (λ n. n * w - 1 - m ≡ q * w + (w - 1 - m)) (sym e) (omega (arith, l))

power-all : (n : ℕ) → 2 ^ n ≡ 2 ^ n - 1 + 1
power-all n = omega (arith, pow_pos n)

-- the bits of a number: its sign, so many times, and the bits below
spread : (j k : ℕ) (z : ℤ) → within_half (2 ^ k) z ≡ true → to_twos (suc j + k) z ≡ ones j (is_below z) * 2 ^ k + low k z
spread j k (pos m) h =
    let l : m < 2 ^ (suc j + k) = wider j k m (below_half (2 ^ k) m h) in
    let e : m ≡ 0 * 2 ^ k + m = omega arith in
    mod-eq_of_lt l ∙ e
spread j k (negsuc m) h =
    let b : m < 2 ^ k = below_half (2 ^ k) m h in
    let l : m < 2 ^ (suc j + k) = wider j k m b in
    (λ i. pow-add 2 (suc j) k i - 1 - mod-eq_of_lt l i) ∙ all_but (2 ^ suc j) (2 ^ suc j - 1) (2 ^ k) m (power-all (suc j)) b

times-le : (p d w l : ℕ) → p * w ≤ (p + d) * w + l
times-le p d w l = omega arith

below_zero : (a b m : ℕ) → b ≡ a + 1 + m → pos a -ℤ pos b ≡ negsuc m
below_zero a b m e = omega (arith, ints, e)

all_ones : (d w l : ℕ) → l < w → (d + 1 + (d + 1)) * w ≡ (d + 1 + d) * w + l + 1 + (w - 1 - l)
all_ones d w l h = omega (arith, h)

-- the number that they stand for
joined : (j k l : ℕ) (b : Bool) → l < 2 ^ k → from_twos (suc j + k) true (ones j b * 2 ^ k + l) ≡ signed_of k b l
joined j k l false h =
    let p : k ≤ suc j + k - 1 = omega arith in
    let e : 0 * 2 ^ k + l ≡ l = omega arith in
    let s : l < 2 ^ (suc j + k - 1) = omega (arith, h, pow_mono p) in
    ap (from_twos (suc j + k) true) e
    ∙ ap (λ (t : Bool). if t then pos l else pos l -ℤ pos (2 ^ (suc j + k))) (below_test (2 ^ (suc j + k - 1)) l s)
joined j k l true h =
    let d : ℕ = 2 ^ j - 1 in
    let w : ℕ = 2 ^ k in
    let p : 2 ^ j ≡ d + 1 = power-all j in
    let q : 2 ^ suc j ≡ d + 1 + (d + 1) = two-pow-succ j ∙ (λ i. p i + p i) in
    let o : 2 ^ suc j - 1 ≡ d + 1 + d = omega (arith, q) in
    let n : suc j + k - 1 ≡ j + k = omega arith in
    let half : 2 ^ (suc j + k - 1) ≡ (d + 1) * w = ap (λ v. 2 ^ v) n ∙ pow-add 2 j k ∙ ap (λ v. v * w) p in
    let full : 2 ^ (suc j + k) ≡ (d + 1 + (d + 1)) * w = pow-add 2 (suc j) k ∙ ap (λ v. v * w) q in
    let v : ℕ = (d + 1 + d) * w + l in
    let t : nat_lt v (2 ^ (suc j + k - 1)) ≡ false = ap (nat_lt v) half ∙ not_below ((d + 1) * w) v (times-le (d + 1) d w l) in
    ap (λ x. from_twos (suc j + k) true (x * w + l)) o
    ∙ ap (λ (c : Bool). if c then pos v else pos v -ℤ pos (2 ^ (suc j + k))) t
    ∙ below_zero v (2 ^ (suc j + k)) (w - 1 - l) (full ∙ all_ones d w l h)

-- ---- operators on bits

-- f goes bit by bit, and does on signs what g does
pub record IsBitwise (f : ℕ → ℕ → ℕ) (g : Bool → Bool → Bool) : Type 0 where
  pub block : (k a b r s : ℕ) → r < 2 ^ k → s < 2 ^ k → f (a * 2 ^ k + r) (b * 2 ^ k + s) ≡ f a b * 2 ^ k + f r s
  pub signs : (j : ℕ) (a b : Bool) → f (ones j a) (ones j b) ≡ ones j (g a b)
  pub small : (k a b : ℕ) → a < 2 ^ k → b < 2 ^ k → f a b < 2 ^ k

abbrev pub differ : Bool → Bool → Bool
differ true b = not b
differ false b = b

and_signs : (j : ℕ) (a b : Bool) → bit_and (ones j a) (ones j b) ≡ ones j (a && b)
and_signs j true true = and_self (2 ^ suc j - 1)
and_signs j true false = and_zero_r (2 ^ suc j - 1)
and_signs j false b = and_zero_l (ones j b)

or_zero : (a : ℕ) → bit_or 0 a ≡ a
or_zero a = refl

or_signs : (j : ℕ) (a b : Bool) → bit_or (ones j a) (ones j b) ≡ ones j (a || b)
or_signs j true true = or_self (2 ^ suc j - 1)
or_signs j true false = or_comm (2 ^ suc j - 1) 0 ∙ or_zero (2 ^ suc j - 1)
or_signs j false b = or_zero (ones j b)

xor_zero : (a : ℕ) → bit_xor 0 a ≡ a
xor_zero a = refl

xor_signs : (j : ℕ) (a b : Bool) → bit_xor (ones j a) (ones j b) ≡ ones j (differ a b)
xor_signs j true true = xor_self (2 ^ suc j - 1)
xor_signs j true false = xor_comm (2 ^ suc j - 1) 0 ∙ xor_zero (2 ^ suc j - 1)
xor_signs j false b = xor_zero (ones j b)

pub and_is : IsBitwise bit_and (λ a b. a && b)
and_is = record { block = and_block; signs = and_signs; small = λ k a b. and_lt k a b }

pub or_is : IsBitwise bit_or (λ a b. a || b)
or_is = record { block = or_block; signs = or_signs; small = or_lt }

pub xor_is : IsBitwise bit_xor differ
xor_is = record { block = xor_block; signs = xor_signs; small = xor_lt }

any_width : (f : ℕ → ℕ → ℕ) (g : Bool → Bool → Bool) → IsBitwise f g → (j k : ℕ) (x y : ℤ) → within_half (2 ^ k) x ≡ true → within_half (2 ^ k) y ≡ true
    → from_twos (suc j + k) true (f (to_twos (suc j + k) x) (to_twos (suc j + k) y)) ≡ signed_of k (g (is_below x) (is_below y)) (f (low k x) (low k y))
any_width f g is j k x y h q =
    let b = is.block k (ones j (is_below x)) (ones j (is_below y)) (low k x) (low k y) (low-lt k x h) (low-lt k y q) in
    (λ i. from_twos (suc j + k) true (f (spread j k x h i) (spread j k y q i)))
    ∙ ap (from_twos (suc j + k) true) (b ∙ ap (λ v. v * 2 ^ k + f (low k x) (low k y)) (is.signs j (is_below x) (is_below y)))
    ∙ joined j k (f (low k x) (low k y)) (g (is_below x) (is_below y)) (is.small k (low k x) (low k y) (low-lt k x h) (low-lt k y q))

-- the two ways to tell a negative number by its bits
flip : (k v : ℕ) (a b : ℤ) → (if nat_le k v then a else b) ≡ (if nat_lt v k then b else a)
flip k v a b = let e : nat_le k v ≡ not (nat_lt v k) = grind (arith, nat_tests) in ap (λ (t : Bool). if t then a else b) e ∙ by (nat_lt v k)
  where
    by : (t : Bool) → (if not t then a else b) ≡ (if t then b else a)
    by true = refl
    by false = refl

flip_at : (n v : ℕ) → (if nat_le (2 ^ (n - 1)) v then pos v -ℤ pos (2 ^ n) else pos v) ≡ from_twos n true v
flip_at n v = flip (2 ^ (n - 1)) v (pos v -ℤ pos (2 ^ n)) (pos v)

natural_twos : (n m : ℕ) (z : ℤ) → n ≤ m → within n false z ≡ true → to_twos m z ≡ to_twos n z
natural_twos n m (pos k) l h =
    let p : k < 2 ^ n = below_half (2 ^ n) k h in
    let q : k < 2 ^ m = omega (arith, p, pow_mono l) in
    mod-eq_of_lt q ∙ sym (mod-eq_of_lt p)
natural_twos n m (negsuc k) l h = absurd (cc h)

-- the bits in the wide type give the number that those of the scalar give
pub bits_agree : (f : ℕ → ℕ → ℕ) (g : Bool → Bool → Bool) → IsBitwise f g → (t : Scalar) (x y : ℤ) → IsTrue (of.is_integer t) → Has (c_scalar t) x
    → Has (c_scalar t) y
    → of_bits (wide t) (f (bits_of (wide t) x) (bits_of (wide t) y)) ≡ from_twos (of.bits t) (of.signed t) (f (to_twos (of.bits t) x) (to_twos (of.bits t) y))
bits_agree f g is scalar.Bool x y i h q = absurd (cc)
bits_agree f g is scalar.Int8 x y i h q = flip_at 32 (f (to_twos 32 x) (to_twos 32 y)) ∙ any_width f g is 24 7 x y h q ∙ sym (any_width f g is 0 7 x y h q)
bits_agree f g is scalar.Int16 x y i h q = flip_at 32 (f (to_twos 32 x) (to_twos 32 y)) ∙ any_width f g is 16 15 x y h q ∙ sym (any_width f g is 0 15 x y h q)
bits_agree f g is scalar.Int32 x y i h q = flip_at 32 (f (to_twos 32 x) (to_twos 32 y))
bits_agree f g is scalar.Int64 x y i h q = flip_at 64 (f (to_twos 64 x) (to_twos 64 y))
bits_agree f g is scalar.Word8 x y i h q = λ j. pos (f (natural_twos 8 32 x (omega arith) h j) (natural_twos 8 32 y (omega arith) q j))
bits_agree f g is scalar.Word16 x y i h q = λ j. pos (f (natural_twos 16 32 x (omega arith) h j) (natural_twos 16 32 y (omega arith) q j))
bits_agree f g is scalar.Word32 x y i h q = refl
bits_agree f g is scalar.Word64 x y i h q = refl

from_within : (n : ℕ) (sign : Bool) (v : ℕ) → 1 ≤ n → v < 2 ^ n → within n sign (from_twos n sign v) ≡ true
from_within n true v a h = sym (ap (within n true) (flip_at n v)) ∙ of_bits-within n true v a h
from_within n false v a h = of_bits-within n false v a h

from_has : (t : Scalar) (v : ℕ) → IsTrue (of.is_integer t) → v < 2 ^ of.bits t → Has (c_scalar t) (from_twos (of.bits t) (of.signed t) v)
from_has scalar.Bool v i h = absurd (cc)
from_has scalar.Int8 v i h = from_within 8 true v (omega arith) h
from_has scalar.Int16 v i h = from_within 16 true v (omega arith) h
from_has scalar.Int32 v i h = from_within 32 true v (omega arith) h
from_has scalar.Int64 v i h = from_within 64 true v (omega arith) h
from_has scalar.Word8 v i h = from_within 8 false v (omega arith) h
from_has scalar.Word16 v i h = from_within 16 false v (omega arith) h
from_has scalar.Word32 v i h = from_within 32 false v (omega arith) h
from_has scalar.Word64 v i h = from_within 64 false v (omega arith) h

-- bits of the scalar's width stand for a number of its type
pub bits_have : (f : ℕ → ℕ → ℕ) (g : Bool → Bool → Bool) → IsBitwise f g → (t : Scalar) (x y : ℤ) → IsTrue (of.is_integer t)
    → Has (c_scalar t) (from_twos (of.bits t) (of.signed t) (f (to_twos (of.bits t) x) (to_twos (of.bits t) y)))
bits_have f g is t x y i =
    let n : ℕ = of.bits t in
    from_has t (f (to_twos n x) (to_twos n y)) i (is.small n (to_twos n x) (to_twos n y) (bits-lt n x) (bits-lt n y))

-- ---- the complement

abbrev flipped : ℤ → ℤ
flipped (pos m) = negsuc m
flipped (negsuc m) = pos m

minus_one : (z : ℤ) → pos 0 -ℤ z -ℤ pos 1 ≡ flipped z
minus_one (pos m) = omega (arith, ints)
minus_one (negsuc m) = omega (arith, ints)

all_less : (p m : ℕ) → m < p → p - 1 - (p - 1 - m) ≡ m
all_less p m h = omega (arith, h)

-- the complement of the bits stands for -x - 1
complement_is : (k : ℕ) (z : ℤ) → within_half (2 ^ k) z ≡ true → from_twos (1 + k) true (2 ^ (1 + k) - 1 - to_twos (1 + k) z) ≡ flipped z
complement_is k (pos m) h =
    let b : m < 2 ^ k = below_half (2 ^ k) m h in
    let l : m < 2 ^ (1 + k) = wider 0 k m b in
    let r : 2 ^ k - 1 - m < 2 ^ k = omega (arith, pow_pos k) in
    ap (from_twos (1 + k) true) ((λ i. pow-add 2 1 k i - 1 - mod-eq_of_lt l i) ∙ all_but (2 ^ 1) (2 ^ 1 - 1) (2 ^ k) m (power-all 1) b)
    ∙ joined 0 k (2 ^ k - 1 - m) true r
    ∙ ap negsuc (all_less (2 ^ k) m b)
complement_is k (negsuc m) h =
    let b : m < 2 ^ k = below_half (2 ^ k) m h in
    let l : m < 2 ^ (1 + k) = wider 0 k m b in
    let e : m ≡ 0 * 2 ^ k + m = omega arith in
    ap (from_twos (1 + k) true) (ap (λ v. 2 ^ (1 + k) - 1 - (2 ^ (1 + k) - 1 - v)) (mod-eq_of_lt l) ∙ all_less (2 ^ (1 + k)) m l ∙ e)
    ∙ joined 0 k m false b

signed_complement : (k : ℕ) (z : ℤ) → within_half (2 ^ k) z ≡ true → (in_range (1 + k) true (flipped z) ≡ true)
    → fit (1 + k) true (pos 0 -ℤ z -ℤ pos 1) ≡ Ok (from_twos (1 + k) true (2 ^ (1 + k) - 1 - to_twos (1 + k) z))
signed_complement k z h r =
    ap (fit (1 + k) true) (minus_one z)
    ∙ ap (λ (t : Bool). if t then Ok (flipped z) else Err Overflow) r
    ∙ ap Ok (sym (complement_is k z h))

range_of : (n : ℕ) (z : ℤ) → within n true z ≡ true → in_range n true (flipped z) ≡ true
range_of n (pos m) h = h
range_of n (negsuc m) h = h

natural_complement : (n : ℕ) (z : ℤ) → within n false z ≡ true → fit n false (pos 0 -ℤ z -ℤ pos 1) ≡ Ok (from_twos n false (2 ^ n - 1 - to_twos n z))
natural_complement n (pos m) h = ap (fit n false) (minus_one (pos m))
natural_complement n (negsuc m) h = absurd (cc h)

-- the table's complement is what -x - 1 is at the scalar's type
pub complement_fits : (t : Scalar) (z : ℤ) → IsTrue (of.is_integer t) → Has (c_scalar t) z
    → fit (of.bits t) (of.signed t) (pos 0 -ℤ z -ℤ pos 1) ≡ Ok (from_twos (of.bits t) (of.signed t) (2 ^ of.bits t - 1 - to_twos (of.bits t) z))
complement_fits scalar.Bool z i h = absurd (cc)
complement_fits scalar.Int8 z i h = signed_complement 7 z h (range_of 8 z h)
complement_fits scalar.Int16 z i h = signed_complement 15 z h (range_of 16 z h)
complement_fits scalar.Int32 z i h = signed_complement 31 z h (range_of 32 z h)
complement_fits scalar.Int64 z i h = signed_complement 63 z h (range_of 64 z h)
complement_fits scalar.Word8 z i h = natural_complement 8 z h
complement_fits scalar.Word16 z i h = natural_complement 16 z h
complement_fits scalar.Word32 z i h = natural_complement 32 z h
complement_fits scalar.Word64 z i h = natural_complement 64 z h
