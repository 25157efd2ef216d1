-- The number of a word, in the C type of the word's scalar.
use Rattle.std.proofs.Common.{◌≡◌, ℕ, zero, suc, ◌%◌, ◌^◌, ◌<◌, ◌≤◌, Bool, true, false, Ok, Err, refl, sym, ap, ◌∙◌, subst, arith}
use Rattle.std.specs.Prelude.{ℤ, pos, negsuc, IsTrue, unsigned_abs, nat_lt, if◌then◌else◌}
use Rattle.std.specs.Int.{w64, cast_unsigned, int_rem_euclid}
use Rattle.std.specs.Ordering.{int_eq}
use Rattle.std.proofs.lemmas.Bool.Decides.{nat_tests}
use Rattle.std.proofs.Math.Pow.{pow_mono}
use Rattle.std.proofs.Math.Nat.{mod-eq_of_lt}
use Rattle.stream_types.specs.declared.scalar.Scalar.{Scalar}
use Rattle.stream_types.specs.declared.scalar.Scalar.TheVariants as scalar
use Rattle.stream_types.specs.Numbers as of
use Rattle.stream_types.specs.IntTyLaws as back
use Rattle.stream_types.specs.IntTyLaws.{half_below}
use Rattle.stream_types.proofs.Ranges.{number_in_range}
use Rattle.c99_tree.specs.declared.types.CScalar.{CScalar}
use Rattle.c99_tree.specs.declared.types.CScalar.TheVariants as c
use Rattle.c99_tree.specs.declared.undefined.Undefined.TheVariants as why
use Rattle.c99_tree.specs.CTypes.{Num, num, holds, converted}
use Rattle.c99_tree.specs.Values.{is_word, number_of_word, word_of_number}
use Rattle.c99_tree.specs.Typed.{in_range, IsNumberOf}
use Rattle.c99_tree.proofs.NumberRanges.{within, within_range, range_within}
use Rattle.c99_tree.proofs.WordsBack.{number_back}
use Rattle.ring_codegen.specs.CTypes.{c_scalar}
use Rattle.ring_codegen.specs.Carried.{IsCarrier}
use Rattle.std.proofs.Common.{inl}

same_range : (n : ℕ) (sign : Bool) (z : ℤ) → IsTrue (of.in_range n sign z) → within n sign z ≡ true
same_range n true (pos m) h = h
same_range n true (negsuc m) h = h
same_range n false (pos m) h = h
same_range n false (negsuc m) h = h

-- the number of a word is one of the C type
pub word_number : (t : Scalar) (w : ℕ) → IsTrue (of.is_word t w) → IsNumberOf (c_scalar t) (num (c_scalar t) (of.number t w))
word_number scalar.Bool w h = record { typed = refl; ranged = within_range c.Bool (pos w) h }
word_number scalar.Int8 w h = record { typed = refl; ranged = within_range c.I8 (of.number scalar.Int8 w) (same_range 8 true (of.number scalar.Int8 w) (number_in_range scalar.Int8 w refl h)) }
word_number scalar.Int16 w h = record { typed = refl; ranged = within_range c.I16 (of.number scalar.Int16 w) (same_range 16 true (of.number scalar.Int16 w) (number_in_range scalar.Int16 w refl h)) }
word_number scalar.Int32 w h = record { typed = refl; ranged = within_range c.I32 (of.number scalar.Int32 w) (same_range 32 true (of.number scalar.Int32 w) (number_in_range scalar.Int32 w refl h)) }
word_number scalar.Int64 w h = record { typed = refl; ranged = within_range c.I64 (of.number scalar.Int64 w) (same_range 64 true (of.number scalar.Int64 w) (number_in_range scalar.Int64 w refl h)) }
word_number scalar.Word8 w h = record { typed = refl; ranged = within_range c.U8 (pos w) (same_range 8 false (pos w) (number_in_range scalar.Word8 w refl h)) }
word_number scalar.Word16 w h = record { typed = refl; ranged = within_range c.U16 (pos w) (same_range 16 false (pos w) (number_in_range scalar.Word16 w refl h)) }
word_number scalar.Word32 w h = record { typed = refl; ranged = within_range c.U32 (pos w) (same_range 32 false (pos w) (number_in_range scalar.Word32 w refl h)) }
word_number scalar.Word64 w h = record { typed = refl; ranged = within_range c.U64 (pos w) (same_range 64 false (pos w) (number_in_range scalar.Word64 w refl h)) }

-- ---- words and numbers

small : (n : ℕ) (sign : Bool) (z : ℤ) → n ≤ 64 → IsTrue (of.in_range n sign z) → unsigned_abs z < 2 ^ 64
small n true (pos m) b h = let q = half_below m n b h in omega (arith, q)
small n true (negsuc m) b h = let q = half_below m n b h in omega (arith, q)
small n false (pos m) b h =
    let q : m < 2 ^ n = grind (arith, nat_tests, h) in
    let p : 2 ^ n ≤ 2 ^ 64 = pow_mono b in
    omega (arith, q, p)
small n false (negsuc m) b h = absurd (cc h)

same_word : (z : ℤ) → unsigned_abs z < 2 ^ 64 → unsigned_abs (int_rem_euclid z (pos (2 ^ 64))) ≡ cast_unsigned w64 z
same_word (pos m) h = let e : m % 2 ^ 64 ≡ m = omega (arith, h) in e
same_word (negsuc m) h = omega (arith, h)

word_at : (n : ℕ) (sign : Bool) (w : ℕ) → 1 ≤ n → n ≤ 64 → IsTrue (of.is_word_at n sign w) → IsTrue (of.in_range n sign (of.number_at sign w))
    → unsigned_abs (int_rem_euclid (of.number_at sign w) (pos (2 ^ 64))) ≡ w
word_at n sign w a b h g = same_word (of.number_at sign w) (small n sign (of.number_at sign w) b g) ∙ back.number_back n sign w a b h

bool_again : (w : ℕ) → IsTrue (nat_lt w 2) → w % 2 ^ 64 ≡ w
bool_again w h = let q : w < 2 = grind (arith, nat_tests, h) in omega (arith, q)

-- the number's word is the word again
pub word_again : (t : Scalar) (w : ℕ) → IsTrue (of.is_word t w) → word_of_number (num (c_scalar t) (of.number t w)) ≡ w
word_again scalar.Bool w h = bool_again w h
word_again scalar.Int8 w h = word_at 8 true w (omega arith) (omega arith) h (number_in_range scalar.Int8 w refl h)
word_again scalar.Int16 w h = word_at 16 true w (omega arith) (omega arith) h (number_in_range scalar.Int16 w refl h)
word_again scalar.Int32 w h = word_at 32 true w (omega arith) (omega arith) h (number_in_range scalar.Int32 w refl h)
word_again scalar.Int64 w h = word_at 64 true w (omega arith) (omega arith) h (number_in_range scalar.Int64 w refl h)
word_again scalar.Word8 w h = word_at 8 false w (omega arith) (omega arith) h (number_in_range scalar.Word8 w refl h)
word_again scalar.Word16 w h = word_at 16 false w (omega arith) (omega arith) h (number_in_range scalar.Word16 w refl h)
word_again scalar.Word32 w h = word_at 32 false w (omega arith) (omega arith) h (number_in_range scalar.Word32 w refl h)
word_again scalar.Word64 w h = word_at 64 false w (omega arith) (omega arith) h (number_in_range scalar.Word64 w refl h)

-- a word is one of the C type, and stands for the same number
pub c_word : (t : Scalar) (w : ℕ) → IsTrue (of.is_word t w) → is_word (c_scalar t) w ≡ true
c_word t w h =
    let x = num (c_scalar t) (of.number t w) in
    subst (λ k. is_word (c_scalar t) k ≡ true) (word_again t w h) (number_back (c_scalar t) x (word_number t w h)).0

pub c_number : (t : Scalar) (w : ℕ) → IsTrue (of.is_word t w) → number_of_word (c_scalar t) w ≡ num (c_scalar t) (of.number t w)
c_number t w h =
    let x = num (c_scalar t) (of.number t w) in
    subst (λ k. number_of_word (c_scalar t) k ≡ x) (word_again t w h) (number_back (c_scalar t) x (word_number t w h)).1

-- ---- conversion

signed_kept : (s : CScalar) (y z : ℤ) (b : Bool) → y ≡ z → b ≡ true → (if b then Ok (num s y) else Err why.BadConversion) ≡ Ok (num s z)
signed_kept s y z true e h = ap (λ k. Ok (num s k)) e
signed_kept s y z false e h = absurd (cc h)

wrapped_kept : (n : ℕ) (z : ℤ) → within n false z ≡ true → int_rem_euclid z (pos (2 ^ n)) ≡ z
wrapped_kept n (pos m) h = let q : m < 2 ^ n = grind (arith, nat_tests, h) in ap pos (mod-eq_of_lt q)
wrapped_kept n (negsuc m) h = absurd (cc h)

truth_kept : (z : ℤ) → within 1 false z ≡ true → (if int_eq z (pos 0) then pos 0 else pos 1) ≡ z
truth_kept (pos zero) h = refl
truth_kept (pos (suc zero)) h = refl
truth_kept (pos (suc (suc m))) h = let q : suc (suc m) < 2 = grind (arith, nat_tests, h) in absurd (omega (arith, q))
truth_kept (negsuc m) h = absurd (cc h)

-- a number of a type is converted to itself
pub number_kept : (s : CScalar) (x : Num) (z : ℤ) → x.n ≡ z → IsTrue (in_range s z) → converted s x ≡ Ok (num s z)
number_kept c.Bool x z e h = ap (λ k. Ok (num c.Bool (if int_eq k (pos 0) then pos 0 else pos 1))) e ∙ ap (λ k. Ok (num c.Bool k)) (truth_kept z (range_within c.Bool z h))
number_kept c.I8 x z e h = signed_kept c.I8 x.n z (holds c.I8 x.n) e (subst (λ k. holds c.I8 k ≡ true) (sym e) h)
number_kept c.I16 x z e h = signed_kept c.I16 x.n z (holds c.I16 x.n) e (subst (λ k. holds c.I16 k ≡ true) (sym e) h)
number_kept c.I32 x z e h = signed_kept c.I32 x.n z (holds c.I32 x.n) e (subst (λ k. holds c.I32 k ≡ true) (sym e) h)
number_kept c.I64 x z e h = signed_kept c.I64 x.n z (holds c.I64 x.n) e (subst (λ k. holds c.I64 k ≡ true) (sym e) h)
number_kept c.U8 x z e h = ap (λ k. Ok (num c.U8 (int_rem_euclid k (pos (2 ^ 8))))) e ∙ ap (λ k. Ok (num c.U8 k)) (wrapped_kept 8 z (range_within c.U8 z h))
number_kept c.U16 x z e h = ap (λ k. Ok (num c.U16 (int_rem_euclid k (pos (2 ^ 16))))) e ∙ ap (λ k. Ok (num c.U16 k)) (wrapped_kept 16 z (range_within c.U16 z h))
number_kept c.U32 x z e h = ap (λ k. Ok (num c.U32 (int_rem_euclid k (pos (2 ^ 32))))) e ∙ ap (λ k. Ok (num c.U32 k)) (wrapped_kept 32 z (range_within c.U32 z h))
number_kept c.U64 x z e h = ap (λ k. Ok (num c.U64 (int_rem_euclid k (pos (2 ^ 64))))) e ∙ ap (λ k. Ok (num c.U64 k)) (wrapped_kept 64 z (range_within c.U64 z h))

pub word_kept : (t : Scalar) (w : ℕ) (x : Num) → IsTrue (of.is_word t w) → x.n ≡ of.number t w → converted (c_scalar t) x ≡ Ok (num (c_scalar t) (of.number t w))
word_kept t w x h e = number_kept (c_scalar t) x (of.number t w) e (word_number t w h).ranged

-- a scalar's own type carries it
pub own_carrier : (t : Scalar) → IsCarrier t (c_scalar t)
own_carrier scalar.Bool = inl refl
own_carrier scalar.Int8 = inl refl
own_carrier scalar.Int16 = inl refl
own_carrier scalar.Int32 = refl
own_carrier scalar.Int64 = refl
own_carrier scalar.Word8 = inl refl
own_carrier scalar.Word16 = inl refl
own_carrier scalar.Word32 = refl
own_carrier scalar.Word64 = refl
