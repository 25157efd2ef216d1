-- Conversions that keep a number, and those by way of a wider type.
use Rattle.std.proofs.Common.{◌≡◌, ℕ, zero, suc, ◌+◌, ◌*◌, ◌-◌, ◌/◌, ◌%◌, ◌^◌, ◌<◌, Bool, true, false, ◌&&◌, Result, Ok, Err, refl, ap, sym, ◌∙◌, subst, arith}
use Rattle.std.specs.Prelude.{IsTrue, IfOk, ℤ, pos, negsuc, int_le, int_lt, if◌then◌else◌}
use Rattle.std.specs.Int.{int_rem_euclid}
use Rattle.std.specs.Ordering.{int_eq}
use Rattle.std.proofs.lemmas.Bool.Decides.{nat_tests}
use Rattle.std.proofs.Math.Nat.{mod-eq_of_lt}
use Rattle.std.proofs.lemmas.Nat.{pow_pos, pow-add, mod-pow-add, mod-mul-add, mod_below}
use Rattle.stream_types.specs.declared.scalar.Scalar.{Scalar}
use Rattle.stream_types.specs.declared.scalar.Scalar.TheVariants as scalar
use Rattle.stream_types.specs.declared.scalar.Hazard.{Hazard}
use Rattle.stream_types.specs.declared.scalar.Hazard.TheVariants.{Overflow}
use Rattle.stream_types.specs.Scalars as of
use Rattle.stream_types.specs.Numbers.{number, word, in_range, fit}
use Rattle.stream_types.specs.IntTyLaws.{word_back}
use Rattle.stream_types.proofs.Ranges.{fit_in_range}
use Rattle.c99_tree.specs.declared.types.CScalar.{CScalar}
use Rattle.c99_tree.specs.declared.types.CScalar.TheVariants as c
use Rattle.c99_tree.specs.declared.undefined.Undefined.{Undefined}
use Rattle.c99_tree.specs.declared.undefined.Undefined.TheVariants as why
use Rattle.c99_tree.specs.CTypes.{Num, num, bits, is_signed, usual, holds, wrapped, in_type, converted, widened}
use Rattle.c99_tree.specs.Evaluation.{at_common}
use Rattle.c99_tree.proofs.NumberRanges.{within, within_range}
use Rattle.ring_codegen.specs.CTypes.{c_scalar}
use Rattle.ring_codegen.specs.Translation.{wide}
use Rattle.ring_codegen.proofs.Carriers.{Has, wide_carries, range_within, range_has, carrier_has_in_range}

-- ---- a number that the type has

wrapped_keeps : (n : ℕ) (z : ℤ) → within n false z ≡ true → int_rem_euclid z (pos (2 ^ n)) ≡ z
wrapped_keeps n (pos m) h =
    let l : m < 2 ^ n = grind (arith, nat_tests, h) in
    ap pos (mod-eq_of_lt l)
wrapped_keeps n (negsuc m) h = absurd (cc h)

as_unsigned : (a : CScalar) (z : ℤ) → is_signed a ≡ false → Has a z → wrapped a z ≡ z
as_unsigned a z e h = wrapped_keeps (bits a) z (subst (λ (b : Bool). within (bits a) b z ≡ true) e h)

if_true : (q x y : Bool) → q ≡ true → (if q then x else y) ≡ true → x ≡ true
if_true true x y e h = h
if_true false x y e h = absurd (cc e)

as_signed : (a : CScalar) (z : ℤ) → is_signed a ≡ true → Has a z → holds a z ≡ true
as_signed a z e h = if_true (is_signed a) (holds a z) (int_le (pos 0) z && int_lt z (pos (2 ^ bits a))) e (within_range a z h)

in_type_by : (reason : Undefined) (a : CScalar) (z : ℤ) (b : Bool) → is_signed a ≡ b → Has a z
    → (if b then (if holds a z then Ok (num a z) else Err reason) else Ok (num a (wrapped a z))) ≡ Ok (num a z)
in_type_by reason a z true e h = ap (λ (k : Bool). if k then Ok (num a z) else Err reason) (as_signed a z e h)
in_type_by reason a z false e h = ap (λ (y : ℤ). Ok (num a y)) (as_unsigned a z e h)

pub in_type_keeps : (reason : Undefined) (a : CScalar) (z : ℤ) → Has a z → in_type reason a z ≡ Ok (num a z)
in_type_keeps reason a z h = in_type_by reason a z (is_signed a) refl h

bool_keeps : (z : ℤ) → within 1 false z ≡ true → (if int_eq z (pos 0) then pos 0 else pos 1) ≡ z
bool_keeps (pos zero) h = refl
bool_keeps (pos (suc zero)) h = refl
bool_keeps (pos (suc (suc m))) h = let q : suc (suc m) < 2 = grind (arith, nat_tests, h) in absurd (omega (arith, q))
bool_keeps (negsuc m) h = absurd (cc h)

pub converted_keeps : (a : CScalar) (x : Num) → Has a x.n → converted a x ≡ Ok (num a x.n)
converted_keeps c.Bool x h = ap (λ (y : ℤ). Ok (num c.Bool y)) (bool_keeps x.n h)
converted_keeps a x h = in_type_keeps why.BadConversion a x.n h

widened_by : (a : CScalar) (x : Num) (b : Bool) → is_signed a ≡ b → Has a x.n → (if b then x.n else wrapped a x.n) ≡ x.n
widened_by a x true e h = refl
widened_by a x false e h = as_unsigned a x.n e h

widened_keeps : (a : CScalar) (x : Num) → Has a x.n → widened a x ≡ x.n
widened_keeps a x h = widened_by a x (is_signed a) refl h

-- operands whose numbers the common type has
pub at_common_keeps : (f : CScalar → ℤ → ℤ → Result Num Undefined) (x y : Num) → Has (usual x.ty y.ty) x.n → Has (usual x.ty y.ty) y.n
    → at_common f x y ≡ f (usual x.ty y.ty) x.n y.n
at_common_keeps f x y h g = λ i. f (usual x.ty y.ty) (widened_keeps (usual x.ty y.ty) x h i) (widened_keeps (usual x.ty y.ty) y g i)

-- ---- words again

-- the word of a number of an integer stands for it
pub number_word : (t : Scalar) (z : ℤ) → IsTrue (of.is_integer t) → Has (c_scalar t) z → number t (word z) ≡ z
number_word scalar.Bool z i h = absurd (cc)
number_word scalar.Int8 z i h = word_back 8 true z (omega arith) (omega arith) (range_within 8 true z ∙ h)
number_word scalar.Int16 z i h = word_back 16 true z (omega arith) (omega arith) (range_within 16 true z ∙ h)
number_word scalar.Int32 z i h = word_back 32 true z (omega arith) (omega arith) (range_within 32 true z ∙ h)
number_word scalar.Int64 z i h = word_back 64 true z (omega arith) (omega arith) (range_within 64 true z ∙ h)
number_word scalar.Word8 z i h = word_back 8 false z (omega arith) (omega arith) (range_within 8 false z ∙ h)
number_word scalar.Word16 z i h = word_back 16 false z (omega arith) (omega arith) (range_within 16 false z ∙ h)
number_word scalar.Word32 z i h = word_back 32 false z (omega arith) (omega arith) (range_within 32 false z ∙ h)
number_word scalar.Word64 z i h = word_back 64 false z (omega arith) (omega arith) (range_within 64 false z ∙ h)

-- ---- a result in the wide type, and then in the scalar's own

-- p is a power of two, w another, and their product the wider modulus
complement : (p w a b r : ℕ) → p ≡ b + 1 + a → r < w → p * w - 1 - (a * w + r) ≡ b * w + (w - 1 - r)
complement p w a b r e l = subst (λ k. k * w - 1 - (a * w + r) ≡ b * w + (w - 1 - r)) (sym e) (omega (arith, l))

-- the remainder by a power of two is that of the remainder by a greater one
rem_rem : (j n : ℕ) (z : ℤ) → int_rem_euclid (int_rem_euclid z (pos (2 ^ (j + n)))) (pos (2 ^ n)) ≡ int_rem_euclid z (pos (2 ^ n))
rem_rem j n (pos a) =
    let l : a % 2 ^ n < 2 ^ n = mod_below a (2 ^ n) (pow_pos n) in
    ap pos (ap (λ k. k % 2 ^ n) (mod-pow-add a j n) ∙ mod-mul-add (a / 2 ^ n % 2 ^ j) (2 ^ n) (a % 2 ^ n) l)
rem_rem j n (negsuc a) =
    let l : a % 2 ^ n < 2 ^ n = mod_below a (2 ^ n) (pow_pos n) in
    let h : a / 2 ^ n % 2 ^ j < 2 ^ j = mod_below (a / 2 ^ n) (2 ^ j) (pow_pos j) in
    let b : ℕ = 2 ^ j - 1 - a / 2 ^ n % 2 ^ j in
    let e : 2 ^ j ≡ b + 1 + a / 2 ^ n % 2 ^ j = omega (arith, h) in
    let r : 2 ^ n - 1 - a % 2 ^ n < 2 ^ n = omega (arith, l) in
    let q : 2 ^ (j + n) - 1 - a % 2 ^ (j + n) ≡ b * 2 ^ n + (2 ^ n - 1 - a % 2 ^ n) =
    (λ i. pow-add 2 j n i - 1 - mod-pow-add a j n i) ∙ complement (2 ^ j) (2 ^ n) (a / 2 ^ n % 2 ^ j) b (a % 2 ^ n) e l in
    ap pos (ap (λ k. k % 2 ^ n) q ∙ mod-mul-add b (2 ^ n) (2 ^ n - 1 - a % 2 ^ n) r)

exact_by : (b : Bool) (z y : ℤ) → (if b then Ok z else Err Overflow) ≡ Ok y → z ≡ y
exact_by true z y h = cc h
exact_by false z y h = absurd (cc h)

pub fit_exact : (n : ℕ) (z y : ℤ) → fit n true z ≡ Ok y → z ≡ y
fit_exact n z y h = exact_by (in_range n true z) z y h

-- what a table answers is a number of the scalar's type
pub fit_has : (t : Scalar) (z y : ℤ) → IsTrue (of.is_integer t) → fit (of.bits t) (of.signed t) z ≡ Ok y → Has (c_scalar t) y
fit_has t z y i h =
    range_has t y i
    (subst (λ (r : Result ℤ Hazard). IfOk r (λ (v : ℤ). IsTrue (in_range (of.bits t) (of.signed t) v))) h (fit_in_range (of.bits t) (of.signed t) z))

-- z is defined in the wide type, and gives y when it is converted to the scalar's own
pub record Narrows (t : Scalar) (reason : Undefined) (z y : ℤ) : Type 0 where
  pub wider : ℤ
  pub is : in_type reason (wide t) z ≡ Ok (num (wide t) wider)
  pub back : converted (c_scalar t) (num (wide t) wider) ≡ Ok (num (c_scalar t) y)

signed_narrows : (t : Scalar) (reason : Undefined) (z y : ℤ) → Has (c_scalar t) y → z ≡ y → Narrows t reason z y
signed_narrows t reason z y h e = record {
  wider = y;
  is = ap (in_type reason (wide t)) e ∙ in_type_keeps reason (wide t) y (carrier_has_in_range t (wide t) y (wide_carries t) h);
  back = converted_keeps (c_scalar t) (num (wide t) y) h;
}

pub narrows : (t : Scalar) (reason : Undefined) (z y : ℤ) → IsTrue (of.is_integer t) → fit (of.bits t) (of.signed t) z ≡ Ok y → Narrows t reason z y
narrows scalar.Bool reason z y i h = absurd (cc)
narrows scalar.Int8 reason z y i h = signed_narrows scalar.Int8 reason z y (fit_has scalar.Int8 z y i h) (fit_exact 8 z y h)
narrows scalar.Int16 reason z y i h = signed_narrows scalar.Int16 reason z y (fit_has scalar.Int16 z y i h) (fit_exact 16 z y h)
narrows scalar.Int32 reason z y i h = signed_narrows scalar.Int32 reason z y (fit_has scalar.Int32 z y i h) (fit_exact 32 z y h)
narrows scalar.Int64 reason z y i h = signed_narrows scalar.Int64 reason z y (fit_has scalar.Int64 z y i h) (fit_exact 64 z y h)
narrows scalar.Word8 reason z y i h =
    let q : int_rem_euclid z (pos (2 ^ 8)) ≡ y = cc h in
    record { wider = wrapped c.U32 z; is = refl; back = ap (λ (v : ℤ). Ok (num c.U8 v)) (rem_rem 24 8 z ∙ q) }
narrows scalar.Word16 reason z y i h =
    let q : int_rem_euclid z (pos (2 ^ 16)) ≡ y = cc h in
    record { wider = wrapped c.U32 z; is = refl; back = ap (λ (v : ℤ). Ok (num c.U16 v)) (rem_rem 16 16 z ∙ q) }
narrows scalar.Word32 reason z y i h =
    let q : int_rem_euclid z (pos (2 ^ 32)) ≡ y = cc h in
    record { wider = wrapped c.U32 z; is = refl; back = ap (λ (v : ℤ). Ok (num c.U32 v)) (rem_rem 0 32 z ∙ q) }
narrows scalar.Word64 reason z y i h =
    let q : int_rem_euclid z (pos (2 ^ 64)) ≡ y = cc h in
    record { wider = wrapped c.U64 z; is = refl; back = ap (λ (v : ℤ). Ok (num c.U64 v)) (rem_rem 0 64 z ∙ q) }
