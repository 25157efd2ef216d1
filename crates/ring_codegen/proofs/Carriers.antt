-- The types that carry a scalar have each of its numbers, and the common type of two of them is one again.
use Rattle.std.proofs.Common.{◌≡◌, ℕ, zero, suc, Bool, true, false, ◌||◌, List, [], ◌∷◌, Some, inl, inr, refl, ap, sym, ◌∙◌}
use Rattle.std.specs.Prelude.{IsTrue, ℤ, pos, negsuc, slice_get}
use Rattle.std.specs.List.{list_all}
use Rattle.stream_types.specs.declared.scalar.Scalar.{Scalar}
use Rattle.stream_types.specs.declared.scalar.Scalar.TheVariants as scalar
use Rattle.stream_types.specs.Scalars as of
use Rattle.stream_types.specs.Numbers.{number, in_range, is_word}
use Rattle.stream_types.proofs.Ranges.{number_in_range}
use Rattle.c99_tree.specs.declared.types.CScalar.{CScalar}
use Rattle.c99_tree.specs.declared.types.CScalar.TheVariants as c
use Rattle.c99_tree.specs.CTypes.{bits, is_signed, usual}
use Rattle.c99_tree.specs.Typing.{is_same_scalar}
use Rattle.c99_tree.proofs.NumberRanges.{within, inside, inside_within}
use Rattle.sm_io.proofs.Truths.{left_passes, right_passes}
use Rattle.ring_codegen.specs.CTypes.{c_scalar}
use Rattle.ring_codegen.specs.Translation.{wide}
use Rattle.ring_codegen.specs.Carried.{IsCarrier}

-- the type has this number
abbrev pub Has : CScalar → ℤ → Type 0
Has t z = within (bits t) (is_signed t) z ≡ true

abbrev carriers : Scalar → List CScalar
carriers scalar.Bool = c.Bool ∷ c.I32 ∷ []
carriers scalar.Int8 = c.I8 ∷ c.I32 ∷ []
carriers scalar.Int16 = c.I16 ∷ c.I32 ∷ []
carriers scalar.Int32 = c.I32 ∷ []
carriers scalar.Int64 = c.I64 ∷ []
carriers scalar.Word8 = c.U8 ∷ c.I32 ∷ c.U32 ∷ []
carriers scalar.Word16 = c.U16 ∷ c.I32 ∷ c.U32 ∷ []
carriers scalar.Word32 = c.U32 ∷ []
carriers scalar.Word64 = c.U64 ∷ []

passed_at : (p : CScalar → Bool) (xs : List CScalar) (k : ℕ) (x : CScalar) → list_all p xs ≡ true → slice_get xs k ≡ Some x → p x ≡ true
passed_at p [] k x h e = absurd (cc e)
passed_at p (y ∷ ys) zero x h e = let same : y ≡ x = cc e in rw (← same) (left_passes (p y) (list_all p ys) h)
passed_at p (y ∷ ys) (suc k) x h e = passed_at p ys k x (right_passes (p y) (list_all p ys) h) e

-- a test that each carrier of a scalar passes
each_carrier : (p : CScalar → Bool) (t : Scalar) (a : CScalar) → list_all p (carriers t) ≡ true → IsCarrier t a → p a ≡ true
each_carrier p scalar.Bool a h (inl e) = passed_at p (carriers scalar.Bool) 0 a h (ap Some (sym e))
each_carrier p scalar.Bool a h (inr e) = passed_at p (carriers scalar.Bool) 1 a h (ap Some (sym e))
each_carrier p scalar.Int8 a h (inl e) = passed_at p (carriers scalar.Int8) 0 a h (ap Some (sym e))
each_carrier p scalar.Int8 a h (inr e) = passed_at p (carriers scalar.Int8) 1 a h (ap Some (sym e))
each_carrier p scalar.Int16 a h (inl e) = passed_at p (carriers scalar.Int16) 0 a h (ap Some (sym e))
each_carrier p scalar.Int16 a h (inr e) = passed_at p (carriers scalar.Int16) 1 a h (ap Some (sym e))
each_carrier p scalar.Int32 a h e = passed_at p (carriers scalar.Int32) 0 a h (ap Some (sym e))
each_carrier p scalar.Int64 a h e = passed_at p (carriers scalar.Int64) 0 a h (ap Some (sym e))
each_carrier p scalar.Word8 a h (inl e) = passed_at p (carriers scalar.Word8) 0 a h (ap Some (sym e))
each_carrier p scalar.Word8 a h (inr (inl e)) = passed_at p (carriers scalar.Word8) 1 a h (ap Some (sym e))
each_carrier p scalar.Word8 a h (inr (inr e)) = passed_at p (carriers scalar.Word8) 2 a h (ap Some (sym e))
each_carrier p scalar.Word16 a h (inl e) = passed_at p (carriers scalar.Word16) 0 a h (ap Some (sym e))
each_carrier p scalar.Word16 a h (inr (inl e)) = passed_at p (carriers scalar.Word16) 1 a h (ap Some (sym e))
each_carrier p scalar.Word16 a h (inr (inr e)) = passed_at p (carriers scalar.Word16) 2 a h (ap Some (sym e))
each_carrier p scalar.Word32 a h e = passed_at p (carriers scalar.Word32) 0 a h (ap Some (sym e))
each_carrier p scalar.Word64 a h e = passed_at p (carriers scalar.Word64) 0 a h (ap Some (sym e))

-- ---- a carrier by a test

abbrev carries : Scalar → CScalar → Bool
carries scalar.Bool a = is_same_scalar a c.I32
carries scalar.Int8 a = is_same_scalar a c.I32
carries scalar.Int16 a = is_same_scalar a c.I32
carries scalar.Int32 a = is_same_scalar a c.I32
carries scalar.Int64 a = is_same_scalar a c.I64
carries scalar.Word8 a = is_same_scalar a c.I32 || is_same_scalar a c.U32
carries scalar.Word16 a = is_same_scalar a c.I32 || is_same_scalar a c.U32
carries scalar.Word32 a = is_same_scalar a c.U32
carries scalar.Word64 a = is_same_scalar a c.U64

carried : (t : Scalar) (a : CScalar) → carries t a ≡ true → IsCarrier t a
carried scalar.Bool c.I32 h = inr refl
carried scalar.Bool _ h = absurd (cc h)
carried scalar.Int8 c.I32 h = inr refl
carried scalar.Int8 _ h = absurd (cc h)
carried scalar.Int16 c.I32 h = inr refl
carried scalar.Int16 _ h = absurd (cc h)
carried scalar.Int32 c.I32 h = refl
carried scalar.Int32 _ h = absurd (cc h)
carried scalar.Int64 c.I64 h = refl
carried scalar.Int64 _ h = absurd (cc h)
carried scalar.Word8 c.I32 h = inr (inl refl)
carried scalar.Word8 c.U32 h = inr (inr refl)
carried scalar.Word8 _ h = absurd (cc h)
carried scalar.Word16 c.I32 h = inr (inl refl)
carried scalar.Word16 c.U32 h = inr (inr refl)
carried scalar.Word16 _ h = absurd (cc h)
carried scalar.Word32 c.U32 h = refl
carried scalar.Word32 _ h = absurd (cc h)
carried scalar.Word64 c.U64 h = refl
carried scalar.Word64 _ h = absurd (cc h)

usual_pairs : (t : Scalar) → list_all (λ a. list_all (λ b. carries t (usual a b)) (carriers t)) (carriers t) ≡ true
usual_pairs scalar.Bool = refl
usual_pairs scalar.Int8 = refl
usual_pairs scalar.Int16 = refl
usual_pairs scalar.Int32 = refl
usual_pairs scalar.Int64 = refl
usual_pairs scalar.Word8 = refl
usual_pairs scalar.Word16 = refl
usual_pairs scalar.Word32 = refl
usual_pairs scalar.Word64 = refl

-- the common type of two carriers carries the scalar
pub usual_carries : (t : Scalar) (a b : CScalar) → IsCarrier t a → IsCarrier t b → IsCarrier t (usual a b)
usual_carries t a b h g =
    carried t (usual a b)
    (each_carrier (λ y. carries t (usual a y)) t b (each_carrier (λ x. list_all (λ y. carries t (usual x y)) (carriers t)) t a (usual_pairs t) h) g)

pub wide_carries : (t : Scalar) → IsCarrier t (wide t)
wide_carries scalar.Bool = inr refl
wide_carries scalar.Int8 = inr refl
wide_carries scalar.Int16 = inr refl
wide_carries scalar.Int32 = refl
wide_carries scalar.Int64 = refl
wide_carries scalar.Word8 = inr (inr refl)
wide_carries scalar.Word16 = inr (inr refl)
wide_carries scalar.Word32 = refl
wide_carries scalar.Word64 = refl

pub scalar_carries : (t : Scalar) → IsCarrier t (c_scalar t)
scalar_carries scalar.Bool = inl refl
scalar_carries scalar.Int8 = inl refl
scalar_carries scalar.Int16 = inl refl
scalar_carries scalar.Int32 = refl
scalar_carries scalar.Int64 = refl
scalar_carries scalar.Word8 = inl refl
scalar_carries scalar.Word16 = inl refl
scalar_carries scalar.Word32 = refl
scalar_carries scalar.Word64 = refl

-- ---- what a carrier has

inside_carriers : (t : Scalar) → list_all (inside (c_scalar t)) (carriers t) ≡ true
inside_carriers scalar.Bool = refl
inside_carriers scalar.Int8 = refl
inside_carriers scalar.Int16 = refl
inside_carriers scalar.Int32 = refl
inside_carriers scalar.Int64 = refl
inside_carriers scalar.Word8 = refl
inside_carriers scalar.Word16 = refl
inside_carriers scalar.Word32 = refl
inside_carriers scalar.Word64 = refl

-- the ranges of specifications and of C are one
pub range_within : (n : ℕ) (sign : Bool) (z : ℤ) → in_range n sign z ≡ within n sign z
range_within n true (pos m) = refl
range_within n true (negsuc m) = refl
range_within n false (pos m) = refl
range_within n false (negsuc m) = refl

-- a number in the range of an integer's bits and sign is one of its type
pub range_has : (t : Scalar) (z : ℤ) → IsTrue (of.is_integer t) → IsTrue (in_range (of.bits t) (of.signed t) z) → Has (c_scalar t) z
range_has scalar.Bool z i h = absurd (cc)
range_has scalar.Int8 z i h = sym (range_within 8 true z) ∙ h
range_has scalar.Int16 z i h = sym (range_within 16 true z) ∙ h
range_has scalar.Int32 z i h = sym (range_within 32 true z) ∙ h
range_has scalar.Int64 z i h = sym (range_within 64 true z) ∙ h
range_has scalar.Word8 z i h = sym (range_within 8 false z) ∙ h
range_has scalar.Word16 z i h = sym (range_within 16 false z) ∙ h
range_has scalar.Word32 z i h = sym (range_within 32 false z) ∙ h
range_has scalar.Word64 z i h = sym (range_within 64 false z) ∙ h

pub carrier_has_in_range : (t : Scalar) (a : CScalar) (z : ℤ) → IsCarrier t a → Has (c_scalar t) z → Has a z
carrier_has_in_range t a z h g = inside_within (c_scalar t) a z (each_carrier (inside (c_scalar t)) t a (inside_carriers t) h) g

word_has : (t : Scalar) (w : ℕ) → IsTrue (is_word t w) → Has (c_scalar t) (number t w)
word_has scalar.Bool w h = h
word_has scalar.Int8 w h = range_has scalar.Int8 (number scalar.Int8 w) refl (number_in_range scalar.Int8 w refl h)
word_has scalar.Int16 w h = range_has scalar.Int16 (number scalar.Int16 w) refl (number_in_range scalar.Int16 w refl h)
word_has scalar.Int32 w h = range_has scalar.Int32 (number scalar.Int32 w) refl (number_in_range scalar.Int32 w refl h)
word_has scalar.Int64 w h = range_has scalar.Int64 (number scalar.Int64 w) refl (number_in_range scalar.Int64 w refl h)
word_has scalar.Word8 w h = range_has scalar.Word8 (number scalar.Word8 w) refl (number_in_range scalar.Word8 w refl h)
word_has scalar.Word16 w h = range_has scalar.Word16 (number scalar.Word16 w) refl (number_in_range scalar.Word16 w refl h)
word_has scalar.Word32 w h = range_has scalar.Word32 (number scalar.Word32 w) refl (number_in_range scalar.Word32 w refl h)
word_has scalar.Word64 w h = range_has scalar.Word64 (number scalar.Word64 w) refl (number_in_range scalar.Word64 w refl h)

-- a carrier has the number of each word
pub carrier_has : (t : Scalar) (a : CScalar) (w : ℕ) → IsCarrier t a → IsTrue (is_word t w) → Has a (number t w)
carrier_has t a w h g = carrier_has_in_range t a (number t w) h (word_has t w g)
