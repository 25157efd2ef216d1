-- The translation of an operator on numbers gives the word that the operator answers.
use Rattle.std.proofs.Common.{◌≡◌, ℕ, suc, ◌-◌, ◌/◌, ◌^◌, ◌<◌, ◌≤◌, Bool, true, false, not, ◌&&◌, ◌||◌, None, Result, Ok, Err, refl, ap, sym, ◌∙◌, arith}
use Rattle.std.specs.Prelude.{IsTrue, ℤ, pos, negsuc, nat_lt, if◌then◌else◌, ◌+ℤ◌, ◌-ℤ◌, ◌*ℤ◌, int_lt, int_le, int_div, int_rem, unsigned_abs, bit_and, bit_or, bit_xor}
use Rattle.std.specs.Ordering.{int_eq}
use Rattle.std.proofs.lemmas.Bool.Decides.{nat_tests, Decides-int_eq}
use Rattle.std.proofs.lemmas.Nat.{pow_pos}
use Rattle.stream_types.specs.declared.scalar.Scalar.{Scalar}
use Rattle.stream_types.specs.declared.scalar.Scalar.TheVariants as scalar
use Rattle.stream_types.specs.declared.scalar.Hazard.{Hazard}
use Rattle.stream_types.specs.declared.scalar.Hazard.TheVariants as hazard
use Rattle.stream_types.specs.declared.scalar.Op1.{Op1}
use Rattle.stream_types.specs.declared.scalar.Op1.TheVariants as op1
use Rattle.stream_types.specs.declared.scalar.Op2.{Op2}
use Rattle.stream_types.specs.declared.scalar.Op2.TheVariants as op2
use Rattle.stream_types.specs.declared.scalar.Dir.{Dir}
use Rattle.stream_types.specs.declared.scalar.Dir.TheVariants as dir
use Rattle.stream_types.specs.Scalars.{is_integer, op1_fits, op2_fits, op2_gives, shift_fits}
use Rattle.stream_types.specs.Scalars as of
use Rattle.stream_types.specs.Numbers.{number, word, is_word, as_word, of_test, in_range, fit, to_twos, from_twos, bad_shift, op1_word, op2_word, shift_word}
use Rattle.stream_types.specs.Numbers as table
use Rattle.c99_tree.specs.declared.expr.CExpr.{CExpr}
use Rattle.c99_tree.specs.declared.expr.CExpr.TheVariants as e
use Rattle.c99_tree.specs.declared.expr.CUn.TheVariants as un
use Rattle.c99_tree.specs.declared.expr.CBin.{CBin}
use Rattle.c99_tree.specs.declared.expr.CBin.TheVariants as o
use Rattle.c99_tree.specs.declared.types.CScalar.{CScalar}
use Rattle.c99_tree.specs.declared.types.CScalar.TheVariants as c
use Rattle.c99_tree.specs.declared.undefined.Undefined.{Undefined}
use Rattle.c99_tree.specs.declared.undefined.Undefined.TheVariants as why
use Rattle.c99_tree.specs.declared.unit.Unit.{Unit as CUnit}
use Rattle.c99_tree.specs.CTypes.{Num, num, bits, is_signed, promoted, usual, in_type, truth, converted}
use Rattle.c99_tree.specs.Typing.{binary_type}
use Rattle.c99_tree.specs.Evaluation.{Statics, binary, at_common, by_bits, bits_of, of_bits, divided, is_bad_shift, shifted_left, shifted_right, decided_at}
use Rattle.c99_tree.proofs.NumberRanges.{within, rem_within, shift_within}
use Rattle.sm_io.proofs.Truths.{left_passes}
use Rattle.ring_codegen.specs.CTypes.{c_scalar}
use Rattle.ring_codegen.specs.Translation.{wide, arithmetic, shifted}
use Rattle.ring_codegen.specs.Translation as translation
use Rattle.ring_codegen.specs.Carried.{IsCarrier, GivesWord}
use Rattle.ring_codegen.proofs.Carriers.{Has, usual_carries, wide_carries, scalar_carries, range_has, carrier_has_in_range, carrier_has}
use Rattle.ring_codegen.proofs.Conversions.{converted_keeps, at_common_keeps, fit_has, narrows}
use Rattle.ring_codegen.proofs.TwosBits.{IsBitwise, and_is, or_is, xor_is, differ, bits_agree, bits_have, complement_fits}
use Rattle.ring_codegen.proofs.Yielding.{Yields, un_yields, cast_yields, bin_yields}
use Rattle.ring_codegen.proofs.OperatorWords.{yields, value_has, gives_number, gives_truth, truth_int, answers, same_number, at_one, not_gives}

-- ---- the wide type

wide_usual : (t : Scalar) → usual (wide t) (wide t) ≡ wide t
wide_usual scalar.Bool = refl
wide_usual scalar.Int8 = refl
wide_usual scalar.Int16 = refl
wide_usual scalar.Int32 = refl
wide_usual scalar.Int64 = refl
wide_usual scalar.Word8 = refl
wide_usual scalar.Word16 = refl
wide_usual scalar.Word32 = refl
wide_usual scalar.Word64 = refl

wide_promoted : (t : Scalar) → promoted (wide t) ≡ wide t
wide_promoted scalar.Bool = refl
wide_promoted scalar.Int8 = refl
wide_promoted scalar.Int16 = refl
wide_promoted scalar.Int32 = refl
wide_promoted scalar.Int64 = refl
wide_promoted scalar.Word8 = refl
wide_promoted scalar.Word16 = refl
wide_promoted scalar.Word32 = refl
wide_promoted scalar.Word64 = refl

wide_bits : (t : Scalar) → of.bits t ≤ bits (wide t)
wide_bits scalar.Bool = omega arith
wide_bits scalar.Int8 = omega arith
wide_bits scalar.Int16 = omega arith
wide_bits scalar.Int32 = omega arith
wide_bits scalar.Int64 = omega arith
wide_bits scalar.Word8 = omega arith
wide_bits scalar.Word16 = omega arith
wide_bits scalar.Word32 = omega arith
wide_bits scalar.Word64 = omega arith

-- two operands, which are words of a scalar and give them
record Operands (u : CUnit) (s : Statics) (t : Scalar) (a b : CExpr) (x y : ℕ) : Type 0 where
  pub first_word : IsTrue (is_word t x)
  pub second_word : IsTrue (is_word t y)
  pub first : GivesWord u s a t x
  pub second : GivesWord u s b t y

wide_has : (t : Scalar) (x : ℕ) → IsTrue (is_word t x) → Has (wide t) (number t x)
wide_has t x h = carrier_has t (wide t) x (wide_carries t) h

own_has : (t : Scalar) (x : ℕ) → IsTrue (is_word t x) → Has (c_scalar t) (number t x)
own_has t x h = carrier_has t (c_scalar t) x (scalar_carries t) h

-- an operand, converted to the wide type, keeps its number
wide_yields : (u : CUnit) (s : Statics) (t : Scalar) (a : CExpr) (x : ℕ) → IsTrue (is_word t x) → GivesWord u s a t x
    → Yields u s (e.Cast (wide t) a) (num (wide t) (number t x))
wide_yields u s t a x h g = cast_yields u s (wide t) a g.value (number t x) (yields u s a t x g) (same_number u s a t x (wide t) (wide_carries t) h g)

-- an operator at the wide type, whose result v is converted to z
arithmetic_gives : (u : CUnit) (s : Statics) (op : CBin) (t : Scalar) (a b : CExpr) (x y w : ℕ) (v z : ℤ) → decided_at op ≡ None
    → binary_type op (wide t) (wide t) ≡ wide t
    → IsTrue (is_integer t) → Operands u s t a b x y → binary op (num (wide t) (number t x)) (num (wide t) (number t y)) ≡ Ok (num (wide t) v)
    → converted (c_scalar t) (num (wide t) v) ≡ Ok (num (c_scalar t) z) → Has (c_scalar t) z → word z ≡ w → GivesWord u s (arithmetic op t a b) t w
arithmetic_gives u s op t a b x y w v z d k i p r c h q =
    gives_number u s (arithmetic op t a b) t z w i h
    (cast_yields u s (c_scalar t) (e.Bin op (e.Cast (wide t) a) (e.Cast (wide t) b)) (num (wide t) v) z
    (bin_yields u s op (e.Cast (wide t) a) (e.Cast (wide t) b) (num (wide t) (number t x)) (num (wide t) (number t y)) (num (wide t) v) d
    (wide_yields u s t a x p.first_word p.first) (wide_yields u s t b y p.second_word p.second) r (sym k)) c)
    q

-- an operator on two numbers at the wide type
at_wide : (t : Scalar) (x y : ℕ) (f : CScalar → ℤ → ℤ → Result Num Undefined) → IsTrue (is_word t x) → IsTrue (is_word t y)
    → at_common f (num (wide t) (number t x)) (num (wide t) (number t y)) ≡ f (wide t) (number t x) (number t y)
at_wide t x y f h g = at_one (wide_usual t) f (number t x) (number t y) (wide_has t x h) (wide_has t y g)

-- ---- sums, differences and products

exact_gives : (u : CUnit) (s : Statics) (f : ℤ → ℤ → ℤ) (op : CBin) (t : Scalar) (a b : CExpr) (x y w : ℕ) → decided_at op ≡ None
    → binary_type op (wide t) (wide t) ≡ usual (wide t) (wide t)
    → ((v z : Num) → binary op v z ≡ at_common (λ r m n. in_type why.Overflow r (f m n)) v z) → IsTrue (is_integer t) → Operands u s t a b x y
    → as_word (fit (of.bits t) (of.signed t) (f (number t x) (number t y))) ≡ Ok w → GivesWord u s (arithmetic op t a b) t w
exact_gives u s f op t a b x y w d k is i p h =
    let z : ℤ = f (number t x) (number t y) in
    let r = answers (fit (of.bits t) (of.signed t) z) w h in
    let n = narrows t why.Overflow z r.z i r.is in
    arithmetic_gives u s op t a b x y w n.wider r.z d (k ∙ wide_usual t) i p
    (is (num (wide t) (number t x)) (num (wide t) (number t y)) ∙ at_wide t x y (λ r m n. in_type why.Overflow r (f m n)) p.first_word p.second_word ∙ n.is)
    n.back (fit_has t z r.z i r.is) r.word_is

-- ---- quotients and remainders

choice_says : (c d : Bool) (v z : ℤ) → (if c then Err hazard.ZeroDivisor else if d then Ok v else Err hazard.Overflow) ≡ Ok z
    → (c ≡ false) × (d ≡ true) × (v ≡ z)
choice_says true d v z h = absurd (cc h)
choice_says false true v z h = (refl, refl, cc h)
choice_says false false v z h = absurd (cc h)

not_zero : (q : ℤ) → table.is_zero q ≡ false → int_eq q (pos 0) ≡ false
not_zero q h = by (int_eq q (pos 0)) refl
  where
    by : (b : Bool) → int_eq q (pos 0) ≡ b → b ≡ false
    by false e = refl
    by true e =
        let z : q ≡ pos 0 = (Decides-int_eq q (pos 0)).0 e in
        let t : true ≡ false = sym (ap table.is_zero z) ∙ h in
        absurd (cc t)

least_over : (p : ℕ) → 0 < p → nat_lt (suc (p - 1) / 1) p ≡ true → ⊥
least_over p h t = let l : suc (p - 1) / 1 < p = grind (arith, nat_tests, t) in omega (arith, l, h)

-- a quotient in range isn't that of the least number by -1
not_over : (n : ℕ) (sign : Bool) (p q : ℤ) → within n sign (int_div p q) ≡ true → (sign && int_eq q (negsuc 0) && int_eq p (negsuc (2 ^ (n - 1) - 1))) ≡ false
not_over n false p q h = refl
not_over n true p q h = by (int_eq q (negsuc 0)) (int_eq p (negsuc (2 ^ (n - 1) - 1))) refl refl
  where
    by : (b d : Bool) → int_eq q (negsuc 0) ≡ b → int_eq p (negsuc (2 ^ (n - 1) - 1)) ≡ d → (b && d) ≡ false
    by false d f g = refl
    by true false f g = refl
    by true true f g =
        let a : q ≡ negsuc 0 = (Decides-int_eq q (negsuc 0)).0 f in
        let l : p ≡ negsuc (2 ^ (n - 1) - 1) = (Decides-int_eq p (negsuc (2 ^ (n - 1) - 1))).0 g in
        let same : within n true (int_div p q) ≡ within n true (int_div (negsuc (2 ^ (n - 1) - 1)) (negsuc 0)) = λ i. within n true (int_div (l i) (a i)) in
        absurd (least_over (2 ^ (n - 1)) (pow_pos (n - 1)) (sym same ∙ h))

-- neither test for what is undefined passes
divided_is : (f : ℤ → ℤ → ℤ) (r : CScalar) (p q : ℤ) → int_eq q (pos 0) ≡ false → Has r (int_div p q) → divided f r p q ≡ Ok (num r (f p q))
divided_is f r p q z h =
    let over : Bool = is_signed r && int_eq q (negsuc 0) && int_eq p (negsuc (2 ^ (bits r - 1) - 1)) in
    ap (λ (b : Bool). if b then Err why.ZeroDivisor else (if over then Err why.Overflow else Ok (num r (f p q)))) z
    ∙ ap (λ (b : Bool). if b then Err why.Overflow else Ok (num r (f p q))) (not_over (bits r) (is_signed r) p q h)

-- a quotient, or what it leaves over
divided_gives : (u : CUnit) (s : Statics) (f : ℤ → ℤ → ℤ) (op : CBin) (t : Scalar) (a b : CExpr) (x y w : ℕ) → decided_at op ≡ None
    → binary_type op (wide t) (wide t) ≡ usual (wide t) (wide t)
    → ((v z : Num) → binary op v z ≡ at_common (divided f) v z) → IsTrue (is_integer t) → Operands u s t a b x y
    → int_eq (number t y) (pos 0) ≡ false → Has (c_scalar t) (int_div (number t x) (number t y)) → Has (c_scalar t) (f (number t x) (number t y))
    → word (f (number t x) (number t y)) ≡ w
    → GivesWord u s (arithmetic op t a b) t w
divided_gives u s f op t a b x y w d k is i p n l h q =
    let z : ℤ = f (number t x) (number t y) in
    arithmetic_gives u s op t a b x y w z z d (k ∙ wide_usual t) i p
    (is (num (wide t) (number t x)) (num (wide t) (number t y)) ∙ at_wide t x y (divided f) p.first_word p.second_word
    ∙ divided_is f (wide t) (number t x) (number t y) n (carrier_has_in_range t (wide t) (int_div (number t x) (number t y)) (wide_carries t) l))
    (converted_keeps (c_scalar t) (num (wide t) z) h) h q

quotient_gives : (u : CUnit) (s : Statics) (t : Scalar) (a b : CExpr) (x y w : ℕ) → IsTrue (is_integer t) → Operands u s t a b x y
    → op2_word op2.Quot t x y ≡ Ok w → GivesWord u s (arithmetic o.Div t a b) t w
quotient_gives u s t a b x y w i p h =
    let r = answers (table.quotient (of.bits t) (of.signed t) (number t x) (number t y)) w h in
    let d : ℤ = int_div (number t x) (number t y) in
    let n = choice_says (table.is_zero (number t y)) (in_range (of.bits t) (of.signed t) d) d r.z r.is in
    let l = range_has t d i n.1 in
    divided_gives u s int_div o.Div t a b x y w refl refl (λ v z. refl) i p (not_zero (number t y) n.0) l l (ap word n.2 ∙ r.word_is)

remainder_gives : (u : CUnit) (s : Statics) (t : Scalar) (a b : CExpr) (x y w : ℕ) → IsTrue (is_integer t) → Operands u s t a b x y
    → op2_word op2.Rem t x y ≡ Ok w → GivesWord u s (arithmetic o.Rem t a b) t w
remainder_gives u s t a b x y w i p h =
    let r = answers (table.remainder (of.bits t) (of.signed t) (number t x) (number t y)) w h in
    let d : ℤ = int_div (number t x) (number t y) in
    let n = choice_says (table.is_zero (number t y)) (in_range (of.bits t) (of.signed t) d) (int_rem (number t x) (number t y)) r.z r.is in
    let l = range_has t d i n.1 in
    let z = not_zero (number t y) n.0 in
    let m = rem_within (bits (c_scalar t)) (is_signed (c_scalar t)) (number t x) (number t y) (own_has t x p.first_word) (own_has t y p.second_word) z in
    divided_gives u s int_rem o.Rem t a b x y w refl refl (λ v z. refl) i p z l m (ap word n.2 ∙ r.word_is)

-- ---- bits

bitwise_gives : (u : CUnit) (s : Statics) (f : ℕ → ℕ → ℕ) (g : Bool → Bool → Bool) → IsBitwise f g → (op : CBin) (t : Scalar) (a b : CExpr) (x y w : ℕ)
    → decided_at op ≡ None
    → binary_type op (wide t) (wide t) ≡ usual (wide t) (wide t) → ((v z : Num) → binary op v z ≡ at_common (by_bits f) v z) → IsTrue (is_integer t)
    → Operands u s t a b x y
    → word (from_twos (of.bits t) (of.signed t) (f (to_twos (of.bits t) (number t x)) (to_twos (of.bits t) (number t y)))) ≡ w
    → GivesWord u s (arithmetic op t a b) t w
bitwise_gives u s f g bs op t a b x y w d k is i p h =
    let v : ℤ = of_bits (wide t) (f (bits_of (wide t) (number t x)) (bits_of (wide t) (number t y))) in
    let z : ℤ = from_twos (of.bits t) (of.signed t) (f (to_twos (of.bits t) (number t x)) (to_twos (of.bits t) (number t y))) in
    let same : v ≡ z = bits_agree f g bs t (number t x) (number t y) i (own_has t x p.first_word) (own_has t y p.second_word) in
    let has = bits_have f g bs t (number t x) (number t y) i in
    arithmetic_gives u s op t a b x y w v z d (k ∙ wide_usual t) i p
    (is (num (wide t) (number t x)) (num (wide t) (number t y)) ∙ at_wide t x y (by_bits f) p.first_word p.second_word)
    (ap (λ (n : ℤ). converted (c_scalar t) (num (wide t) n)) same ∙ converted_keeps (c_scalar t) (num (wide t) z) has) has h

complement_gives : (u : CUnit) (s : Statics) (t : Scalar) (a : CExpr) (x : ℕ) → IsTrue (is_integer t) → IsTrue (is_word t x) → GivesWord u s a t x
    → GivesWord u s (translation.unary op1.BitNot t a) t (op1_word op1.BitNot t x)
complement_gives u s t a x i h g =
    let z : ℤ = from_twos (of.bits t) (of.signed t) (2 ^ of.bits t - 1 - to_twos (of.bits t) (number t x)) in
    let f = complement_fits t (number t x) i (own_has t x h) in
    let n = narrows t why.Overflow (pos 0 -ℤ number t x -ℤ pos 1) z i f in
    gives_number u s (translation.unary op1.BitNot t a) t z (op1_word op1.BitNot t x) i (fit_has t (pos 0 -ℤ number t x -ℤ pos 1) z i f)
    (cast_yields u s (c_scalar t) (e.Un un.BitNot (e.Cast (wide t) a)) (num (wide t) n.wider) z
    (un_yields u s un.BitNot (e.Cast (wide t) a) (num (wide t) (number t x)) (num (wide t) n.wider) (wide_yields u s t a x h g)
    (ap (λ (r : CScalar). in_type why.Overflow r (pos 0 -ℤ number t x -ℤ pos 1)) (wide_promoted t) ∙ n.is) (sym (wide_promoted t)))
    n.back) refl

pub unary_gives : (u : CUnit) (s : Statics) (op : Op1) (t : Scalar) (a : CExpr) (x : ℕ) → IsTrue (op1_fits op t) → IsTrue (is_word t x) → GivesWord u s a t x
    → GivesWord u s (translation.unary op t a) t (op1_word op t x)
unary_gives u s op1.Not scalar.Bool a x i h g = not_gives u s a x h g
unary_gives u s op1.Not _ a x i h g = absurd (cc)
unary_gives u s op1.BitNot t a x i h g = complement_gives u s t a x i h g

-- ---- comparisons

compared_gives : (u : CUnit) (s : Statics) (f : ℤ → ℤ → Bool) (op : CBin) (t : Scalar) (a b : CExpr) (x y w : ℕ) → decided_at op ≡ None
    → ((v z : CScalar) → binary_type op v z ≡ c.I32)
    → ((v z : Num) → binary op v z ≡ at_common (λ r m n. Ok (truth (f m n))) v z) → Operands u s t a b x y → word (of_test (f (number t x) (number t y))) ≡ w
    → GivesWord u s (e.Bin op a b) scalar.Bool w
compared_gives u s f op t a b x y w d k is p h =
    let g = p.first in
    let q = p.second in
    let r : CScalar = usual g.value.ty q.value.ty in
    let carries : IsCarrier t r = usual_carries t g.value.ty q.value.ty g.carries.carrier q.carries.carrier in
    let v : Bool = f (number t x) (number t y) in
    gives_truth u s (e.Bin op a b) v w
    (bin_yields u s op a b g.value q.value (truth v) d (yields u s a t x g) (yields u s b t y q)
    (is g.value q.value
    ∙ at_common_keeps (λ r m n. Ok (truth (f m n))) g.value q.value (value_has u s a t x r carries p.first_word g)
    (value_has u s b t y r carries p.second_word q)
    ∙ (λ i. Ok (truth (f (g.carries.is i) (q.carries.is i)))))
    (truth_int v ∙ sym (k g.value.ty q.value.ty))) h

-- an operator over two operands
over_operands : (u : CUnit) (s : Statics) (op : Op2) (t : Scalar) (a b : CExpr) (x y w : ℕ) → IsTrue (op2_fits op t)
    → Operands u s t a b x y → op2_word op t x y ≡ Ok w → GivesWord u s (translation.binary op t a b) (op2_gives op t) w
over_operands u s op2.Add t a b x y w i p h = exact_gives u s ◌+ℤ◌ o.Add t a b x y w refl refl (λ v z. refl) i p h
over_operands u s op2.Sub t a b x y w i p h = exact_gives u s ◌-ℤ◌ o.Sub t a b x y w refl refl (λ v z. refl) i p h
over_operands u s op2.Mul t a b x y w i p h = exact_gives u s ◌*ℤ◌ o.Mul t a b x y w refl refl (λ v z. refl) i p h
over_operands u s op2.Quot t a b x y w i p h = quotient_gives u s t a b x y w i p h
over_operands u s op2.Rem t a b x y w i p h = remainder_gives u s t a b x y w i p h
over_operands u s op2.BitAnd t a b x y w i p h = bitwise_gives u s bit_and (λ v z. v && z) and_is o.BitAnd t a b x y w refl refl (λ v z. refl) i p (cc h)
over_operands u s op2.BitOr t a b x y w i p h = bitwise_gives u s bit_or (λ v z. v || z) or_is o.BitOr t a b x y w refl refl (λ v z. refl) i p (cc h)
over_operands u s op2.BitXor t a b x y w i p h = bitwise_gives u s bit_xor differ xor_is o.BitXor t a b x y w refl refl (λ v z. refl) i p (cc h)
over_operands u s op2.Eq t a b x y w i p h = compared_gives u s int_eq o.Eq t a b x y w refl (λ v z. refl) (λ v z. refl) p (cc h)
over_operands u s op2.Ne t a b x y w i p h = compared_gives u s (λ v z. not (int_eq v z)) o.Ne t a b x y w refl (λ v z. refl) (λ v z. refl) p (cc h)
over_operands u s op2.Lt t a b x y w i p h = compared_gives u s int_lt o.Lt t a b x y w refl (λ v z. refl) (λ v z. refl) p (cc h)
over_operands u s op2.Le t a b x y w i p h = compared_gives u s int_le o.Le t a b x y w refl (λ v z. refl) (λ v z. refl) p (cc h)
over_operands u s op2.Gt t a b x y w i p h = compared_gives u s (λ v z. int_lt z v) o.Gt t a b x y w refl (λ v z. refl) (λ v z. refl) p (cc h)
over_operands u s op2.Ge t a b x y w i p h = compared_gives u s (λ v z. int_le z v) o.Ge t a b x y w refl (λ v z. refl) (λ v z. refl) p (cc h)

pub binary_gives : (u : CUnit) (s : Statics) (op : Op2) (t : Scalar) (a b : CExpr) (x y w : ℕ) → IsTrue (op2_fits op t) → IsTrue (is_word t x)
    → IsTrue (is_word t y) → GivesWord u s a t x → GivesWord u s b t y → op2_word op t x y ≡ Ok w
    → GivesWord u s (translation.binary op t a b) (op2_gives op t) w
binary_gives u s op t a b x y w i j k g q h =
    over_operands u s op t a b x y w i (record { first_word = j; second_word = k; first = g; second = q }) h

-- ---- shifts

unless_says : (c : Bool) (r : Result ℤ Hazard) (z : ℤ) → (if c then Err hazard.BadShift else r) ≡ Ok z → (c ≡ false) × (r ≡ Ok z)
unless_says true r z h = absurd (cc h)
unless_says false r z h = (refl, h)

three_fail : (p q r k sign : Bool) → (p || q || r) ≡ false → (k ≡ true → q ≡ true) → (p || k || (sign && r)) ≡ false
three_fail true q r k sign h f = absurd (cc h)
three_fail false true r k sign h f = absurd (cc h)
three_fail false false true k sign h f = absurd (cc h)
three_fail false false false true sign h f = let e = f refl in absurd (cc e)
three_fail false false false false true h f = refl
three_fail false false false false false h f = refl

third_fails : (p q r sign : Bool) → (p || q || r) ≡ false → (sign && r) ≡ false
third_fails true q r sign h = absurd (cc h)
third_fails false true r sign h = absurd (cc h)
third_fails false false r true h = h
third_fails false false r false h = refl

wider_count : (n m : ℕ) (z : ℤ) → n ≤ m → int_le (pos m) z ≡ true → int_le (pos n) z ≡ true
wider_count n m (pos k) l h = grind (arith, nat_tests)
wider_count n m (negsuc k) l h = absurd (cc h)

-- what is no bad shift at the scalar is none at the wide type
shift_stands : (t : Scalar) (p : ℤ) (y : Num) → bad_shift (of.bits t) p y.n ≡ false → is_bad_shift (wide t) (num (wide t) p) y ≡ false
shift_stands t p y h =
    three_fail (int_lt y.n (pos 0)) (int_le (pos (of.bits t)) y.n) (int_lt p (pos 0)) (int_le (pos (bits (wide t))) y.n) (is_signed (wide t)) h
    (wider_count (of.bits t) (bits (wide t)) y.n (wide_bits t))

-- a shift at the wide type, whose result v is converted to z
shifted_gives : (u : CUnit) (s : Statics) (d : Dir) (t count : Scalar) (a n : CExpr) (x y w : ℕ) (v z : ℤ) → IsTrue (is_integer t) → IsTrue (is_word t x)
    → GivesWord u s a t x
    → (g : GivesWord u s n count y) → binary (translation.shift_sign d) (num (wide t) (number t x)) g.value ≡ Ok (num (wide t) v)
    → converted (c_scalar t) (num (wide t) v) ≡ Ok (num (c_scalar t) z) → Has (c_scalar t) z → word z ≡ w → GivesWord u s (shifted d t a n) t w
shifted_gives u s d t count a n x y w v z i j h g r k l q =
    gives_number u s (shifted d t a n) t z w i l
    (cast_yields u s (c_scalar t) (e.Bin (translation.shift_sign d) (e.Cast (wide t) a) n) (num (wide t) v) z
    (bin_yields u s (translation.shift_sign d) (e.Cast (wide t) a) n (num (wide t) (number t x)) g.value (num (wide t) v) (by d)
    (wide_yields u s t a x j h) (yields u s n count y g) r (types d)) k)
    q
  where
    by : (m : Dir) → decided_at (translation.shift_sign m) ≡ None
    by dir.Left = refl
    by dir.Right = refl

    types : (m : Dir) → wide t ≡ binary_type (translation.shift_sign m) (wide t) g.value.ty
    types dir.Left = sym (wide_promoted t)
    types dir.Right = sym (wide_promoted t)

-- a shift that isn't bad, at the operand's number and the count
shifted_is : (f : Bool → CScalar → ℤ → ℕ → Result Num Undefined) (t : Scalar) (p q : ℤ) (y : Num) → y.n ≡ q → bad_shift (of.bits t) p q ≡ false
    → f (is_bad_shift (promoted (wide t)) (num (wide t) p) y) (promoted (wide t)) p (unsigned_abs y.n) ≡ f false (wide t) p (unsigned_abs q)
shifted_is f t p q y e h =
    (λ i. f (is_bad_shift (wide_promoted t i) (num (wide t) p) y) (wide_promoted t i) p (unsigned_abs (e i)))
    ∙ ap (λ (b : Bool). f b (wide t) p (unsigned_abs q)) (shift_stands t p y (ap (bad_shift (of.bits t) p) e ∙ h))

pub shift_gives : (u : CUnit) (s : Statics) (d : Dir) (t count : Scalar) (a n : CExpr) (x y w : ℕ) → IsTrue (shift_fits t count) → IsTrue (is_word t x)
    → IsTrue (is_word count y) → GivesWord u s a t x → GivesWord u s n count y
    → shift_word d t x count y ≡ Ok w → GivesWord u s (shifted d t a n) t w
shift_gives u s dir.Left t count a n x y w i j k h g r =
    let whole = left_passes (is_integer t) (is_integer count) i in
    let p : ℤ = number t x in
    let q : ℤ = number count y in
    let z : ℤ = p *ℤ pos (2 ^ unsigned_abs q) in
    let m = answers (table.shift_number dir.Left (of.bits t) (of.signed t) p q) w r in
    let c = unless_says (bad_shift (of.bits t) p q) (fit (of.bits t) (of.signed t) z) m.z m.is in
    let v = narrows t why.Overflow z m.z whole c.1 in
    shifted_gives u s dir.Left t count a n x y w v.wider m.z whole j h g
    (shifted_is shifted_left t p q g.value g.carries.is c.0 ∙ v.is) v.back (fit_has t z m.z whole c.1) m.word_is
shift_gives u s dir.Right t count a n x y w i j k h g r =
    let whole = left_passes (is_integer t) (is_integer count) i in
    let p : ℤ = number t x in
    let q : ℤ = number count y in
    let z : ℤ = pos (unsigned_abs p / 2 ^ unsigned_abs q) in
    let m = answers (table.shift_number dir.Right (of.bits t) (of.signed t) p q) w r in
    let c = unless_says (bad_shift (of.bits t) p q) (Ok z) m.z m.is in
    let e : z ≡ m.z = cc (c.1) in
    let b = third_fails (int_lt q (pos 0)) (int_le (pos (of.bits t)) q) (int_lt p (pos 0)) (is_signed (c_scalar t)) c.0 in
    let l = shift_within (bits (c_scalar t)) (is_signed (c_scalar t)) p (2 ^ unsigned_abs q) (own_has t x j) b in
    shifted_gives u s dir.Right t count a n x y w z z whole j h g
    (shifted_is shifted_right t p q g.value g.carries.is c.0) (converted_keeps (c_scalar t) (num (wide t) z) l) l (ap word e ∙ m.word_is)
