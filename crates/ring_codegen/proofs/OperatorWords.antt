-- The translation of an operator gives the word that the operator answers.
use Rattle.std.proofs.Common.{◌≡◌, ℕ, zero, suc, ◌-◌, ◌^◌, ◌<◌, Bool, true, false, not, ◌&&◌, ◌||◌, Result, Ok, Err, inr, refl, ap, sym, ◌∙◌, subst, arith}
use Rattle.std.specs.Prelude.{IsTrue, ℤ, pos, negsuc, nat_lt, ◌-ℤ◌}
use Rattle.std.specs.Ordering.{int_eq}
use Rattle.std.specs.Int.{int_rem_euclid}
use Rattle.std.proofs.lemmas.Bool.Decides.{nat_tests}
use Rattle.std.proofs.lemmas.Int.{ints}
use Rattle.stream_types.specs.declared.scalar.Scalar.{Scalar}
use Rattle.stream_types.specs.declared.scalar.Scalar.TheVariants as scalar
use Rattle.stream_types.specs.declared.scalar.Hazard.{Hazard}
use Rattle.stream_types.specs.Scalars.{is_integer}
use Rattle.stream_types.specs.Scalars as of
use Rattle.stream_types.specs.Numbers.{number, word, is_word, as_word, of_test, fit, cast_word}
use Rattle.c99_tree.specs.declared.expr.CExpr.{CExpr}
use Rattle.c99_tree.specs.declared.expr.CExpr.TheVariants as e
use Rattle.c99_tree.specs.declared.expr.CLit.{CLit}
use Rattle.c99_tree.specs.declared.expr.CLit.TheVariants as k
use Rattle.c99_tree.specs.declared.expr.CUn.TheVariants as un
use Rattle.c99_tree.specs.declared.expr.CBin.TheVariants as o
use Rattle.c99_tree.specs.declared.types.CScalar.{CScalar}
use Rattle.c99_tree.specs.declared.types.CScalar.TheVariants as c
use Rattle.c99_tree.specs.declared.undefined.Undefined.{Undefined}
use Rattle.c99_tree.specs.declared.undefined.Undefined.TheVariants as why
use Rattle.c99_tree.specs.declared.unit.Unit.{Unit as CUnit}
use Rattle.c99_tree.specs.CTypes.{Num, num, bits, is_signed, usual, in_type, truth, is_zero, converted}
use Rattle.c99_tree.specs.Typing.{literal_type}
use Rattle.c99_tree.specs.Evaluation.{Statics, at_common}
use Rattle.c99_tree.proofs.NumberRanges.{within}
use Rattle.ring_codegen.specs.CTypes.{c_scalar}
use Rattle.ring_codegen.specs.Translation.{constant, literal}
use Rattle.ring_codegen.specs.Carried.{IsCarrier, HasCarrier, GivesWord}
use Rattle.ring_codegen.proofs.Carriers.{Has, usual_carries, scalar_carries, carrier_has}
use Rattle.ring_codegen.proofs.Conversions.{in_type_keeps, converted_keeps, at_common_keeps, number_word, fit_has, fit_exact}
use Rattle.ring_codegen.proofs.Yielding.{Yields, lit_yields, true_yields, false_yields, un_yields, cast_yields, bin_yields, decided_yields, undecided_yields, first_yields, second_yields}
use Rattle.ring_codegen.proofs.OperatorTypes.{literal_usual, literal_promoted}

-- ---- words and the numbers that an expression yields

pub yields : (u : CUnit) (s : Statics) (a : CExpr) (t : Scalar) (x : ℕ) → (g : GivesWord u s a t x) → Yields u s a g.value
yields u s a t x g = record { is = g.is; typed = g.typed }

-- the type of an operand's value has its number
pub value_has : (u : CUnit) (s : Statics) (a : CExpr) (t : Scalar) (x : ℕ) (r : CScalar) → IsCarrier t r → IsTrue (is_word t x)
    → (g : GivesWord u s a t x) → Has r g.value.n
value_has u s a t x r h i g = subst (λ (z : ℤ). Has r z) (sym g.carries.is) (carrier_has t r x h i)

-- a number of the scalar's own type
pub gives_number : (u : CUnit) (s : Statics) (a : CExpr) (t : Scalar) (z : ℤ) (w : ℕ) → IsTrue (is_integer t) → Has (c_scalar t) z
    → Yields u s a (num (c_scalar t) z) → word z ≡ w
    → GivesWord u s a t w
gives_number u s a t z w i h y e = record {
  value = num (c_scalar t) z;
  is = y.is;
  carries = record { is = sym (number_word t z i h) ∙ ap (number t) e; carrier = scalar_carries t };
  typed = y.typed;
}

truth_number : (b : Bool) → (truth b).n ≡ number scalar.Bool (word (of_test b))
truth_number true = refl
truth_number false = refl

pub truth_int : (b : Bool) → (truth b).ty ≡ c.I32
truth_int true = refl
truth_int false = refl

-- an int for a truth value
pub gives_truth : (u : CUnit) (s : Statics) (a : CExpr) (b : Bool) (w : ℕ) → Yields u s a (truth b) → word (of_test b) ≡ w → GivesWord u s a scalar.Bool w
gives_truth u s a b w y e = record {
  value = truth b;
  is = y.is;
  carries = record { is = truth_number b ∙ ap (number scalar.Bool) e; carrier = inr (truth_int b) };
  typed = y.typed;
}

-- what a table answers, and its word
pub record Answers (r : Result ℤ Hazard) (w : ℕ) : Type 0 where
  pub z : ℤ
  pub is : r ≡ Ok z
  pub word_is : word z ≡ w

pub answers : (r : Result ℤ Hazard) (w : ℕ) → as_word r ≡ Ok w → Answers r w
answers (Ok z) w h = record { z = z; is = refl; word_is = cc h }
answers (Err x) w h = absurd (cc h)

-- ---- truth values

zero_truth : (u : CUnit) (s : Statics) (a : CExpr) → (g : GivesWord u s a scalar.Bool 0) → is_zero g.value ≡ true
zero_truth u s a g = ap (λ (z : ℤ). int_eq z (pos 0)) g.carries.is

one_truth : (u : CUnit) (s : Statics) (a : CExpr) → (g : GivesWord u s a scalar.Bool 1) → is_zero g.value ≡ false
one_truth u s a g = ap (λ (z : ℤ). int_eq z (pos 0)) g.carries.is

word_truth : (y : ℕ) → IsTrue (is_word scalar.Bool y) → word (of_test (not (int_eq (pos y) (pos 0)))) ≡ y
word_truth zero h = refl
word_truth (suc zero) h = refl
word_truth (suc (suc y)) h = let q : suc (suc y) < 2 = grind (arith, nat_tests, h) in absurd (omega (arith, q))

-- the word is that of the value's truth
value_truth : (u : CUnit) (s : Statics) (a : CExpr) (y : ℕ) → IsTrue (is_word scalar.Bool y) → (g : GivesWord u s a scalar.Bool y)
    → word (of_test (not (is_zero g.value))) ≡ y
value_truth u s a y h g = ap (λ (z : ℤ). word (of_test (not (int_eq z (pos 0))))) g.carries.is ∙ word_truth y h

pub and_false : (u : CUnit) (s : Statics) (a b : CExpr) → GivesWord u s a scalar.Bool 0 → HasCarrier u b scalar.Bool
    → GivesWord u s (e.Bin o.And a b) scalar.Bool 0
and_false u s a b g h =
    gives_truth u s (e.Bin o.And a b) false 0
    (decided_yields u s o.And a b g.value h.ty false refl (yields u s a scalar.Bool 0 g) h.is (zero_truth u s a g) refl) refl

pub or_true : (u : CUnit) (s : Statics) (a b : CExpr) → GivesWord u s a scalar.Bool 1 → HasCarrier u b scalar.Bool
    → GivesWord u s (e.Bin o.Or a b) scalar.Bool 1
or_true u s a b g h =
    gives_truth u s (e.Bin o.Or a b) true 1
    (decided_yields u s o.Or a b g.value h.ty true refl (yields u s a scalar.Bool 1 g) h.is (ap not (one_truth u s a g)) refl) refl

pub and_true : (u : CUnit) (s : Statics) (a b : CExpr) (y : ℕ) → IsTrue (is_word scalar.Bool y) → GivesWord u s a scalar.Bool 1 → GivesWord u s b scalar.Bool y
    → GivesWord u s (e.Bin o.And a b) scalar.Bool y
and_true u s a b y i g h =
    let t : Bool = not (is_zero h.value) in
    gives_truth u s (e.Bin o.And a b) t y
    (undecided_yields u s o.And a b g.value h.value (truth t) false refl (yields u s a scalar.Bool 1 g) (yields u s b scalar.Bool y h) (one_truth u s a g)
    (ap (λ (q : Bool). Ok (truth (not q && t))) (one_truth u s a g)) (truth_int t))
    (value_truth u s b y i h)

pub or_false : (u : CUnit) (s : Statics) (a b : CExpr) (y : ℕ) → IsTrue (is_word scalar.Bool y) → GivesWord u s a scalar.Bool 0 → GivesWord u s b scalar.Bool y
    → GivesWord u s (e.Bin o.Or a b) scalar.Bool y
or_false u s a b y i g h =
    let t : Bool = not (is_zero h.value) in
    gives_truth u s (e.Bin o.Or a b) t y
    (undecided_yields u s o.Or a b g.value h.value (truth t) true refl (yields u s a scalar.Bool 0 g) (yields u s b scalar.Bool y h)
    (ap not (zero_truth u s a g))
    (ap (λ (q : Bool). Ok (truth (not q || t))) (zero_truth u s a g)) (truth_int t))
    (value_truth u s b y i h)

not_false : (u : CUnit) (s : Statics) (a : CExpr) → GivesWord u s a scalar.Bool 0 → GivesWord u s (e.Un un.Not a) scalar.Bool 1
not_false u s a g =
    gives_truth u s (e.Un un.Not a) true 1
    (un_yields u s un.Not a g.value (truth true) (yields u s a scalar.Bool 0 g) (ap (λ (q : Bool). Ok (truth q)) (zero_truth u s a g)) refl) refl

not_true : (u : CUnit) (s : Statics) (a : CExpr) → GivesWord u s a scalar.Bool 1 → GivesWord u s (e.Un un.Not a) scalar.Bool 0
not_true u s a g =
    gives_truth u s (e.Un un.Not a) false 0
    (un_yields u s un.Not a g.value (truth false) (yields u s a scalar.Bool 1 g) (ap (λ (q : Bool). Ok (truth q)) (one_truth u s a g)) refl) refl

pub implies_false : (u : CUnit) (s : Statics) (a b : CExpr) → GivesWord u s a scalar.Bool 0 → HasCarrier u b scalar.Bool
    → GivesWord u s (e.Bin o.Or (e.Un un.Not a) b) scalar.Bool 1
implies_false u s a b g h = or_true u s (e.Un un.Not a) b (not_false u s a g) h

pub implies_true : (u : CUnit) (s : Statics) (a b : CExpr) (y : ℕ) → IsTrue (is_word scalar.Bool y) → GivesWord u s a scalar.Bool 1
    → GivesWord u s b scalar.Bool y
    → GivesWord u s (e.Bin o.Or (e.Un un.Not a) b) scalar.Bool y
implies_true u s a b y i g h = or_false u s (e.Un un.Not a) b y i (not_true u s a g) h

pub not_gives : (u : CUnit) (s : Statics) (a : CExpr) (x : ℕ) → IsTrue (is_word scalar.Bool x) → GivesWord u s a scalar.Bool x
    → GivesWord u s (e.Un un.Not a) scalar.Bool (word (pos 1 -ℤ pos x))
not_gives u s a zero i g = not_false u s a g
not_gives u s a (suc zero) i g = not_true u s a g
not_gives u s a (suc (suc x)) i g = let q : suc (suc x) < 2 = grind (arith, nat_tests, i) in absurd (omega (arith, q))

-- ---- choices

-- a common type of carriers, converted to
pub same_number : (u : CUnit) (s : Statics) (a : CExpr) (t : Scalar) (x : ℕ) (r : CScalar) → IsCarrier t r → IsTrue (is_word t x)
    → (g : GivesWord u s a t x) → converted r g.value ≡ Ok (num r (number t x))
same_number u s a t x r h i g = converted_keeps r g.value (value_has u s a t x r h i g) ∙ ap (λ (z : ℤ). Ok (num r z)) g.carries.is

gives_carried : (u : CUnit) (s : Statics) (a : CExpr) (t : Scalar) (x : ℕ) (r : CScalar) → IsCarrier t r → Yields u s a (num r (number t x))
    → GivesWord u s a t x
gives_carried u s a t x r h y = record { value = num r (number t x); is = y.is; carries = record { is = refl; carrier = h }; typed = y.typed }

pub choice_true : (u : CUnit) (s : Statics) (t : Scalar) (p a b : CExpr) (x : ℕ) → IsTrue (is_word t x) → GivesWord u s p scalar.Bool 1
    → GivesWord u s a t x → HasCarrier u b t
    → GivesWord u s (e.Cond p a b) t x
choice_true u s t p a b x i k g h =
    let r : CScalar = usual g.value.ty h.ty in
    let q : IsCarrier t r = usual_carries t g.value.ty h.ty g.carries.carrier h.carrier in
    gives_carried u s (e.Cond p a b) t x r q
    (first_yields u s p a b k.value g.value h.ty (number t x) (yields u s p scalar.Bool 1 k) (one_truth u s p k)
    (yields u s a t x g) h.is (same_number u s a t x r q i g))

pub choice_false : (u : CUnit) (s : Statics) (t : Scalar) (p a b : CExpr) (y : ℕ) → IsTrue (is_word t y) → GivesWord u s p scalar.Bool 0
    → HasCarrier u a t → GivesWord u s b t y
    → GivesWord u s (e.Cond p a b) t y
choice_false u s t p a b y i k h g =
    let r : CScalar = usual h.ty g.value.ty in
    let q : IsCarrier t r = usual_carries t h.ty g.value.ty h.carrier g.carries.carrier in
    gives_carried u s (e.Cond p a b) t y r q
    (second_yields u s p a b k.value g.value h.ty (number t y) (yields u s p scalar.Bool 0 k) (zero_truth u s p k) h.is
    (yields u s b t y g) (same_number u s b t y r q i g))

-- ---- conversions

signed_fits : (t : Scalar) (x : Num) (z : ℤ) → Has (c_scalar t) z → x.n ≡ z → converted (c_scalar t) x ≡ Ok (num (c_scalar t) z)
signed_fits t x z h e = converted_keeps (c_scalar t) x (subst (λ (v : ℤ). Has (c_scalar t) v) (sym e) h) ∙ ap (λ (v : ℤ). Ok (num (c_scalar t) v)) e

-- conversion to an integer's type does what the table does
converted_fits : (t : Scalar) (x : Num) (z : ℤ) → IsTrue (is_integer t) → fit (of.bits t) (of.signed t) x.n ≡ Ok z
    → converted (c_scalar t) x ≡ Ok (num (c_scalar t) z)
converted_fits scalar.Bool x z i h = absurd (cc)
converted_fits scalar.Int8 x z i h = signed_fits scalar.Int8 x z (fit_has scalar.Int8 x.n z i h) (fit_exact 8 x.n z h)
converted_fits scalar.Int16 x z i h = signed_fits scalar.Int16 x z (fit_has scalar.Int16 x.n z i h) (fit_exact 16 x.n z h)
converted_fits scalar.Int32 x z i h = signed_fits scalar.Int32 x z (fit_has scalar.Int32 x.n z i h) (fit_exact 32 x.n z h)
converted_fits scalar.Int64 x z i h = signed_fits scalar.Int64 x z (fit_has scalar.Int64 x.n z i h) (fit_exact 64 x.n z h)
converted_fits scalar.Word8 x z i h = let q : int_rem_euclid x.n (pos (2 ^ 8)) ≡ z = cc h in ap (λ (v : ℤ). Ok (num c.U8 v)) q
converted_fits scalar.Word16 x z i h = let q : int_rem_euclid x.n (pos (2 ^ 16)) ≡ z = cc h in ap (λ (v : ℤ). Ok (num c.U16 v)) q
converted_fits scalar.Word32 x z i h = let q : int_rem_euclid x.n (pos (2 ^ 32)) ≡ z = cc h in ap (λ (v : ℤ). Ok (num c.U32 v)) q
converted_fits scalar.Word64 x z i h = let q : int_rem_euclid x.n (pos (2 ^ 64)) ≡ z = cc h in ap (λ (v : ℤ). Ok (num c.U64 v)) q

pub cast_gives : (u : CUnit) (s : Statics) (from t : Scalar) (a : CExpr) (x w : ℕ) → IsTrue (is_integer t) → IsTrue (is_word from x)
    → GivesWord u s a from x → cast_word from t x ≡ Ok w
    → GivesWord u s (e.Cast (c_scalar t) a) t w
cast_gives u s from t a x w i j g h =
    let r = answers (fit (of.bits t) (of.signed t) (number from x)) w h in
    gives_number u s (e.Cast (c_scalar t) a) t r.z w i (fit_has t (number from x) r.z i r.is)
    (cast_yields u s (c_scalar t) a g.value r.z (yields u s a from x g)
    (converted_fits t g.value r.z i (ap (fit (of.bits t) (of.signed t)) g.carries.is ∙ r.is))) r.word_is

-- ---- literals

negated-within : (n m : ℕ) → within n true (negsuc m) ≡ true → within n true (pos 0 -ℤ pos m) ≡ true
negated-within n zero h = h
negated-within n (suc m) h =
    let q : suc m < 2 ^ (n - 1) = grind (arith, nat_tests, h) in
    let r : nat_lt m (2 ^ (n - 1)) ≡ true = grind (arith, nat_tests, q) in
    let z : pos 0 -ℤ pos (suc m) ≡ negsuc m = omega (arith, ints) in
    ap (within n true) z ∙ r

literal_one : (q : CLit) → Has (literal_type q) (pos 1)
literal_one k.I = refl
literal_one k.U = refl
literal_one k.LL = refl
literal_one k.ULL = refl

-- an operator at a type that is the common type with itself
pub at_one : {r : CScalar} → usual r r ≡ r → (f : CScalar → ℤ → ℤ → Result Num Undefined) (x y : ℤ) → Has r x → Has r y
    → at_common f (num r x) (num r y) ≡ f r x y
at_one {r} d f x y h g =
    at_common_keeps f (num r x) (num r y) (subst (λ (v : CScalar). Has v x) (sym d) h) (subst (λ (v : CScalar). Has v y) (sym d) g)
    ∙ ap (λ (v : CScalar). f v x y) d

constant_yields : (u : CUnit) (s : Statics) (q : CLit) (z : ℤ) → is_signed (literal_type q) ≡ true → Has (literal_type q) z
    → Yields u s (constant q z) (num (literal_type q) z)
constant_yields u s q (pos n) i h = lit_yields u s q n
constant_yields u s q (negsuc n) i h =
    let t : CScalar = literal_type q in
    let signed : within (bits t) true (negsuc n) ≡ true = subst (λ (b : Bool). within (bits t) b (negsuc n) ≡ true) i h in
    let negated : Has t (pos 0 -ℤ pos n) =
    subst (λ (b : Bool). within (bits t) b (pos 0 -ℤ pos n) ≡ true) (sym i) (negated-within (bits t) n signed) in
    let below : pos 0 -ℤ pos n -ℤ pos 1 ≡ negsuc n = omega (arith, ints) in
    let one : Has t (pos 1) = literal_one q in
    bin_yields u s o.Sub (e.Un un.Neg (e.Lit q n)) (e.Lit q 1) (num t (pos 0 -ℤ pos n)) (num t (pos 1)) (num t (negsuc n)) refl
    (un_yields u s un.Neg (e.Lit q n) (num t (pos n)) (num t (pos 0 -ℤ pos n)) (lit_yields u s q n)
    (ap (λ (r : CScalar). in_type why.Overflow r (pos 0 -ℤ pos n)) (literal_promoted q) ∙ in_type_keeps why.Overflow t (pos 0 -ℤ pos n) negated)
    (sym (literal_promoted q)))
    (lit_yields u s q 1)
    (at_one (literal_usual q) (λ r v w. in_type why.Overflow r (v -ℤ w)) (pos 0 -ℤ pos n) (pos 1) negated one
    ∙ ap (in_type why.Overflow t) below ∙ in_type_keeps why.Overflow t (negsuc n) h)
    (sym (literal_usual q))

literal_truth : (u : CUnit) (s : Statics) (w : ℕ) → IsTrue (is_word scalar.Bool w) → GivesWord u s (literal scalar.Bool w) scalar.Bool w
literal_truth u s zero h = gives_truth u s e.False false 0 (false_yields u s) refl
literal_truth u s (suc zero) h = gives_truth u s e.True true 1 (true_yields u s) refl
literal_truth u s (suc (suc w)) h = let q : suc (suc w) < 2 = grind (arith, nat_tests, h) in absurd (omega (arith, q))

-- a constant of a signed type that carries the scalar
signed_literal : (u : CUnit) (s : Statics) (q : CLit) (t : Scalar) (w : ℕ) → is_signed (literal_type q) ≡ true
    → IsCarrier t (literal_type q) → IsTrue (is_word t w) → GivesWord u s (constant q (number t w)) t w
signed_literal u s q t w i h g =
    gives_carried u s (constant q (number t w)) t w (literal_type q) h (constant_yields u s q (number t w) i (carrier_has t (literal_type q) w h g))

pub literal_gives : (u : CUnit) (s : Statics) (t : Scalar) (w : ℕ) → IsTrue (is_word t w) → GivesWord u s (literal t w) t w
literal_gives u s scalar.Bool w h = literal_truth u s w h
literal_gives u s scalar.Int8 w h = signed_literal u s k.I scalar.Int8 w refl (inr refl) h
literal_gives u s scalar.Int16 w h = signed_literal u s k.I scalar.Int16 w refl (inr refl) h
literal_gives u s scalar.Int32 w h = signed_literal u s k.I scalar.Int32 w refl refl h
literal_gives u s scalar.Int64 w h = signed_literal u s k.LL scalar.Int64 w refl refl h
literal_gives u s scalar.Word8 w h = gives_carried u s (literal scalar.Word8 w) scalar.Word8 w c.U32 (inr (inr refl)) (lit_yields u s k.U w)
literal_gives u s scalar.Word16 w h = gives_carried u s (literal scalar.Word16 w) scalar.Word16 w c.U32 (inr (inr refl)) (lit_yields u s k.U w)
literal_gives u s scalar.Word32 w h = gives_carried u s (literal scalar.Word32 w) scalar.Word32 w c.U32 refl (lit_yields u s k.U w)
literal_gives u s scalar.Word64 w h = gives_carried u s (literal scalar.Word64 w) scalar.Word64 w c.U64 refl (lit_yields u s k.ULL w)
