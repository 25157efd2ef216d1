-- Expressions that have a number as their value, of the number's type, and what operators give over them.
use Rattle.std.proofs.Common.{◌≡◌, ℕ, Bool, true, false, Option, Some, None, Result, Ok, Err, refl, ap, ◌∙◌, sym}
use Rattle.std.specs.Prelude.{ℤ, pos, if◌then◌else◌}
use Rattle.std.specs.Option.{option_map, option_and_then}
use Rattle.c99_tree.specs.declared.expr.CExpr.{CExpr}
use Rattle.c99_tree.specs.declared.expr.CExpr.TheVariants as e
use Rattle.c99_tree.specs.declared.expr.CLit.{CLit}
use Rattle.c99_tree.specs.declared.expr.CUn.{CUn}
use Rattle.c99_tree.specs.declared.expr.CBin.{CBin}
use Rattle.c99_tree.specs.declared.types.CScalar.{CScalar}
use Rattle.c99_tree.specs.declared.types.CTy.{CTy}
use Rattle.c99_tree.specs.declared.types.CTy.TheVariants as cty
use Rattle.c99_tree.specs.declared.undefined.Undefined.{Undefined}
use Rattle.c99_tree.specs.declared.unit.Unit.{Unit as CUnit}
use Rattle.c99_tree.specs.Tree.{Expr, lit, un, bin, choose, cast, tree}
use Rattle.c99_tree.specs.TreeLaws.{tree-Lit, tree-True, tree-False, tree-Un, tree-Bin, tree-Cond, tree-Cast}
use Rattle.c99_tree.specs.CTypes.{Num, num, usual, truth, is_zero, converted}
use Rattle.c99_tree.specs.Values.{Value, number, number_in}
use Rattle.c99_tree.specs.Typing.{type_of, literal_type, unary_type, binary_type, scalar_type, where_scalar, arms_type_of}
use Rattle.c99_tree.specs.Evaluation.{Statics, Met, done, ◌>>=◌, number_result, unary, binary, decides, decided_at, both, chosen, settled, evaluate}

abbrev pub HasType : CUnit → CExpr → CScalar → Type 0
HasType u a t = type_of u (tree a) ≡ Some (cty.Scalar t)

-- the value is this number, and the type the number's
pub record Yields (u : CUnit) (s : Statics) (a : CExpr) (x : Num) : Type 0 where
  pub is : (evaluate u s (tree a)).value ≡ Ok (number x)
  pub typed : HasType u a x.ty

-- ---- types

pub lit_type : (u : CUnit) (k : CLit) (n : ℕ) → HasType u (e.Lit k n) (literal_type k)
lit_type u k n = ap (type_of u) (tree-Lit k n)

pub un_type : (u : CUnit) (op : CUn) (a : CExpr) (x : CScalar) → HasType u a x → HasType u (e.Un op a) (unary_type op x)
un_type u op a x h = ap (type_of u) (tree-Un op a) ∙ ap (λ (v : Option CTy). option_map (λ s. cty.Scalar (unary_type op s)) (scalar_type v)) h

pub bin_type : (u : CUnit) (op : CBin) (a b : CExpr) (x y : CScalar) → HasType u a x → HasType u b y → HasType u (e.Bin op a b) (binary_type op x y)
bin_type u op a b x y h g =
    ap (type_of u) (tree-Bin op a b)
    ∙ (λ i. option_and_then (λ s. option_map (λ t. cty.Scalar (binary_type op s t)) (scalar_type (g i))) (scalar_type (h i)))

pub cast_type : (u : CUnit) (t : CScalar) (a : CExpr) (x : CScalar) → HasType u a x → HasType u (e.Cast t a) t
cast_type u t a x h = ap (type_of u) (tree-Cast t a) ∙ ap (λ (v : Option CTy). where_scalar v (Some (cty.Scalar t))) h

pub cond_type : (u : CUnit) (p a b : CExpr) (z x y : CScalar) → HasType u p z → HasType u a x → HasType u b y → HasType u (e.Cond p a b) (usual x y)
cond_type u p a b z x y k h g =
    ap (type_of u) (tree-Cond p a b)
    ∙ (λ i. where_scalar (k i) (arms_type_of (h i) (g i)))

-- ---- values

-- goes on with the value of what is defined
then_is : {B : Type 0} (m : Met Value) (f : Value → Met B) (v : Value) → m.value ≡ Ok v → (m >>= f).value ≡ (f v).value
then_is m f v h = by m.value h
  where
    by : (r : Result Value Undefined) → r ≡ Ok v → (record { value = r; count = m.count } >>= f).value ≡ (f v).value
    by (Ok w) e = let same : w ≡ v = cc e in ap (λ (x : Value). (f x).value) same
    by (Err x) e = absurd (cc e)

lit_value : (u : CUnit) (s : Statics) (k : CLit) (n : ℕ) → (evaluate u s (lit k n)).value ≡ Ok (number (num (literal_type k) (pos n)))
unfolding evaluate
lit_value u s k n = refl

un_value : (u : CUnit) (s : Statics) (op : CUn) (a : Expr) (x : Num) → (evaluate u s a).value ≡ Ok (number x)
    → (evaluate u s (un op a)).value ≡ number_result (unary op x)
unfolding evaluate
un_value u s op a x h = then_is (evaluate u s a) (λ (v : Value). done (number_result (unary op (number_in v)))) (number x) h

cast_value : (u : CUnit) (s : Statics) (t : CScalar) (a : Expr) (x : Num) → (evaluate u s a).value ≡ Ok (number x)
    → (evaluate u s (cast t a)).value ≡ number_result (converted t x)
unfolding evaluate
cast_value u s t a x h = then_is (evaluate u s a) (λ (v : Value). done (number_result (converted t (number_in v)))) (number x) h

-- both operands are evaluated
two_values : (op : CBin) (l r : Met Value) (x y : Num) → l.value ≡ Ok (number x) → r.value ≡ Ok (number y)
    → (l >>= λ (v : Value). r >>= λ (w : Value). done (number_result (binary op (number_in v) (number_in w)))).value ≡ number_result (binary op x y)
two_values op l r x y h g =
    then_is l (λ (v : Value). r >>= λ (w : Value). done (number_result (binary op (number_in v) (number_in w)))) (number x) h
    ∙ then_is r (λ (w : Value). done (number_result (binary op x (number_in w)))) (number y) g

bin_value : (u : CUnit) (s : Statics) (op : CBin) (a b : Expr) (x y : Num) → decided_at op ≡ None → (evaluate u s a).value ≡ Ok (number x)
    → (evaluate u s b).value ≡ Ok (number y)
    → (evaluate u s (bin op a b)).value ≡ number_result (binary op x y)
unfolding evaluate
bin_value u s op a b x y d h g =
    ap (λ (q : Option Bool). (both q op (evaluate u s a) (evaluate u s b)).value) d ∙ two_values op (evaluate u s a) (evaluate u s b) x y h g

-- what `&&` and `||` do with the first operand's value
abbrev beside : CBin → Bool → Met Value → Num → Met Value
beside op q r x = if decides q x then done (Ok (number (truth q))) else (r >>= λ (w : Value). done (number_result (binary op x (number_in w))))

-- the same, where the test is known
abbrev tested : CBin → Bool → Met Value → Num → Bool → Met Value
tested op q r x k = if k then done (Ok (number (truth q))) else (r >>= λ (w : Value). done (number_result (binary op x (number_in w))))

-- the first operand decides
decided_value : (u : CUnit) (s : Statics) (op : CBin) (a b : Expr) (x : Num) (q : Bool) → decided_at op ≡ Some q → (evaluate u s a).value ≡ Ok (number x)
    → decides q x ≡ true
    → (evaluate u s (bin op a b)).value ≡ Ok (number (truth q))
unfolding evaluate
decided_value u s op a b x q d h t =
    ap (λ (o : Option Bool). (both o op (evaluate u s a) (evaluate u s b)).value) d
    ∙ then_is (evaluate u s a) (λ (v : Value). beside op q (evaluate u s b) (number_in v)) (number x) h
    ∙ ap (λ (k : Bool). (tested op q (evaluate u s b) x k).value) t

-- it doesn't
undecided_value : (u : CUnit) (s : Statics) (op : CBin) (a b : Expr) (x y : Num) (q : Bool) → decided_at op ≡ Some q
    → (evaluate u s a).value ≡ Ok (number x) → decides q x ≡ false
    → (evaluate u s b).value ≡ Ok (number y) → (evaluate u s (bin op a b)).value ≡ number_result (binary op x y)
unfolding evaluate
undecided_value u s op a b x y q d h t g =
    ap (λ (o : Option Bool). (both o op (evaluate u s a) (evaluate u s b)).value) d
    ∙ then_is (evaluate u s a) (λ (v : Value). beside op q (evaluate u s b) (number_in v)) (number x) h
    ∙ ap (λ (k : Bool). (tested op q (evaluate u s b) x k).value) t
    ∙ then_is (evaluate u s b) (λ (w : Value). done (number_result (binary op x (number_in w)))) (number y) g

-- the arm that is taken, converted to the type of both
arm_value : (u : CUnit) (s : Statics) (p a b : Expr) (z y : Num) (t : CScalar) → arms_type_of (type_of u a) (type_of u b) ≡ Some (cty.Scalar t)
    → (evaluate u s p).value ≡ Ok (number z)
    → (evaluate u s (if is_zero z then b else a)).value ≡ Ok (number y) → (evaluate u s (choose p a b)).value ≡ number_result (converted t y)
unfolding evaluate
arm_value u s p a b z y t d h g =
    ap (λ (o : Option CTy). (chosen o (evaluate u s p) (evaluate u s a) (evaluate u s b)).value) d
    ∙ then_is (evaluate u s p)
    (λ (v : Value). (if is_zero (number_in v) then evaluate u s b else evaluate u s a) >>= λ (w : Value). done (settled (Some (cty.Scalar t)) w))
    (number z) h
    ∙ by (is_zero z) g
  where
    by : (k : Bool) → (evaluate u s (if k then b else a)).value ≡ Ok (number y)
        → ((if k then evaluate u s b else evaluate u s a) >>= λ (w : Value). done (settled (Some (cty.Scalar t)) w)).value ≡ number_result (converted t y)
    by true f = then_is (evaluate u s b) (λ (w : Value). done (settled (Some (cty.Scalar t)) w)) (number y) f
    by false f = then_is (evaluate u s a) (λ (w : Value). done (settled (Some (cty.Scalar t)) w)) (number y) f

-- ---- expressions

pub lit_yields : (u : CUnit) (s : Statics) (k : CLit) (n : ℕ) → Yields u s (e.Lit k n) (num (literal_type k) (pos n))
lit_yields u s k n = record { is = ap (λ (a : Expr). (evaluate u s a).value) (tree-Lit k n) ∙ lit_value u s k n; typed = lit_type u k n }

pub true_yields : (u : CUnit) (s : Statics) → Yields u s e.True (truth true)
unfolding evaluate
true_yields u s = record { is = ap (λ (a : Expr). (evaluate u s a).value) tree-True; typed = ap (type_of u) tree-True }

pub false_yields : (u : CUnit) (s : Statics) → Yields u s e.False (truth false)
unfolding evaluate
false_yields u s = record { is = ap (λ (a : Expr). (evaluate u s a).value) tree-False; typed = ap (type_of u) tree-False }

pub un_yields : (u : CUnit) (s : Statics) (op : CUn) (a : CExpr) (x z : Num) → Yields u s a x → unary op x ≡ Ok z → z.ty ≡ unary_type op x.ty
    → Yields u s (e.Un op a) z
un_yields u s op a x z h r t = record {
  is = ap (λ (v : Expr). (evaluate u s v).value) (tree-Un op a) ∙ un_value u s op (tree a) x h.is ∙ ap number_result r;
  typed = un_type u op a x.ty h.typed ∙ ap (λ (v : CScalar). Some (cty.Scalar v)) (sym t);
}

pub cast_yields : (u : CUnit) (s : Statics) (t : CScalar) (a : CExpr) (x : Num) (z : ℤ) → Yields u s a x → converted t x ≡ Ok (num t z)
    → Yields u s (e.Cast t a) (num t z)
cast_yields u s t a x z h r = record {
  is = ap (λ (v : Expr). (evaluate u s v).value) (tree-Cast t a) ∙ cast_value u s t (tree a) x h.is ∙ ap number_result r;
  typed = cast_type u t a x.ty h.typed;
}

pub bin_yields : (u : CUnit) (s : Statics) (op : CBin) (a b : CExpr) (x y z : Num) → decided_at op ≡ None → Yields u s a x → Yields u s b y
    → binary op x y ≡ Ok z → z.ty ≡ binary_type op x.ty y.ty → Yields u s (e.Bin op a b) z
bin_yields u s op a b x y z d h g r t = record {
  is = ap (λ (v : Expr). (evaluate u s v).value) (tree-Bin op a b) ∙ bin_value u s op (tree a) (tree b) x y d h.is g.is ∙ ap number_result r;
  typed = bin_type u op a b x.ty y.ty h.typed g.typed ∙ ap (λ (v : CScalar). Some (cty.Scalar v)) (sym t);
}

pub decided_yields : (u : CUnit) (s : Statics) (op : CBin) (a b : CExpr) (x : Num) (y : CScalar) (q : Bool) → decided_at op ≡ Some q → Yields u s a x
    → HasType u b y
    → decides q x ≡ true → (truth q).ty ≡ binary_type op x.ty y → Yields u s (e.Bin op a b) (truth q)
decided_yields u s op a b x y q d h g r t = record {
  is = ap (λ (v : Expr). (evaluate u s v).value) (tree-Bin op a b) ∙ decided_value u s op (tree a) (tree b) x q d h.is r;
  typed = bin_type u op a b x.ty y h.typed g ∙ ap (λ (v : CScalar). Some (cty.Scalar v)) (sym t);
}

pub undecided_yields : (u : CUnit) (s : Statics) (op : CBin) (a b : CExpr) (x y z : Num) (q : Bool) → decided_at op ≡ Some q → Yields u s a x → Yields u s b y
    → decides q x ≡ false → binary op x y ≡ Ok z → z.ty ≡ binary_type op x.ty y.ty → Yields u s (e.Bin op a b) z
undecided_yields u s op a b x y z q d h g r f t = record {
  is = ap (λ (v : Expr). (evaluate u s v).value) (tree-Bin op a b) ∙ undecided_value u s op (tree a) (tree b) x y q d h.is r g.is ∙ ap number_result f;
  typed = bin_type u op a b x.ty y.ty h.typed g.typed ∙ ap (λ (v : CScalar). Some (cty.Scalar v)) (sym t);
}

arms-are : (u : CUnit) (a b : CExpr) (x y : CScalar) → HasType u a x → HasType u b y
    → arms_type_of (type_of u (tree a)) (type_of u (tree b)) ≡ Some (cty.Scalar (usual x y))
arms-are u a b x y h g = λ i. arms_type_of (h i) (g i)

pub first_yields : (u : CUnit) (s : Statics) (p a b : CExpr) (z x : Num) (y : CScalar) (n : ℤ) → Yields u s p z → is_zero z ≡ false → Yields u s a x
    → HasType u b y
    → converted (usual x.ty y) x ≡ Ok (num (usual x.ty y) n) → Yields u s (e.Cond p a b) (num (usual x.ty y) n)
first_yields u s p a b z x y n k f h g r = record {
  is = ap (λ (v : Expr). (evaluate u s v).value) (tree-Cond p a b)
      ∙ arm_value u s (tree p) (tree a) (tree b) z x (usual x.ty y) (arms-are u a b x.ty y h.typed g) k.is
      (ap (λ (t : Bool). (evaluate u s (if t then tree b else tree a)).value) f ∙ h.is)
      ∙ ap number_result r;
  typed = cond_type u p a b z.ty x.ty y k.typed h.typed g;
}

pub second_yields : (u : CUnit) (s : Statics) (p a b : CExpr) (z y : Num) (x : CScalar) (n : ℤ) → Yields u s p z → is_zero z ≡ true → HasType u a x
    → Yields u s b y
    → converted (usual x y.ty) y ≡ Ok (num (usual x y.ty) n) → Yields u s (e.Cond p a b) (num (usual x y.ty) n)
second_yields u s p a b z y x n k f h g r = record {
  is = ap (λ (v : Expr). (evaluate u s v).value) (tree-Cond p a b)
      ∙ arm_value u s (tree p) (tree a) (tree b) z y (usual x y.ty) (arms-are u a b x y.ty h g.typed) k.is
      (ap (λ (t : Bool). (evaluate u s (if t then tree b else tree a)).value) f ∙ g.is)
      ∙ ap number_result r;
  typed = cond_type u p a b z.ty x y.ty k.typed h g.typed;
}
