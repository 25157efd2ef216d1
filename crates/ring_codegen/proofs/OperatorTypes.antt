-- The translation of an operator has a type that carries its answer's scalar.
use Rattle.std.proofs.Common.{◌≡◌, ℕ, Bool, true, false, Some, inr, refl, ap, ◌∙◌}
use Rattle.std.specs.Prelude.{IsTrue, ℤ, pos, negsuc, nat_eq, if◌then◌else◌}
use Rattle.stream_types.specs.declared.scalar.Scalar.{Scalar}
use Rattle.stream_types.specs.declared.scalar.Scalar.TheVariants as scalar
use Rattle.stream_types.specs.declared.scalar.Op1.{Op1}
use Rattle.stream_types.specs.declared.scalar.Op1.TheVariants as op1
use Rattle.stream_types.specs.declared.scalar.Op2.{Op2}
use Rattle.stream_types.specs.declared.scalar.Op2.TheVariants as op2
use Rattle.stream_types.specs.declared.scalar.Dir.{Dir}
use Rattle.stream_types.specs.Scalars.{op1_fits, op2_gives}
use Rattle.stream_types.specs.Numbers.{number}
use Rattle.c99_tree.specs.declared.expr.CExpr.{CExpr}
use Rattle.c99_tree.specs.declared.expr.CExpr.TheVariants as e
use Rattle.c99_tree.specs.declared.expr.CLit.{CLit}
use Rattle.c99_tree.specs.declared.expr.CLit.TheVariants as k
use Rattle.c99_tree.specs.declared.expr.CUn.TheVariants as un
use Rattle.c99_tree.specs.declared.expr.CBin.{CBin}
use Rattle.c99_tree.specs.declared.expr.CBin.TheVariants as o
use Rattle.c99_tree.specs.declared.types.CScalar.{CScalar}
use Rattle.c99_tree.specs.declared.types.CScalar.TheVariants as c
use Rattle.c99_tree.specs.declared.types.CTy.TheVariants as cty
use Rattle.c99_tree.specs.declared.unit.Unit.{Unit as CUnit}
use Rattle.c99_tree.specs.TreeLaws.{tree-True, tree-False}
use Rattle.c99_tree.specs.CTypes.{promoted, usual}
use Rattle.c99_tree.specs.Typing.{type_of, literal_type, binary_type}
use Rattle.ring_codegen.specs.CTypes.{c_scalar}
use Rattle.ring_codegen.specs.Translation.{wide, constant, literal, unary, binary, arithmetic, shifted, shift_sign}
use Rattle.ring_codegen.specs.Carried.{HasCarrier}
use Rattle.ring_codegen.proofs.Carriers.{usual_carries, scalar_carries}
use Rattle.ring_codegen.proofs.Yielding.{HasType, lit_type, un_type, bin_type, cast_type, cond_type}

-- ---- literals

-- the types of literals are their own common types
pub literal_usual : (q : CLit) → usual (literal_type q) (literal_type q) ≡ literal_type q
literal_usual k.I = refl
literal_usual k.U = refl
literal_usual k.LL = refl
literal_usual k.ULL = refl

pub literal_promoted : (q : CLit) → promoted (literal_type q) ≡ literal_type q
literal_promoted k.I = refl
literal_promoted k.U = refl
literal_promoted k.LL = refl
literal_promoted k.ULL = refl

constant_type : (u : CUnit) (q : CLit) (z : ℤ) → HasType u (constant q z) (literal_type q)
constant_type u q (pos n) = lit_type u q n
constant_type u q (negsuc n) =
    bin_type u o.Sub (e.Un un.Neg (e.Lit q n)) (e.Lit q 1) (promoted (literal_type q)) (literal_type q)
    (un_type u un.Neg (e.Lit q n) (literal_type q) (lit_type u q n)) (lit_type u q 1)
    ∙ ap (λ (v : CScalar). Some (cty.Scalar (usual v (literal_type q)))) (literal_promoted q)
    ∙ ap (λ (v : CScalar). Some (cty.Scalar v)) (literal_usual q)

truth_has : (u : CUnit) (b : Bool) → HasCarrier u (if b then e.False else e.True) scalar.Bool
truth_has u true = record { ty = c.I32; is = ap (type_of u) tree-False; carrier = inr refl }
truth_has u false = record { ty = c.I32; is = ap (type_of u) tree-True; carrier = inr refl }

pub literal_has : (u : CUnit) (t : Scalar) (w : ℕ) → HasCarrier u (literal t w) t
literal_has u scalar.Bool w = truth_has u (nat_eq w 0)
literal_has u scalar.Int8 w = record { ty = c.I32; is = constant_type u k.I (number scalar.Int8 w); carrier = inr refl }
literal_has u scalar.Int16 w = record { ty = c.I32; is = constant_type u k.I (number scalar.Int16 w); carrier = inr refl }
literal_has u scalar.Int32 w = record { ty = c.I32; is = constant_type u k.I (number scalar.Int32 w); carrier = refl }
literal_has u scalar.Int64 w = record { ty = c.I64; is = constant_type u k.LL (number scalar.Int64 w); carrier = refl }
literal_has u scalar.Word8 w = record { ty = c.U32; is = constant_type u k.U (number scalar.Word8 w); carrier = inr (inr refl) }
literal_has u scalar.Word16 w = record { ty = c.U32; is = constant_type u k.U (number scalar.Word16 w); carrier = inr (inr refl) }
literal_has u scalar.Word32 w = record { ty = c.U32; is = constant_type u k.U (number scalar.Word32 w); carrier = refl }
literal_has u scalar.Word64 w = record { ty = c.U64; is = constant_type u k.ULL (number scalar.Word64 w); carrier = refl }

-- ---- operators

not_has : (u : CUnit) (a : CExpr) → HasCarrier u a scalar.Bool → HasCarrier u (e.Un un.Not a) scalar.Bool
not_has u a h = record { ty = c.I32; is = un_type u un.Not a h.ty h.is; carrier = inr refl }

pub unary_has : (u : CUnit) (op : Op1) (t : Scalar) (a : CExpr) → IsTrue (op1_fits op t) → HasCarrier u a t → HasCarrier u (unary op t a) t
unary_has u op1.Not scalar.Bool a i h = not_has u a h
unary_has u op1.Not _ a i h = absurd (cc)
unary_has u op1.BitNot t a i h = record {
  ty = c_scalar t;
  is = cast_type u (c_scalar t) (e.Un un.BitNot (e.Cast (wide t) a)) (promoted (wide t))
      (un_type u un.BitNot (e.Cast (wide t) a) (wide t) (cast_type u (wide t) a h.ty h.is));
  carrier = scalar_carries t;
}

arithmetic_has : (u : CUnit) (op : CBin) (t : Scalar) (a b : CExpr) → HasCarrier u a t → HasCarrier u b t → HasCarrier u (arithmetic op t a b) t
arithmetic_has u op t a b h g = record {
  ty = c_scalar t;
  is = cast_type u (c_scalar t) (e.Bin op (e.Cast (wide t) a) (e.Cast (wide t) b)) (binary_type op (wide t) (wide t))
      (bin_type u op (e.Cast (wide t) a) (e.Cast (wide t) b) (wide t) (wide t) (cast_type u (wide t) a h.ty h.is) (cast_type u (wide t) b g.ty g.is));
  carrier = scalar_carries t;
}

-- a comparison or a logical operator gives an int
int_has : (u : CUnit) (op : CBin) (t r : Scalar) (a b : CExpr) → ((x y : CScalar) → binary_type op x y ≡ c.I32) → HasCarrier u a t → HasCarrier u b r
    → HasCarrier u (e.Bin op a b) scalar.Bool
int_has u op t r a b i h g = record {
  ty = c.I32;
  is = bin_type u op a b h.ty g.ty h.is g.is ∙ ap (λ (v : CScalar). Some (cty.Scalar v)) (i h.ty g.ty);
  carrier = inr refl;
}

pub binary_has : (u : CUnit) (op : Op2) (t : Scalar) (a b : CExpr) → HasCarrier u a t → HasCarrier u b t → HasCarrier u (binary op t a b) (op2_gives op t)
binary_has u op2.Add t a b h g = arithmetic_has u o.Add t a b h g
binary_has u op2.Sub t a b h g = arithmetic_has u o.Sub t a b h g
binary_has u op2.Mul t a b h g = arithmetic_has u o.Mul t a b h g
binary_has u op2.Quot t a b h g = arithmetic_has u o.Div t a b h g
binary_has u op2.Rem t a b h g = arithmetic_has u o.Rem t a b h g
binary_has u op2.BitAnd t a b h g = arithmetic_has u o.BitAnd t a b h g
binary_has u op2.BitOr t a b h g = arithmetic_has u o.BitOr t a b h g
binary_has u op2.BitXor t a b h g = arithmetic_has u o.BitXor t a b h g
binary_has u op2.Eq t a b h g = int_has u o.Eq t t a b (λ x y. refl) h g
binary_has u op2.Ne t a b h g = int_has u o.Ne t t a b (λ x y. refl) h g
binary_has u op2.Lt t a b h g = int_has u o.Lt t t a b (λ x y. refl) h g
binary_has u op2.Le t a b h g = int_has u o.Le t t a b (λ x y. refl) h g
binary_has u op2.Gt t a b h g = int_has u o.Gt t t a b (λ x y. refl) h g
binary_has u op2.Ge t a b h g = int_has u o.Ge t t a b (λ x y. refl) h g

pub shift_has : (u : CUnit) (d : Dir) (t count : Scalar) (a n : CExpr) → HasCarrier u a t → HasCarrier u n count → HasCarrier u (shifted d t a n) t
shift_has u d t count a n h g = record {
  ty = c_scalar t;
  is = cast_type u (c_scalar t) (e.Bin (shift_sign d) (e.Cast (wide t) a) n) (binary_type (shift_sign d) (wide t) g.ty)
      (bin_type u (shift_sign d) (e.Cast (wide t) a) n (wide t) g.ty (cast_type u (wide t) a h.ty h.is) g.is);
  carrier = scalar_carries t;
}

pub cast_has : (u : CUnit) (from t : Scalar) (a : CExpr) → HasCarrier u a from → HasCarrier u (e.Cast (c_scalar t) a) t
cast_has u from t a h = record { ty = c_scalar t; is = cast_type u (c_scalar t) a h.ty h.is; carrier = scalar_carries t }

pub and_has : (u : CUnit) (a b : CExpr) → HasCarrier u a scalar.Bool → HasCarrier u b scalar.Bool → HasCarrier u (e.Bin o.And a b) scalar.Bool
and_has u a b h g = int_has u o.And scalar.Bool scalar.Bool a b (λ x y. refl) h g

pub or_has : (u : CUnit) (a b : CExpr) → HasCarrier u a scalar.Bool → HasCarrier u b scalar.Bool → HasCarrier u (e.Bin o.Or a b) scalar.Bool
or_has u a b h g = int_has u o.Or scalar.Bool scalar.Bool a b (λ x y. refl) h g

pub implies_has : (u : CUnit) (a b : CExpr) → HasCarrier u a scalar.Bool → HasCarrier u b scalar.Bool → HasCarrier u (e.Bin o.Or (e.Un un.Not a) b) scalar.Bool
implies_has u a b h g = or_has u (e.Un un.Not a) b (not_has u a h) g

pub choice_has : (u : CUnit) (t : Scalar) (p a b : CExpr) → HasCarrier u p scalar.Bool → HasCarrier u a t → HasCarrier u b t → HasCarrier u (e.Cond p a b) t
choice_has u t p a b k h g = record {
  ty = usual h.ty g.ty;
  is = cond_type u p a b k.ty h.ty g.ty k.is h.is g.is;
  carrier = usual_carries t h.ty g.ty h.carrier g.carrier;
}
