-- What the laws of operators say, as premises.
use Rattle.std.specs.Prelude.{◌≡◌, ℕ, IsTrue, Ok}
use Rattle.stream_types.specs.declared.scalar.Scalar.{Scalar}
use Rattle.stream_types.specs.declared.scalar.Scalar.TheVariants as scalar
use Rattle.stream_types.specs.declared.scalar.Op1.{Op1}
use Rattle.stream_types.specs.declared.scalar.Op2.{Op2}
use Rattle.stream_types.specs.declared.scalar.Dir.{Dir}
use Rattle.stream_types.specs.Scalars.{op1_fits, op2_fits, op2_gives, shift_fits, cast_fits}
use Rattle.stream_types.specs.Numbers.{is_word, op1_word, op2_word, shift_word, cast_word}
use Rattle.c99_tree.specs.declared.expr.CExpr.{CExpr}
use Rattle.c99_tree.specs.declared.expr.CExpr.TheVariants as e
use Rattle.c99_tree.specs.declared.expr.CUn.TheVariants as u
use Rattle.c99_tree.specs.declared.expr.CBin.TheVariants as o
use Rattle.c99_tree.specs.declared.unit.Unit.{Unit as CUnit}
use Rattle.c99_tree.specs.Evaluation.{Statics}
use Rattle.ring_codegen.specs.CTypes.{c_scalar}
use Rattle.ring_codegen.specs.Translation as to
use Rattle.ring_codegen.specs.Carried.{HasCarrier, GivesWord}

pub record OperatorTypes : Type 0 where
  pub literal : (unit : CUnit) (t : Scalar) (w : ℕ) → HasCarrier unit (to.literal t w) t
  pub unary : (unit : CUnit) (op : Op1) (t : Scalar) (a : CExpr) → IsTrue (op1_fits op t) → HasCarrier unit a t → HasCarrier unit (to.unary op t a) t
  pub binary : (unit : CUnit) (op : Op2) (t : Scalar) (a b : CExpr) → HasCarrier unit a t → HasCarrier unit b t → HasCarrier unit (to.binary op t a b) (op2_gives op t)
  pub shift : (unit : CUnit) (d : Dir) (t count : Scalar) (a n : CExpr) → HasCarrier unit a t → HasCarrier unit n count → HasCarrier unit (to.shifted d t a n) t
  pub cast : (unit : CUnit) (from t : Scalar) (a : CExpr) → HasCarrier unit a from → HasCarrier unit (e.Cast (c_scalar t) a) t
  pub both : (unit : CUnit) (a b : CExpr) → HasCarrier unit a scalar.Bool → HasCarrier unit b scalar.Bool → HasCarrier unit (e.Bin o.And a b) scalar.Bool
  pub either : (unit : CUnit) (a b : CExpr) → HasCarrier unit a scalar.Bool → HasCarrier unit b scalar.Bool → HasCarrier unit (e.Bin o.Or a b) scalar.Bool
  pub implied : (unit : CUnit) (a b : CExpr) → HasCarrier unit a scalar.Bool → HasCarrier unit b scalar.Bool → HasCarrier unit (e.Bin o.Or (e.Un u.Not a) b) scalar.Bool
  pub choice : (unit : CUnit) (t : Scalar) (p a b : CExpr) → HasCarrier unit p scalar.Bool → HasCarrier unit a t → HasCarrier unit b t → HasCarrier unit (e.Cond p a b) t

pub record OperatorWords : Type 0 where
  pub literal : (unit : CUnit) (s : Statics) (t : Scalar) (w : ℕ) → IsTrue (is_word t w) → GivesWord unit s (to.literal t w) t w
  pub unary : (unit : CUnit) (s : Statics) (op : Op1) (t : Scalar) (a : CExpr) (x : ℕ) → IsTrue (op1_fits op t) → IsTrue (is_word t x)
      → GivesWord unit s a t x → GivesWord unit s (to.unary op t a) t (op1_word op t x)
  pub binary : (unit : CUnit) (s : Statics) (op : Op2) (t : Scalar) (a b : CExpr) (x y w : ℕ) → IsTrue (op2_fits op t)
      → IsTrue (is_word t x) → IsTrue (is_word t y) → GivesWord unit s a t x → GivesWord unit s b t y
      → op2_word op t x y ≡ Ok w → GivesWord unit s (to.binary op t a b) (op2_gives op t) w
  pub shift : (unit : CUnit) (s : Statics) (d : Dir) (t count : Scalar) (a n : CExpr) (x y w : ℕ) → IsTrue (shift_fits t count)
      → IsTrue (is_word t x) → IsTrue (is_word count y) → GivesWord unit s a t x → GivesWord unit s n count y
      → shift_word d t x count y ≡ Ok w → GivesWord unit s (to.shifted d t a n) t w
  pub cast : (unit : CUnit) (s : Statics) (from t : Scalar) (a : CExpr) (x w : ℕ) → IsTrue (cast_fits from t)
      → IsTrue (is_word from x) → GivesWord unit s a from x → cast_word from t x ≡ Ok w → GivesWord unit s (e.Cast (c_scalar t) a) t w
  pub and_false : (unit : CUnit) (s : Statics) (a b : CExpr) → GivesWord unit s a scalar.Bool 0 → HasCarrier unit b scalar.Bool
      → GivesWord unit s (e.Bin o.And a b) scalar.Bool 0
  pub and_true : (unit : CUnit) (s : Statics) (a b : CExpr) (y : ℕ) → IsTrue (is_word scalar.Bool y)
      → GivesWord unit s a scalar.Bool 1 → GivesWord unit s b scalar.Bool y → GivesWord unit s (e.Bin o.And a b) scalar.Bool y
  pub or_true : (unit : CUnit) (s : Statics) (a b : CExpr) → GivesWord unit s a scalar.Bool 1 → HasCarrier unit b scalar.Bool
      → GivesWord unit s (e.Bin o.Or a b) scalar.Bool 1
  pub or_false : (unit : CUnit) (s : Statics) (a b : CExpr) (y : ℕ) → IsTrue (is_word scalar.Bool y)
      → GivesWord unit s a scalar.Bool 0 → GivesWord unit s b scalar.Bool y → GivesWord unit s (e.Bin o.Or a b) scalar.Bool y
  pub implies_false : (unit : CUnit) (s : Statics) (a b : CExpr) → GivesWord unit s a scalar.Bool 0 → HasCarrier unit b scalar.Bool
      → GivesWord unit s (e.Bin o.Or (e.Un u.Not a) b) scalar.Bool 1
  pub implies_true : (unit : CUnit) (s : Statics) (a b : CExpr) (y : ℕ) → IsTrue (is_word scalar.Bool y)
      → GivesWord unit s a scalar.Bool 1 → GivesWord unit s b scalar.Bool y
      → GivesWord unit s (e.Bin o.Or (e.Un u.Not a) b) scalar.Bool y
  pub choice_true : (unit : CUnit) (s : Statics) (t : Scalar) (p a b : CExpr) (x : ℕ) → IsTrue (is_word t x)
      → GivesWord unit s p scalar.Bool 1 → GivesWord unit s a t x → HasCarrier unit b t → GivesWord unit s (e.Cond p a b) t x
  pub choice_false : (unit : CUnit) (s : Statics) (t : Scalar) (p a b : CExpr) (y : ℕ) → IsTrue (is_word t y)
      → GivesWord unit s p scalar.Bool 0 → HasCarrier unit a t → GivesWord unit s b t y → GivesWord unit s (e.Cond p a b) t y
