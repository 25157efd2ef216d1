-- What the rules say of a statement's expressions, and how wide the values of a ring are.
use Rattle.std.proofs.Common.{◌≡◌, ℕ, ◌+◌, Bool, true, false, List, [], ◌++◌, length, Option, Some, None, refl, sym, ap, ◌∙◌, subst}
use Rattle.std.specs.Prelude.{IsTrue, is_some, slice_get}
use Rattle.std.specs.List.{list_all, flat_map}
use Rattle.std.specs.Option.{option_map_or}
use Rattle.std.proofs.lemmas.List.Folds.{list_all-append}
use Rattle.c99_tree.specs.declared.types.CTy.{CTy}
use Rattle.c99_tree.specs.declared.types.CTy.TheVariants as ty
use Rattle.c99_tree.specs.declared.unit.CRing.{CRing}
use Rattle.c99_tree.specs.declared.unit.Unit.{Unit as CUnit}
use Rattle.c99_tree.specs.Tree.{Expr, Exprs, none, more, Stmt}
use Rattle.c99_tree.specs.Words.{is_same}
use Rattle.c99_tree.specs.Lookup.{ring_of}
use Rattle.c99_tree.specs.Values.{Value, Shape, shape_of, words_of}
use Rattle.c99_tree.specs.Typing.{type_of, is_scalar_type}
use Rattle.c99_tree.specs.Evaluation.{Statics, values_in}
use Rattle.c99_tree.specs.Typed.{IsValueOf, IsStatics}
use Rattle.c99_tree.specs.WellFormed.{parts_of, parts_of_all, list_of, parts_in, is_in_range, is_there, types_come_first, is_scalar_expr}
use Rattle.c99_tree.proofs.LookedUp.{found_passes}
use Rattle.c99_tree.proofs.Shaped.{rings_shaped}
use Rattle.c99_tree.proofs.TypedStatements.{Ruled}
use Rattle.sm_io.proofs.Truths.{left_passes, right_passes}
use Rattle.c_exec.specs.Layout.{ring_width, value_width, index_start}
use Rattle.c_exec.specs.Machine.{words_of_statics}
use Rattle.c_exec.proofs.CodeGoes.{Good, Scalar}
use Rattle.c_exec.proofs.ElementsGo.{Stand}
use Rattle.c_exec.proofs.LaidOut.{some_shape, ring_laid}
use Rattle.c_exec.proofs.ShapeWidths.{value_long}

-- what the rules say of a statement behind others, and of what its expressions name
pub record Known (u : CUnit) (before : List Stmt) (s : Stmt) : Type 0 where
  pub ruled : Ruled u before s
  pub there : list_all (is_there u) (parts_in s) ≡ true

first_part : (p : Expr → Bool) (a : Expr) (es : List Expr) → list_all p (parts_of a ++ es) ≡ true → list_all p (parts_of a) ≡ true
first_part p a es h = left_passes (list_all p (parts_of a)) (list_all p es) (sym (list_all-append p (parts_of a) es) ∙ h)

listed_parts : (es : Exprs) → flat_map parts_of (list_of es) ≡ parts_of_all es
listed_parts none = refl
listed_parts (more e es) = ap (λ (ps : List Expr). parts_of e ++ ps) (listed_parts es)

other_parts : (p : Expr → Bool) (a : Expr) (es : Exprs) → list_all p (parts_of a ++ flat_map parts_of (list_of es)) ≡ true
    → list_all p (parts_of_all es) ≡ true
other_parts p a es h =
    let rest : List Expr = flat_map parts_of (list_of es) in
    subst (λ (xs : List Expr). list_all p xs ≡ true) (listed_parts es)
    (right_passes (list_all p (parts_of a)) (list_all p rest) (sym (list_all-append p (parts_of a) rest) ∙ h))

-- the expression of a statement with one alone
pub one_good : (u : CUnit) (e : Expr) → list_all is_in_range (parts_of e ++ []) ≡ true → list_all (is_there u) (parts_of e ++ []) ≡ true
    → Good u (parts_of e)
one_good u e h g = record { ranges = first_part is_in_range e [] h; there = first_part (is_there u) e [] g }

-- the guard and the arguments of a call
pub guard_good : (u : CUnit) (e : Expr) (es : Exprs) → list_all is_in_range (parts_of e ++ flat_map parts_of (list_of es)) ≡ true
    → list_all (is_there u) (parts_of e ++ flat_map parts_of (list_of es)) ≡ true → Good u (parts_of e)
guard_good u e es h g =
    let rest : List Expr = flat_map parts_of (list_of es) in
    record { ranges = first_part is_in_range e rest h; there = first_part (is_there u) e rest g }

pub arguments_good : (u : CUnit) (e : Expr) (es : Exprs) → list_all is_in_range (parts_of e ++ flat_map parts_of (list_of es)) ≡ true
    → list_all (is_there u) (parts_of e ++ flat_map parts_of (list_of es)) ≡ true → Good u (parts_of_all es)
arguments_good u e es h g = record { ranges = other_parts is_in_range e es h; there = other_parts (is_there u) e es g }

scalar_is : (o : Option CTy) → option_map_or is_scalar_type o false ≡ true → Scalar o
scalar_is None h = absurd (cc h)
scalar_is (Some (ty.Scalar c)) h = (c, refl)
scalar_is (Some (ty.Struct x)) h = absurd (cc h)
scalar_is (Some (ty.Array x n)) h = absurd (cc h)

-- where a scalar is asked for, there is one
pub scalar_expr : (u : CUnit) (e : Expr) → is_scalar_expr u e ≡ true → Scalar (type_of u e)
scalar_expr u e h = scalar_is (type_of u e) h

-- ---- rings

pub width_of_ring : (u : CUnit) (r : List ℕ) (ring : CRing) → ring_of u r ≡ Some ring → value_width u r ≡ ring_width u.types ring
width_of_ring u r ring e = ap (λ (o : Option CRing). option_map_or (ring_width u.types) o 0) e

ring_shape : (u : CUnit) (r : List ℕ) (ring : CRing) → IsTrue (types_come_first u) → ring_of u r ≡ Some ring
    → (s : Shape) × (shape_of u.types ring.ty ≡ Some s)
ring_shape u r ring first e =
    some_shape (shape_of u.types ring.ty)
    (found_passes (λ (z : CRing). is_same r z.name) (λ (z : CRing). is_some (shape_of u.types z.ty)) u.rings ring (rings_shaped u first) e)

-- a value of a ring has as many words as each of the ring's values
pub value_wide : (u : CUnit) (r : List ℕ) (ring : CRing) (v : Value) → IsTrue (types_come_first u) → ring_of u r ≡ Some ring
    → IsValueOf u.types ring.ty v → length (words_of v) ≡ value_width u r
value_wide u r ring v first e h =
    let s = ring_shape u r ring first e in
    value_long u.types ring.ty s.0 v s.1 h ∙ sym (width_of_ring u r ring e)

pub values_wide : (u : CUnit) (s : Statics) (r : List ℕ) (ring : CRing) → IsTrue (types_come_first u) → IsStatics u s → ring_of u r ≡ Some ring
    → (k : ℕ) (v : Value) → slice_get (values_in u s r) k ≡ Some v → length (words_of v) ≡ value_width u r
values_wide u s r ring first h e =
    let laid : Stand (words_of_statics s) (index_start u r + 1) (value_width u r) (values_in u s r) = ring_laid u s r ring first h e in
    laid.long
