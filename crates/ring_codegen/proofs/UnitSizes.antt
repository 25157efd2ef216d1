-- How high and how heavy the translation of an expression is.
use Rattle.std.proofs.Common.{◌≡◌, ℕ, ◌+◌, ◌*◌, ◌≤◌, Bool, true, false, List, [], ◌∷◌, map, Option, Some, None, refl, sym, ap, ◌∙◌, subst, arith}
use Rattle.std.specs.Prelude.{slice_get, nat_eq, max, if◌then◌else◌, ℤ, pos, negsuc}
use Rattle.stream_types.specs.declared.scalar.Scalar.{Scalar}
use Rattle.stream_types.specs.declared.scalar.Scalar.TheVariants as scalar
use Rattle.stream_types.specs.declared.scalar.Op1.{Op1}
use Rattle.stream_types.specs.declared.scalar.Op1.TheVariants as op1
use Rattle.stream_types.specs.declared.scalar.Op2.{Op2}
use Rattle.stream_types.specs.declared.scalar.Op2.TheVariants as op2
use Rattle.stream_types.specs.declared.scalar.Dir.{Dir}
use Rattle.stream_types.specs.declared.types.TypeEntry.{TypeEntry}
use Rattle.stream_types.specs.Numbers as of
use Rattle.stream_core.specs.declared.spec.ExternItem.{ExternItem}
use Rattle.stream_core.specs.Term.{Term, Terms, lit, extern, stream, def, named, missing, dropped, un, bin, shift, cast, and, or, implies, choose, index, field, array, struct, abs, sign, majority, agreed, lib, end, more, TreeSpec, TreeStream, initial_count}
use Rattle.stream_core.specs.Limits.{plain_weight, plain_weights}
use Rattle.c99_tree.specs.declared.expr.CLit.{CLit}
use Rattle.c99_tree.specs.declared.expr.CLit.TheVariants as k
use Rattle.c99_tree.specs.declared.expr.CUn.{CUn}
use Rattle.c99_tree.specs.declared.expr.CUn.TheVariants as u
use Rattle.c99_tree.specs.declared.expr.CBin.{CBin}
use Rattle.c99_tree.specs.declared.expr.CBin.TheVariants as o
use Rattle.c99_tree.specs.declared.expr.CExpr.{CExpr}
use Rattle.c99_tree.specs.declared.expr.CExpr.TheVariants as e
use Rattle.c99_tree.specs.declared.types.CScalar.{CScalar}
use Rattle.c99_tree.specs.declared.types.CTy.{CTy}
use Rattle.c99_tree.specs.declared.types.CTy.TheVariants as cty
use Rattle.c99_tree.specs.Tree as c_tree
use Rattle.c99_tree.specs.Tree.{tree, exprs}
use Rattle.c99_tree.specs.TreeLaws.{tree-Lit, tree-True, tree-False, tree-Copy, tree-Head, tree-Cell, tree-RingAt, tree-Un, tree-Bin, tree-Cond, tree-Cast, tree-Field, tree-Pick, tree-Arr, tree-Rec}
use Rattle.c99_tree.specs.Spelling.{height, highest}
use Rattle.c99_tree.specs.Weight.{weight, weights}
use Rattle.ring_codegen.specs.CTypes.{c_scalar, c_type}
use Rattle.ring_codegen.specs.Translation.{wide, constant, literal, arithmetic, binary, unary, shift_sign, shifted, extern_value, is_indexed, place_behind, stream_value, picked, array_value, struct_value, translated, all_translated}
use Rattle.ring_codegen.proofs.TypesGiven.{tree_place}

-- an expression at most three times as high, and four times as heavy, as the weight of what it is the translation of
pub record IsSmall (e : CExpr) (w : ℕ) : Type 0 where
  pub high : height (tree e) ≤ 3 * w
  pub heavy : weight (tree e) ≤ 4 * w

pub record AreSmall (es : List CExpr) (w : ℕ) : Type 0 where
  pub high : highest (exprs (map tree es)) ≤ 3 * w
  pub heavy : weights (exprs (map tree es)) ≤ 4 * w

-- ---- the forms

name_small : (e : CExpr) (w : ℕ) → height (tree e) ≡ 0 → weight (tree e) ≡ 0 → IsSmall e w
name_small e w p q = record { high = omega (arith, p); heavy = omega (arith, q) }

false_small : (w : ℕ) → IsSmall e.False w
false_small w = name_small e.False w (ap height tree-False) (ap weight tree-False)

true_small : (w : ℕ) → IsSmall e.True w
true_small w = name_small e.True w (ap height tree-True) (ap weight tree-True)

lit_small : (q : CLit) (n w : ℕ) → IsSmall (e.Lit q n) w
lit_small q n w = name_small (e.Lit q n) w (ap height (tree-Lit q n)) (ap weight (tree-Lit q n))

copy_small : (x : List ℕ) (w : ℕ) → IsSmall (e.Copy x) w
copy_small x w = name_small (e.Copy x) w (ap height (tree-Copy x)) (ap weight (tree-Copy x))

cell_small : (x : List ℕ) (w : ℕ) → IsSmall (e.Cell x) w
cell_small x w = name_small (e.Cell x) w (ap height (tree-Cell x)) (ap weight (tree-Cell x))

high_un : (op : CUn) (a : CExpr) → height (tree (e.Un op a)) ≡ height (tree a) + 1
high_un op a = ap height (tree-Un op a)

heavy_un : (op : CUn) (a : CExpr) → weight (tree (e.Un op a)) ≡ 1 + weight (tree a)
heavy_un op a = ap weight (tree-Un op a)

high_bin : (op : CBin) (a b : CExpr) → height (tree (e.Bin op a b)) ≡ max (height (tree a)) (height (tree b)) + 1
high_bin op a b = ap height (tree-Bin op a b)

heavy_bin : (op : CBin) (a b : CExpr) → weight (tree (e.Bin op a b)) ≡ 1 + (weight (tree a) + weight (tree b))
heavy_bin op a b = ap weight (tree-Bin op a b)

high_cast : (t : CScalar) (a : CExpr) → height (tree (e.Cast t a)) ≡ height (tree a) + 1
high_cast t a = ap height (tree-Cast t a)

heavy_cast : (t : CScalar) (a : CExpr) → weight (tree (e.Cast t a)) ≡ 1 + weight (tree a)
heavy_cast t a = ap weight (tree-Cast t a)

un_small : (op : CUn) (a : CExpr) (w : ℕ) → IsSmall a w → IsSmall (e.Un op a) (1 + w)
un_small op a w h =
    let p = high_un op a in
    let q = heavy_un op a in
    let x = h.high in
    let y = h.heavy in
    record { high = omega (arith, p, x); heavy = omega (arith, q, y) }

bin_small : (op : CBin) (a b : CExpr) (v w : ℕ) → IsSmall a v → IsSmall b w → IsSmall (e.Bin op a b) (1 + v + w)
bin_small op a b v w h g =
    let p = high_bin op a b in
    let q = heavy_bin op a b in
    let x = h.high in
    let y = h.heavy in
    let r = g.high in
    let s = g.heavy in
    record { high = omega (arith, p, x, r); heavy = omega (arith, q, y, s) }

cast_small : (t : CScalar) (a : CExpr) (w : ℕ) → IsSmall a w → IsSmall (e.Cast t a) (1 + w)
cast_small t a w h =
    let p = high_cast t a in
    let q = heavy_cast t a in
    let x = h.high in
    let y = h.heavy in
    record { high = omega (arith, p, x); heavy = omega (arith, q, y) }

-- `((ct)(((wt)A) + ((wt)B)))`
arithmetic_small : (op : CBin) (t : Scalar) (a b : CExpr) (v w : ℕ) → IsSmall a v → IsSmall b w → IsSmall (arithmetic op t a b) (1 + v + w)
arithmetic_small op t a b v w h g =
    let p = high_cast (wide t) a in
    let q = high_cast (wide t) b in
    let r = high_bin op (e.Cast (wide t) a) (e.Cast (wide t) b) in
    let s = high_cast (c_scalar t) (e.Bin op (e.Cast (wide t) a) (e.Cast (wide t) b)) in
    let p2 = heavy_cast (wide t) a in
    let q2 = heavy_cast (wide t) b in
    let r2 = heavy_bin op (e.Cast (wide t) a) (e.Cast (wide t) b) in
    let s2 = heavy_cast (c_scalar t) (e.Bin op (e.Cast (wide t) a) (e.Cast (wide t) b)) in
    let x = h.high in
    let y = h.heavy in
    let m = g.high in
    let n = g.heavy in
    record { high = omega (arith, p, q, r, s, x, m); heavy = omega (arith, p2, q2, r2, s2, y, n) }

binary_small : (op : Op2) (t : Scalar) (a b : CExpr) (v w : ℕ) → IsSmall a v → IsSmall b w → IsSmall (binary op t a b) (1 + v + w)
binary_small op2.Add t a b v w h g = arithmetic_small o.Add t a b v w h g
binary_small op2.Sub t a b v w h g = arithmetic_small o.Sub t a b v w h g
binary_small op2.Mul t a b v w h g = arithmetic_small o.Mul t a b v w h g
binary_small op2.Quot t a b v w h g = arithmetic_small o.Div t a b v w h g
binary_small op2.Rem t a b v w h g = arithmetic_small o.Rem t a b v w h g
binary_small op2.BitAnd t a b v w h g = arithmetic_small o.BitAnd t a b v w h g
binary_small op2.BitOr t a b v w h g = arithmetic_small o.BitOr t a b v w h g
binary_small op2.BitXor t a b v w h g = arithmetic_small o.BitXor t a b v w h g
binary_small op2.Eq t a b v w h g = bin_small o.Eq a b v w h g
binary_small op2.Ne t a b v w h g = bin_small o.Ne a b v w h g
binary_small op2.Lt t a b v w h g = bin_small o.Lt a b v w h g
binary_small op2.Le t a b v w h g = bin_small o.Le a b v w h g
binary_small op2.Gt t a b v w h g = bin_small o.Gt a b v w h g
binary_small op2.Ge t a b v w h g = bin_small o.Ge a b v w h g

unary_small : (op : Op1) (t : Scalar) (a : CExpr) (w : ℕ) → IsSmall a w → IsSmall (unary op t a) (1 + w)
unary_small op1.Not t a w h = un_small u.Not a w h
unary_small op1.BitNot t a w h =
    let p = high_cast (wide t) a in
    let q = high_un u.BitNot (e.Cast (wide t) a) in
    let r = high_cast (c_scalar t) (e.Un u.BitNot (e.Cast (wide t) a)) in
    let p2 = heavy_cast (wide t) a in
    let q2 = heavy_un u.BitNot (e.Cast (wide t) a) in
    let r2 = heavy_cast (c_scalar t) (e.Un u.BitNot (e.Cast (wide t) a)) in
    let x = h.high in
    let y = h.heavy in
    record { high = omega (arith, p, q, r, x); heavy = omega (arith, p2, q2, r2, y) }

shifted_small : (d : Dir) (t : Scalar) (a n : CExpr) (v w : ℕ) → IsSmall a v → IsSmall n w → IsSmall (shifted d t a n) (1 + v + w)
shifted_small d t a n v w h g =
    let p = high_cast (wide t) a in
    let q = high_bin (shift_sign d) (e.Cast (wide t) a) n in
    let r = high_cast (c_scalar t) (e.Bin (shift_sign d) (e.Cast (wide t) a) n) in
    let p2 = heavy_cast (wide t) a in
    let q2 = heavy_bin (shift_sign d) (e.Cast (wide t) a) n in
    let r2 = heavy_cast (c_scalar t) (e.Bin (shift_sign d) (e.Cast (wide t) a) n) in
    let x = h.high in
    let y = h.heavy in
    let m = g.high in
    let z = g.heavy in
    record { high = omega (arith, p, q, r, x, m); heavy = omega (arith, p2, q2, r2, y, z) }

implies_small : (a b : CExpr) (v w : ℕ) → IsSmall a v → IsSmall b w → IsSmall (e.Bin o.Or (e.Un u.Not a) b) (1 + v + w)
implies_small a b v w h g =
    let p = high_un u.Not a in
    let q = high_bin o.Or (e.Un u.Not a) b in
    let p2 = heavy_un u.Not a in
    let q2 = heavy_bin o.Or (e.Un u.Not a) b in
    let x = h.high in
    let y = h.heavy in
    let m = g.high in
    let z = g.heavy in
    record { high = omega (arith, p, q, x, m); heavy = omega (arith, p2, q2, y, z) }

cond_small : (c a b : CExpr) (z v w : ℕ) → IsSmall c z → IsSmall a v → IsSmall b w → IsSmall (e.Cond c a b) (1 + z + v + w)
cond_small c a b z v w f h g =
    let p : height (tree (e.Cond c a b)) ≡ max (height (tree c)) (max (height (tree a)) (height (tree b))) + 1 = ap height (tree-Cond c a b) in
    let q : weight (tree (e.Cond c a b)) ≡ 1 + (weight (tree c) + (weight (tree a) + weight (tree b))) = ap weight (tree-Cond c a b) in
    let x = f.high in
    let y = f.heavy in
    let m = h.high in
    let n = h.heavy in
    let r = g.high in
    let s = g.heavy in
    record { high = omega (arith, p, x, m, r); heavy = omega (arith, q, y, n, s) }

-- ---- literals, externs and streams

constant_small : (q : CLit) (z : ℤ) → IsSmall (constant q z) 1
constant_small q (pos n) = lit_small q n 1
constant_small q (negsuc n) =
    let a : height (tree (e.Lit q n)) ≡ 0 = ap height (tree-Lit q n) in
    let b : height (tree (e.Lit q 1)) ≡ 0 = ap height (tree-Lit q 1) in
    let c = high_un u.Neg (e.Lit q n) in
    let d = high_bin o.Sub (e.Un u.Neg (e.Lit q n)) (e.Lit q 1) in
    let a2 : weight (tree (e.Lit q n)) ≡ 0 = ap weight (tree-Lit q n) in
    let b2 : weight (tree (e.Lit q 1)) ≡ 0 = ap weight (tree-Lit q 1) in
    let c2 = heavy_un u.Neg (e.Lit q n) in
    let d2 = heavy_bin o.Sub (e.Un u.Neg (e.Lit q n)) (e.Lit q 1) in
    record { high = omega (arith, a, b, c, d); heavy = omega (arith, a2, b2, c2, d2) }

truth_small : (b : Bool) → IsSmall (if b then e.False else e.True) 1
truth_small true = false_small 1
truth_small false = true_small 1

literal_small : (s : Scalar) (w : ℕ) → IsSmall (literal s w) 1
literal_small scalar.Bool w = truth_small (nat_eq w 0)
literal_small scalar.Int8 w = constant_small k.I (of.number scalar.Int8 w)
literal_small scalar.Int16 w = constant_small k.I (of.number scalar.Int16 w)
literal_small scalar.Int32 w = constant_small k.I (of.number scalar.Int32 w)
literal_small scalar.Int64 w = constant_small k.LL (of.number scalar.Int64 w)
literal_small scalar.Word8 w = constant_small k.U (of.number scalar.Word8 w)
literal_small scalar.Word16 w = constant_small k.U (of.number scalar.Word16 w)
literal_small scalar.Word32 w = constant_small k.U (of.number scalar.Word32 w)
literal_small scalar.Word64 w = constant_small k.ULL (of.number scalar.Word64 w)

extern_small : (x : Option ExternItem) → IsSmall (extern_value x) 1
extern_small None = false_small 1
extern_small (Some x) = copy_small x.name 1

-- a place behind a ring's index
pub record IsPlace (e : CExpr) : Type 0 where
  pub high : height (tree e) ≡ 2
  pub heavy : weight (tree e) ≡ 2

place_tree : (types : List TypeEntry) (x : TreeStream) (n : ℕ) → tree (place_behind types x n)
    ≡ c_tree.bin o.Rem (c_tree.bin o.Add (c_tree.head x.name) (c_tree.lit k.U n)) (c_tree.lit k.U (initial_count types x))
place_tree types x n = tree_place x.name n (initial_count types x)

pub place_small : (types : List TypeEntry) (x : TreeStream) (n : ℕ) → IsPlace (place_behind types x n)
place_small types x n = record {
  high = ap height (place_tree types x n);
  heavy = ap weight (place_tree types x n);
}

stream_small : (types : List TypeEntry) (n : ℕ) (x : Option TreeStream) → IsSmall (stream_value types n x) 1
stream_small types n None = false_small 1
stream_small types n (Some x) = by (is_indexed types x)
  where
    by : (b : Bool) → IsSmall (if b then e.RingAt x.name (place_behind types x n) else e.Cell x.name) 1
    by false = cell_small x.name 1
    by true =
        let p = place_small types x n in
        let a = p.high in
        let b = p.heavy in
        let c : height (tree (e.RingAt x.name (place_behind types x n))) ≡ height (tree (place_behind types x n)) + 1 = ap height (tree-RingAt x.name (place_behind types x n)) in
        let d : weight (tree (e.RingAt x.name (place_behind types x n))) ≡ 1 + weight (tree (place_behind types x n)) = ap weight (tree-RingAt x.name (place_behind types x n)) in
        record { high = omega (arith, a, c); heavy = omega (arith, b, d) }

-- ---- arrays and structs

picked_small : (t : CTy) (a i : CExpr) (v w : ℕ) → IsSmall a v → IsSmall i w → IsSmall (picked t a i) (1 + v + w)
picked_small (cty.Scalar s) a i v w h g = false_small (1 + v + w)
picked_small (cty.Struct x) a i v w h g = false_small (1 + v + w)
picked_small (cty.Array x n) a i v w h g =
    let p : height (tree (e.Pick x n a i)) ≡ max (height (tree a)) (height (tree i)) + 1 = ap height (tree-Pick x n a i) in
    let q : weight (tree (e.Pick x n a i)) ≡ 2 + (weight (tree a) + weight (tree i)) = ap weight (tree-Pick x n a i) in
    let x1 = h.high in
    let y = h.heavy in
    let m = g.high in
    let z = g.heavy in
    record { high = omega (arith, p, x1, m); heavy = omega (arith, q, y, z) }

field_small : (a : CExpr) (x : List ℕ) (w : ℕ) → IsSmall a w → IsSmall (e.Field a x) (1 + w)
field_small a x w h =
    let p : height (tree (e.Field a x)) ≡ height (tree a) + 1 = ap height (tree-Field a x) in
    let q : weight (tree (e.Field a x)) ≡ 1 + weight (tree a) = ap weight (tree-Field a x) in
    let r = h.high in
    let s = h.heavy in
    record { high = omega (arith, p, r); heavy = omega (arith, q, s) }

array_small : (t : CTy) (es : List CExpr) (w : ℕ) → AreSmall es w → IsSmall (array_value t es) (1 + w)
array_small (cty.Scalar s) es w h = false_small (1 + w)
array_small (cty.Struct x) es w h = false_small (1 + w)
array_small (cty.Array x n) es w h =
    let p : height (tree (e.Arr x n es)) ≡ highest (exprs (map tree es)) + 1 = ap height (tree-Arr x n es) in
    let q : weight (tree (e.Arr x n es)) ≡ 1 + weights (exprs (map tree es)) = ap weight (tree-Arr x n es) in
    let r = h.high in
    let s = h.heavy in
    record { high = omega (arith, p, r); heavy = omega (arith, q, s) }

struct_small : (t : CTy) (es : List CExpr) (w : ℕ) → AreSmall es w → IsSmall (struct_value t es) (1 + w)
struct_small (cty.Scalar s) es w h = false_small (1 + w)
struct_small (cty.Array x n) es w h = false_small (1 + w)
struct_small (cty.Struct x) es w h =
    let p : height (tree (e.Rec x es)) ≡ highest (exprs (map tree es)) + 1 = ap height (tree-Rec x es) in
    let q : weight (tree (e.Rec x es)) ≡ 1 + weights (exprs (map tree es)) = ap weight (tree-Rec x es) in
    let r = h.high in
    let s = h.heavy in
    record { high = omega (arith, p, r); heavy = omega (arith, q, s) }

more_small : (a : CExpr) (es : List CExpr) (v w : ℕ) → IsSmall a v → AreSmall es w → AreSmall (a ∷ es) (v + w)
more_small a es v w h g =
    let x = h.high in
    let y = h.heavy in
    let m = g.high in
    let z = g.heavy in
    record { high = omega (arith, x, m); heavy = omega (arith, y, z) }

-- ---- expressions

module _ (spec : TreeSpec) where
  mutual
    pub small : (a : Term) → IsSmall (translated spec a) (plain_weight a)
    small (lit s w) = literal_small s w
    small (extern x) = extern_small (slice_get spec.externs x)
    small (stream x) = stream_small spec.types 0 (slice_get spec.streams x)
    small (def d) = false_small 1
    small (named d a) = small a
    small missing = false_small 1
    small (dropped x n) = stream_small spec.types n (slice_get spec.streams x)
    small (un op s a) = unary_small op s (translated spec a) (plain_weight a) (small a)
    small (bin op s a b) = binary_small op s (translated spec a) (translated spec b) (plain_weight a) (plain_weight b) (small a) (small b)
    small (shift d s a cs n) = shifted_small d s (translated spec a) (translated spec n) (plain_weight a) (plain_weight n) (small a) (small n)
    small (cast f s a) = cast_small (c_scalar s) (translated spec a) (plain_weight a) (small a)
    small (and a b) = bin_small o.And (translated spec a) (translated spec b) (plain_weight a) (plain_weight b) (small a) (small b)
    small (or a b) = bin_small o.Or (translated spec a) (translated spec b) (plain_weight a) (plain_weight b) (small a) (small b)
    small (implies a b) = implies_small (translated spec a) (translated spec b) (plain_weight a) (plain_weight b) (small a) (small b)
    small (choose q a b) = cond_small (translated spec q) (translated spec a) (translated spec b) (plain_weight q) (plain_weight a) (plain_weight b) (small q) (small a) (small b)
    small (index t a i) = picked_small (c_type spec.types t) (translated spec a) (translated spec i) (plain_weight a) (plain_weight i) (small a) (small i)
    small (field t m a) = field_small (translated spec a) _ (plain_weight a) (small a)
    small (array t es) = array_small (c_type spec.types t) (all_translated spec es) (plain_weights es) (all_small es)
    small (struct t es) = struct_small (c_type spec.types t) (all_translated spec es) (plain_weights es) (all_small es)
    small (abs s a) = false_small (1 + plain_weight a)
    small (sign s a) = false_small (1 + plain_weight a)
    small (majority s es) = false_small (1 + plain_weights es)
    small (agreed s es) = false_small (1 + plain_weights es)
    small (lib n form es) = false_small (1 + plain_weights es)

    pub all_small : (es : Terms) → AreSmall (all_translated spec es) (plain_weights es)
    all_small end = record { high = omega arith; heavy = omega arith }
    all_small (more a es) = more_small (translated spec a) (all_translated spec es) (plain_weight a) (plain_weights es) (small a) (all_small es)
