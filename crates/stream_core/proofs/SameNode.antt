-- Nodes that `==` finds equal are the same.
use Rattle.std.proofs.Common.{rules, ◌≡◌, ℕ, Bool, true, false, nat_eq, List, [], ◌∷◌, refl, ap, arith}
use Rattle.std.specs.Prelude.{◌&&◌}
use Rattle.std.specs.Cmp.Lexicographic.{pointwise}
use Rattle.std.proofs.lemmas.Bool.Decides.{nat_tests}
use Rattle.stream_types.specs.declared.scalar.Scalar.{Scalar}
use Rattle.stream_types.specs.declared.scalar.Ty.{Ty}
use Rattle.stream_types.specs.declared.scalar.Ty.TheVariants as ty
use Rattle.stream_types.specs.declared.scalar.Op1.{Op1}
use Rattle.stream_types.specs.declared.scalar.Op2.{Op2}
use Rattle.stream_types.specs.declared.scalar.Dir.{Dir}
use Rattle.stream_core.specs.declared.node.Node.{Node}
use Rattle.stream_core.specs.declared.node.Node.TheVariants as node
use Rattle.stream_core.specs.contracts.node.NodePartialEq.TheImpl.{ghosts}
use Rattle.stream_types.specs.contracts.scalar.ScalarPartialEq.TheImpl.{ghosts as scalar_eq}
use Rattle.stream_types.specs.contracts.scalar.Op1PartialEq.TheImpl.{ghosts as op1_eq}
use Rattle.stream_types.specs.contracts.scalar.Op2PartialEq.TheImpl.{ghosts as op2_eq}
use Rattle.stream_types.specs.contracts.scalar.DirPartialEq.TheImpl.{ghosts as dir_eq}
use Rattle.stream_types.specs.contracts.scalar.TyPartialEq.TheImpl.{ghosts as ty_eq}
use Rattle.stream_types.specs.contracts.scalar.Scalar.{the_type as scalar_type}
use Rattle.stream_types.specs.contracts.scalar.Op1.{the_type as op1_type}
use Rattle.stream_types.specs.contracts.scalar.Op2.{the_type as op2_type}
use Rattle.stream_types.specs.contracts.scalar.Dir.{the_type as dir_type}
use denote.Enum.Bare.{same_true}
use Rattle.sm_io.proofs.Truths.{both_say}

nat_same : (x y : ℕ) → nat_eq x y ≡ true → x ≡ y
nat_same x y h = grind (arith, nat_tests, h)

pub list_same : (xs ys : List ℕ) → pointwise nat_eq xs ys ≡ true → xs ≡ ys
list_same [] [] h = refl
list_same [] (y ∷ ys) h = absurd (cc)
list_same (x ∷ xs) [] h = absurd (cc)
list_same (x ∷ xs) (y ∷ ys) h =
    let p = both_say _ _ (nat_same x y) (list_same xs ys) h in let p0 = p.0 in let p1 = p.1 in cc

scalar_same : (a b : Scalar) → scalar_eq.eq a b ≡ true → a ≡ b
scalar_same a b h = same_true scalar_type (search rules) a b h

dir_same : (a b : Dir) → dir_eq.eq a b ≡ true → a ≡ b
dir_same a b h = same_true dir_type (search rules) a b h

op1_same : (a b : Op1) → op1_eq.eq a b ≡ true → a ≡ b
op1_same a b h = same_true op1_type (search rules) a b h

op2_same : (a b : Op2) → op2_eq.eq a b ≡ true → a ≡ b
op2_same a b h = same_true op2_type (search rules) a b h

ty_same : (a b : Ty) → ty_eq.eq a b ≡ true → a ≡ b
ty_same (ty.Scalar a) (ty.Scalar b) h = ap ty.Scalar (scalar_same a b h)
ty_same (ty.Array a) (ty.Array b) h = ap ty.Array (nat_same a b h)
ty_same (ty.Struct a) (ty.Struct b) h = ap ty.Struct (nat_same a b h)
ty_same _ _ h = absurd (cc)

no : false ≡ true → ⊥
no h = cc

pub same : (a b : Node) → ghosts.eq a b ≡ true → a ≡ b
same (node.Lit a0 a1) (node.Lit b0 b1) h =
    let p = both_say _ _ (scalar_same a0 b0) (nat_same a1 b1) h in let p0 = p.0 in let p1 = p.1 in cc
same (node.Extern a0) (node.Extern b0) h = ap node.Extern (nat_same a0 b0 h)
same (node.Stream a0) (node.Stream b0) h = ap node.Stream (nat_same a0 b0 h)
same (node.Def a0) (node.Def b0) h = ap node.Def (nat_same a0 b0 h)
same (node.Drop a0 a1) (node.Drop b0 b1) h =
    let p = both_say _ _ (nat_same a0 b0) (nat_same a1 b1) h in let p0 = p.0 in let p1 = p.1 in cc
same (node.Un a0 a1 a2) (node.Un b0 b1 b2) h =
    let p = both_say _ _ (op1_same a0 b0) (both_say _ _ (scalar_same a1 b1) (nat_same a2 b2)) h in let p0 = p.0 in let p1 = p.1.0 in let p2 = p.1.1 in cc
same (node.Bin a0 a1 a2 a3) (node.Bin b0 b1 b2 b3) h =
    let p = both_say _ _ (op2_same a0 b0) (both_say _ _ (scalar_same a1 b1) (both_say _ _ (nat_same a2 b2) (nat_same a3 b3))) h in let p0 = p.0 in let p1 = p.1.0 in let p2 = p.1.1.0 in let p3 = p.1.1.1 in cc
same (node.Shift a0 a1 a2 a3 a4) (node.Shift b0 b1 b2 b3 b4) h =
    let p = both_say _ _ (dir_same a0 b0) (both_say _ _ (scalar_same a1 b1) (both_say _ _ (nat_same a2 b2) (both_say _ _ (scalar_same a3 b3) (nat_same a4 b4)))) h in let p0 = p.0 in let p1 = p.1.0 in let p2 = p.1.1.0 in let p3 = p.1.1.1.0 in let p4 = p.1.1.1.1 in cc
same (node.Cast a0 a1 a2) (node.Cast b0 b1 b2) h =
    let p = both_say _ _ (scalar_same a0 b0) (both_say _ _ (scalar_same a1 b1) (nat_same a2 b2)) h in let p0 = p.0 in let p1 = p.1.0 in let p2 = p.1.1 in cc
same (node.And a0 a1) (node.And b0 b1) h =
    let p = both_say _ _ (nat_same a0 b0) (nat_same a1 b1) h in let p0 = p.0 in let p1 = p.1 in cc
same (node.Or a0 a1) (node.Or b0 b1) h =
    let p = both_say _ _ (nat_same a0 b0) (nat_same a1 b1) h in let p0 = p.0 in let p1 = p.1 in cc
same (node.Implies a0 a1) (node.Implies b0 b1) h =
    let p = both_say _ _ (nat_same a0 b0) (nat_same a1 b1) h in let p0 = p.0 in let p1 = p.1 in cc
same (node.If a0 a1 a2) (node.If b0 b1 b2) h =
    let p = both_say _ _ (nat_same a0 b0) (both_say _ _ (nat_same a1 b1) (nat_same a2 b2)) h in let p0 = p.0 in let p1 = p.1.0 in let p2 = p.1.1 in cc
same (node.Index a0 a1 a2) (node.Index b0 b1 b2) h =
    let p = both_say _ _ (ty_same a0 b0) (both_say _ _ (nat_same a1 b1) (nat_same a2 b2)) h in let p0 = p.0 in let p1 = p.1.0 in let p2 = p.1.1 in cc
same (node.Field a0 a1 a2) (node.Field b0 b1 b2) h =
    let p = both_say _ _ (ty_same a0 b0) (both_say _ _ (nat_same a1 b1) (nat_same a2 b2)) h in let p0 = p.0 in let p1 = p.1.0 in let p2 = p.1.1 in cc
same (node.Array a0 a1) (node.Array b0 b1) h =
    let p = both_say _ _ (ty_same a0 b0) (list_same a1 b1) h in let p0 = p.0 in let p1 = p.1 in cc
same (node.Record a0 a1) (node.Record b0 b1) h =
    let p = both_say _ _ (ty_same a0 b0) (list_same a1 b1) h in let p0 = p.0 in let p1 = p.1 in cc
same (node.Abs a0 a1) (node.Abs b0 b1) h =
    let p = both_say _ _ (scalar_same a0 b0) (nat_same a1 b1) h in let p0 = p.0 in let p1 = p.1 in cc
same (node.Sign a0 a1) (node.Sign b0 b1) h =
    let p = both_say _ _ (scalar_same a0 b0) (nat_same a1 b1) h in let p0 = p.0 in let p1 = p.1 in cc
same (node.Majority a0 a1) (node.Majority b0 b1) h =
    let p = both_say _ _ (scalar_same a0 b0) (list_same a1 b1) h in let p0 = p.0 in let p1 = p.1 in cc
same (node.Agreed a0 a1) (node.Agreed b0 b1) h =
    let p = both_say _ _ (scalar_same a0 b0) (list_same a1 b1) h in let p0 = p.0 in let p1 = p.1 in cc
same (node.Lib a0) (node.Lib b0) h = ap node.Lib (nat_same a0 b0 h)
same _ _ h = absurd (no h)
