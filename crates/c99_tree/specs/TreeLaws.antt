-- The tree of each form of expression.
use Rattle.std.specs.Prelude.{◌≡◌, ℕ, List, map}
use Rattle.c99_tree.specs.declared.expr.CExpr.{CExpr}
use Rattle.c99_tree.specs.declared.expr.CExpr.TheVariants as e
use Rattle.c99_tree.specs.declared.expr.CLit.{CLit}
use Rattle.c99_tree.specs.declared.expr.CUn.{CUn}
use Rattle.c99_tree.specs.declared.expr.CBin.{CBin}
use Rattle.c99_tree.specs.declared.types.CScalar.{CScalar}
use Rattle.c99_tree.specs.Tree.{lit, yes, no, copy, head, cell, ring_at, un, bin, choose, cast, field, pick, arr, rec, exprs, tree, tree_step}
use Rattle.c99_tree.specs.FoldRows.{expr-Lit, expr-True, expr-False, expr-Copy, expr-Head, expr-Cell, expr-RingAt, expr-Un, expr-Bin, expr-Cond, expr-Cast, expr-Field, expr-Pick, expr-Arr, expr-Rec}

pub tree-Lit : (k : CLit) (n : ℕ) → tree (e.Lit k n) ≡ lit k n
unfolding tree
tree-Lit k n = expr-Lit tree_step k n

pub tree-True : tree e.True ≡ yes
unfolding tree
tree-True = expr-True tree_step

pub tree-False : tree e.False ≡ no
unfolding tree
tree-False = expr-False tree_step

pub tree-Copy : (x : List ℕ) → tree (e.Copy x) ≡ copy x
unfolding tree
tree-Copy x = expr-Copy tree_step x

pub tree-Head : (r : List ℕ) → tree (e.Head r) ≡ head r
unfolding tree
tree-Head r = expr-Head tree_step r

pub tree-Cell : (r : List ℕ) → tree (e.Cell r) ≡ cell r
unfolding tree
tree-Cell r = expr-Cell tree_step r

pub tree-RingAt : (r : List ℕ) (a : CExpr) → tree (e.RingAt r a) ≡ ring_at r (tree a)
unfolding tree
tree-RingAt r a = expr-RingAt tree_step r a

pub tree-Un : (op : CUn) (a : CExpr) → tree (e.Un op a) ≡ un op (tree a)
unfolding tree
tree-Un op a = expr-Un tree_step op a

pub tree-Bin : (op : CBin) (a b : CExpr) → tree (e.Bin op a b) ≡ bin op (tree a) (tree b)
unfolding tree
tree-Bin op a b = expr-Bin tree_step op a b

pub tree-Cond : (c a b : CExpr) → tree (e.Cond c a b) ≡ choose (tree c) (tree a) (tree b)
unfolding tree
tree-Cond c a b = expr-Cond tree_step c a b

pub tree-Cast : (ty : CScalar) (a : CExpr) → tree (e.Cast ty a) ≡ cast ty (tree a)
unfolding tree
tree-Cast ty a = expr-Cast tree_step ty a

pub tree-Field : (a : CExpr) (x : List ℕ) → tree (e.Field a x) ≡ field (tree a) x
unfolding tree
tree-Field a x = expr-Field tree_step a x

pub tree-Pick : (x : List ℕ) (n : ℕ) (a i : CExpr) → tree (e.Pick x n a i) ≡ pick x n (tree a) (tree i)
unfolding tree
tree-Pick x n a i = expr-Pick tree_step x n a i

pub tree-Arr : (x : List ℕ) (n : ℕ) (all : List CExpr) → tree (e.Arr x n all) ≡ arr x n (exprs (map tree all))
unfolding tree
tree-Arr x n all = expr-Arr tree_step x n all

pub tree-Rec : (x : List ℕ) (all : List CExpr) → tree (e.Rec x all) ≡ rec x (exprs (map tree all))
unfolding tree
tree-Rec x all = expr-Rec tree_step x all

pub ruleset tree_laws = (tree-Lit, tree-True, tree-False, tree-Copy, tree-Head, tree-Cell, tree-RingAt, tree-Un, tree-Bin, tree-Cond, tree-Cast, tree-Field, tree-Pick, tree-Arr, tree-Rec)
