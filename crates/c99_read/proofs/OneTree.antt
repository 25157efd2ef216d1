-- Two expressions of one tree are one.
use Rattle.std.proofs.Common.{◌≡◌, List, [], ◌∷◌, map, refl, sym, ap, subst, ◌∙◌}
use Rattle.c99_tree.specs.declared.expr.CExpr.{CExpr, map-CExpr, roll-CExpr}
use Rattle.c99_tree.specs.declared.expr.CExpr.TheVariants as e
use Rattle.c99_tree.specs.declared.expr.CExpr.TheOpen.{CExpr-F}
use Rattle.c99_tree.specs.declared.expr.CExpr.TheFolds.{ind-CExpr}
use Rattle.c99_tree.specs.Tree.{Expr, Exprs, lit, yes, no, copy, head, cell, ring_at, un, bin, choose, cast, field, pick, arr, rec, none, more, exprs, tree}
use Rattle.c99_tree.specs.TreeLaws.{tree-Lit, tree-True, tree-False, tree-Copy, tree-Head, tree-Cell, tree-RingAt, tree-Un, tree-Bin, tree-Cond, tree-Cast, tree-Field, tree-Pick, tree-Arr, tree-Rec}

-- the expression of a tree
abbrev mutual
  pub untree : Expr → CExpr
  untree (lit k n) = e.Lit k n
  untree yes = e.True
  untree no = e.False
  untree (copy x) = e.Copy x
  untree (head r) = e.Head r
  untree (cell r) = e.Cell r
  untree (ring_at r a) = e.RingAt r (untree a)
  untree (un op a) = e.Un op (untree a)
  untree (bin op a b) = e.Bin op (untree a) (untree b)
  untree (choose c a b) = e.Cond (untree c) (untree a) (untree b)
  untree (cast ty a) = e.Cast ty (untree a)
  untree (field a x) = e.Field (untree a) x
  untree (pick x n a i) = e.Pick x n (untree a) (untree i)
  untree (arr x n all) = e.Arr x n (untrees all)
  untree (rec x all) = e.Rec x (untrees all)

  pub untrees : Exprs → List CExpr
  untrees none = []
  untrees (more a all) = untree a ∷ untrees all

abbrev pub IsBack : CExpr → Type 0
IsBack a = untree (tree a) ≡ a

abbrev Kept : Type 0
Kept = (a : CExpr) × IsBack a

all_back : (all : List Kept) → untrees (exprs (map tree (map (λ k. k.0) all))) ≡ map (λ k. k.0) all
all_back [] = refl
all_back (k ∷ all) = rw (k.1, all_back all) refl

level_back : (y : CExpr-F Kept) → IsBack (roll-CExpr (map-CExpr Kept CExpr (λ k. k.0) y))
level_back (CExpr-F.Lit k n) = subst IsBack (sym (e.rolls-Lit k n)) (ap untree (tree-Lit k n))
level_back CExpr-F.True = subst IsBack (sym e.rolls-True) (ap untree tree-True)
level_back CExpr-F.False = subst IsBack (sym e.rolls-False) (ap untree tree-False)
level_back (CExpr-F.Copy x) = subst IsBack (sym (e.rolls-Copy x)) (ap untree (tree-Copy x))
level_back (CExpr-F.Head r) = subst IsBack (sym (e.rolls-Head r)) (ap untree (tree-Head r))
level_back (CExpr-F.Cell r) = subst IsBack (sym (e.rolls-Cell r)) (ap untree (tree-Cell r))
level_back (CExpr-F.RingAt r a) = subst IsBack (sym (e.rolls-RingAt r a.0)) (ap untree (tree-RingAt r a.0) ∙ rw a.1 refl)
level_back (CExpr-F.Un op a) = subst IsBack (sym (e.rolls-Un op a.0)) (ap untree (tree-Un op a.0) ∙ rw a.1 refl)
level_back (CExpr-F.Bin op a b) = subst IsBack (sym (e.rolls-Bin op a.0 b.0)) (ap untree (tree-Bin op a.0 b.0) ∙ simp (a.1, b.1))
level_back (CExpr-F.Cond c a b) = subst IsBack (sym (e.rolls-Cond c.0 a.0 b.0)) (ap untree (tree-Cond c.0 a.0 b.0) ∙ simp (c.1, a.1, b.1))
level_back (CExpr-F.Cast ty a) = subst IsBack (sym (e.rolls-Cast ty a.0)) (ap untree (tree-Cast ty a.0) ∙ rw a.1 refl)
level_back (CExpr-F.Field a x) = subst IsBack (sym (e.rolls-Field a.0 x)) (ap untree (tree-Field a.0 x) ∙ rw a.1 refl)
level_back (CExpr-F.Pick x n a i) = subst IsBack (sym (e.rolls-Pick x n a.0 i.0)) (ap untree (tree-Pick x n a.0 i.0) ∙ simp (a.1, i.1))
level_back (CExpr-F.Arr x n all) = subst IsBack (sym (e.rolls-Arr x n (map (λ (k : Kept). k.0) all))) (ap untree (tree-Arr x n (map (λ (k : Kept). k.0) all)) ∙ rw (all_back all) refl)
level_back (CExpr-F.Rec x all) = subst IsBack (sym (e.rolls-Rec x (map (λ (k : Kept). k.0) all))) (ap untree (tree-Rec x (map (λ (k : Kept). k.0) all)) ∙ rw (all_back all) refl)

pub back : (a : CExpr) → IsBack a
back = ind-CExpr IsBack (λ x y is. subst (λ z. IsBack (roll-CExpr z)) is (level_back y))

pub one_tree : (a b : CExpr) → tree a ≡ tree b → a ≡ b
one_tree a b same = sym (back a) ∙ ap untree same ∙ back b

-- ---- the tree of an expression that was made of a tree

mutual
  pub tree_back : (a : Expr) → tree (untree a) ≡ a
  tree_back (lit k n) = tree-Lit k n
  tree_back yes = tree-True
  tree_back no = tree-False
  tree_back (copy x) = tree-Copy x
  tree_back (head r) = tree-Head r
  tree_back (cell r) = tree-Cell r
  tree_back (ring_at r a) = tree-RingAt r (untree a) ∙ ap (ring_at r) (tree_back a)
  tree_back (un op a) = tree-Un op (untree a) ∙ ap (un op) (tree_back a)
  tree_back (bin op a b) = tree-Bin op (untree a) (untree b) ∙ rw (tree_back a, tree_back b) refl
  tree_back (choose c a b) = tree-Cond (untree c) (untree a) (untree b) ∙ rw (tree_back c, tree_back a, tree_back b) refl
  tree_back (cast ty a) = tree-Cast ty (untree a) ∙ ap (cast ty) (tree_back a)
  tree_back (field a x) = tree-Field (untree a) x ∙ rw (tree_back a) refl
  tree_back (pick x n a i) = tree-Pick x n (untree a) (untree i) ∙ rw (tree_back a, tree_back i) refl
  tree_back (arr x n all) = tree-Arr x n (untrees all) ∙ ap (arr x n) (trees_back all)
  tree_back (rec x all) = tree-Rec x (untrees all) ∙ ap (rec x) (trees_back all)

  pub trees_back : (all : Exprs) → exprs (map tree (untrees all)) ≡ all
  trees_back none = refl
  trees_back (more a all) = rw (tree_back a, trees_back all) refl
