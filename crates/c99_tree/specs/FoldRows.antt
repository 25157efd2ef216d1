-- The fold of each form of expression: the step over the folds of its parts.
use Rattle.std.specs.Prelude.{◌≡◌, ℕ, List, map}
use Rattle.std.proofs.Common.{sym, ◌∙◌, ap}
use Rattle.c99_tree.specs.declared.expr.CExpr.{CExpr}
use Rattle.c99_tree.specs.declared.expr.CExpr.TheVariants as e
use Rattle.c99_tree.specs.declared.expr.CExpr.TheOpen.{CExpr-F}
use Rattle.c99_tree.specs.declared.expr.CExpr.TheFolds.{fold-CExpr, fold-roll-CExpr}
use Rattle.c99_tree.specs.declared.expr.CLit.{CLit}
use Rattle.c99_tree.specs.declared.expr.CUn.{CUn}
use Rattle.c99_tree.specs.declared.expr.CBin.{CBin}
use Rattle.c99_tree.specs.declared.types.CScalar.{CScalar}

pub expr-Lit : {R : Type 0} (step : CExpr-F R → R) (k : CLit) (n : ℕ) → fold-CExpr R step (e.Lit k n) ≡ step (CExpr-F.Lit k n)
expr-Lit {R = R} step k n = ap (fold-CExpr R step) (sym (e.rolls-Lit k n)) ∙ fold-roll-CExpr R step (CExpr-F.Lit k n)

pub expr-True : {R : Type 0} (step : CExpr-F R → R) → fold-CExpr R step e.True ≡ step CExpr-F.True
expr-True {R = R} step = ap (fold-CExpr R step) (sym e.rolls-True) ∙ fold-roll-CExpr R step CExpr-F.True

pub expr-False : {R : Type 0} (step : CExpr-F R → R) → fold-CExpr R step e.False ≡ step CExpr-F.False
expr-False {R = R} step = ap (fold-CExpr R step) (sym e.rolls-False) ∙ fold-roll-CExpr R step CExpr-F.False

pub expr-Copy : {R : Type 0} (step : CExpr-F R → R) (x : List ℕ) → fold-CExpr R step (e.Copy x) ≡ step (CExpr-F.Copy x)
expr-Copy {R = R} step x = ap (fold-CExpr R step) (sym (e.rolls-Copy x)) ∙ fold-roll-CExpr R step (CExpr-F.Copy x)

pub expr-Head : {R : Type 0} (step : CExpr-F R → R) (r : List ℕ) → fold-CExpr R step (e.Head r) ≡ step (CExpr-F.Head r)
expr-Head {R = R} step r = ap (fold-CExpr R step) (sym (e.rolls-Head r)) ∙ fold-roll-CExpr R step (CExpr-F.Head r)

pub expr-Cell : {R : Type 0} (step : CExpr-F R → R) (r : List ℕ) → fold-CExpr R step (e.Cell r) ≡ step (CExpr-F.Cell r)
expr-Cell {R = R} step r = ap (fold-CExpr R step) (sym (e.rolls-Cell r)) ∙ fold-roll-CExpr R step (CExpr-F.Cell r)

pub expr-RingAt : {R : Type 0} (step : CExpr-F R → R) (r : List ℕ) (a : CExpr) →
    fold-CExpr R step (e.RingAt r a) ≡ step (CExpr-F.RingAt r (fold-CExpr R step a))
expr-RingAt {R = R} step r a = ap (fold-CExpr R step) (sym (e.rolls-RingAt r a)) ∙ fold-roll-CExpr R step (CExpr-F.RingAt r a)

pub expr-Un : {R : Type 0} (step : CExpr-F R → R) (op : CUn) (a : CExpr) → fold-CExpr R step (e.Un op a) ≡ step (CExpr-F.Un op (fold-CExpr R step a))
expr-Un {R = R} step op a = ap (fold-CExpr R step) (sym (e.rolls-Un op a)) ∙ fold-roll-CExpr R step (CExpr-F.Un op a)

pub expr-Bin : {R : Type 0} (step : CExpr-F R → R) (op : CBin) (a b : CExpr) →
    fold-CExpr R step (e.Bin op a b) ≡ step (CExpr-F.Bin op (fold-CExpr R step a) (fold-CExpr R step b))
expr-Bin {R = R} step op a b = ap (fold-CExpr R step) (sym (e.rolls-Bin op a b)) ∙ fold-roll-CExpr R step (CExpr-F.Bin op a b)

pub expr-Cond : {R : Type 0} (step : CExpr-F R → R) (c a b : CExpr) →
    fold-CExpr R step (e.Cond c a b) ≡ step (CExpr-F.Cond (fold-CExpr R step c) (fold-CExpr R step a) (fold-CExpr R step b))
expr-Cond {R = R} step c a b = ap (fold-CExpr R step) (sym (e.rolls-Cond c a b)) ∙ fold-roll-CExpr R step (CExpr-F.Cond c a b)

pub expr-Cast : {R : Type 0} (step : CExpr-F R → R) (ty : CScalar) (a : CExpr) →
    fold-CExpr R step (e.Cast ty a) ≡ step (CExpr-F.Cast ty (fold-CExpr R step a))
expr-Cast {R = R} step ty a = ap (fold-CExpr R step) (sym (e.rolls-Cast ty a)) ∙ fold-roll-CExpr R step (CExpr-F.Cast ty a)

pub expr-Field : {R : Type 0} (step : CExpr-F R → R) (a : CExpr) (x : List ℕ) →
    fold-CExpr R step (e.Field a x) ≡ step (CExpr-F.Field (fold-CExpr R step a) x)
expr-Field {R = R} step a x = ap (fold-CExpr R step) (sym (e.rolls-Field a x)) ∙ fold-roll-CExpr R step (CExpr-F.Field a x)

pub expr-Pick : {R : Type 0} (step : CExpr-F R → R) (x : List ℕ) (n : ℕ) (a i : CExpr) →
    fold-CExpr R step (e.Pick x n a i) ≡ step (CExpr-F.Pick x n (fold-CExpr R step a) (fold-CExpr R step i))
expr-Pick {R = R} step x n a i = ap (fold-CExpr R step) (sym (e.rolls-Pick x n a i)) ∙ fold-roll-CExpr R step (CExpr-F.Pick x n a i)

pub expr-Arr : {R : Type 0} (step : CExpr-F R → R) (x : List ℕ) (n : ℕ) (all : List CExpr) →
    fold-CExpr R step (e.Arr x n all) ≡ step (CExpr-F.Arr x n (map (fold-CExpr R step) all))
expr-Arr {R = R} step x n all = ap (fold-CExpr R step) (sym (e.rolls-Arr x n all)) ∙ fold-roll-CExpr R step (CExpr-F.Arr x n all)

pub expr-Rec : {R : Type 0} (step : CExpr-F R → R) (x : List ℕ) (all : List CExpr) →
    fold-CExpr R step (e.Rec x all) ≡ step (CExpr-F.Rec x (map (fold-CExpr R step) all))
expr-Rec {R = R} step x all = ap (fold-CExpr R step) (sym (e.rolls-Rec x all)) ∙ fold-roll-CExpr R step (CExpr-F.Rec x all)

pub ruleset expr_rows = (expr-Lit, expr-True, expr-False, expr-Copy, expr-Head, expr-Cell, expr-RingAt, expr-Un, expr-Bin, expr-Cond, expr-Cast, expr-Field, expr-Pick, expr-Arr, expr-Rec)
