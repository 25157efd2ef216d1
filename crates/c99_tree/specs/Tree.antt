-- Expressions and statements as trees, without where they lie in memory. Every other definition speaks of these.
use Rattle.std.specs.Prelude.{ℕ, List, [], ◌∷◌, map}
use Rattle.c99_tree.specs.declared.expr.CExpr.{CExpr}
use Rattle.c99_tree.specs.declared.expr.CExpr.TheOpen.{CExpr-F}
use Rattle.c99_tree.specs.declared.expr.CExpr.TheFolds.{fold-CExpr}
use Rattle.c99_tree.specs.declared.expr.CLit.{CLit}
use Rattle.c99_tree.specs.declared.expr.CUn.{CUn}
use Rattle.c99_tree.specs.declared.expr.CBin.{CBin}
use Rattle.c99_tree.specs.declared.types.CScalar.{CScalar}
use Rattle.c99_tree.specs.declared.unit.CStmt.{CStmt}
use Rattle.c99_tree.specs.declared.unit.CStmt.TheVariants as s
use Rattle.c99_tree.specs.declared.unit.Unit.{Unit as CUnit}

mutual
  -- one constructor for each form of expression, in the order of the forms
  pub data Expr : Type 0 where
    lit : CLit → ℕ → Expr
    yes : Expr
    no : Expr
    copy : List ℕ → Expr
    head : List ℕ → Expr
    cell : List ℕ → Expr
    ring_at : List ℕ → Expr → Expr
    un : CUn → Expr → Expr
    bin : CBin → Expr → Expr → Expr
    choose : Expr → Expr → Expr → Expr
    cast : CScalar → Expr → Expr
    field : Expr → List ℕ → Expr
    pick : List ℕ → ℕ → Expr → Expr → Expr
    arr : List ℕ → ℕ → Exprs → Expr
    rec : List ℕ → Exprs → Expr

  pub data Exprs : Type 0 where
    none : Exprs
    more : Expr → Exprs → Exprs

abbrev pub exprs : List Expr → Exprs
exprs [] = none
exprs (e ∷ es) = more e (exprs es)

-- one level, with the tree of each part in its place
abbrev pub tree_step : CExpr-F Expr → Expr
tree_step (CExpr-F.Lit k n) = lit k n
tree_step CExpr-F.True = yes
tree_step CExpr-F.False = no
tree_step (CExpr-F.Copy x) = copy x
tree_step (CExpr-F.Head r) = head r
tree_step (CExpr-F.Cell r) = cell r
tree_step (CExpr-F.RingAt r a) = ring_at r a
tree_step (CExpr-F.Un op a) = un op a
tree_step (CExpr-F.Bin op a b) = bin op a b
tree_step (CExpr-F.Cond c a b) = choose c a b
tree_step (CExpr-F.Cast ty a) = cast ty a
tree_step (CExpr-F.Field a x) = field a x
tree_step (CExpr-F.Pick x n a i) = pick x n a i
tree_step (CExpr-F.Arr x n all) = arr x n (exprs all)
tree_step (CExpr-F.Rec x all) = rec x (exprs all)

-- the tree of an expression
unfoldable pub tree : CExpr → Expr
tree = fold-CExpr Expr tree_step

-- one constructor for each form of statement
pub data Stmt : Type 0 where
  copies : List ℕ → Stmt
  calls : List ℕ → Expr → Exprs → Stmt
  nexts : List ℕ → Expr → Stmt
  stores : List ℕ → Expr → Stmt
  moves : List ℕ → Expr → Stmt
  puts : List ℕ → Stmt

-- the tree of a statement
abbrev pub statement : CStmt → Stmt
statement (s.Copy x) = copies x
statement (s.Call h guard args) = calls h (tree guard) (exprs (map tree args))
statement (s.Next r e) = nexts r (tree e)
statement (s.Store r e) = stores r (tree e)
statement (s.Move r e) = moves r (tree e)
statement (s.Put r) = puts r

-- the statements of `step`
abbrev pub statements : CUnit → List Stmt
statements u = map statement u.step
