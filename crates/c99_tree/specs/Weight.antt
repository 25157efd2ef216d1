-- The most operators that one call of `step` can meet: every operator of every arm.
use Rattle.std.specs.Prelude.{ℕ, ◌+◌}
use Rattle.std.specs.List.{sum_by}
use Rattle.c99_tree.specs.declared.unit.Unit.{Unit as CUnit}
use Rattle.c99_tree.specs.Tree.{Expr, Exprs, lit, yes, no, copy, head, cell, ring_at, un, bin, choose, cast, field, pick, arr, rec, none, more, Stmt, copies, calls, nexts, stores, moves, puts, statements}

abbrev mutual
  -- the operators of an expression: unary, binary, conditional, cast, subscript, member and compound literal 1 each,
  -- and a `cp_ix` call, which is a member access and a subscript, 2
  pub weight : Expr → ℕ
  weight (lit k n) = 0
  weight yes = 0
  weight no = 0
  weight (copy x) = 0
  weight (head r) = 0
  weight (cell r) = 0
  weight (ring_at r a) = 1 + weight a
  weight (un op a) = 1 + weight a
  weight (bin op a b) = 1 + (weight a + weight b)
  weight (choose c a b) = 1 + (weight c + (weight a + weight b))
  weight (cast ty a) = 1 + weight a
  weight (field a x) = 1 + weight a
  weight (pick x n a i) = 2 + (weight a + weight i)
  weight (arr x n all) = 1 + weights all
  weight (rec x all) = 1 + weights all

  pub weights : Exprs → ℕ
  weights none = 0
  weights (more e es) = weight e + weights es

-- the operators of a statement; a Store's own subscript is one
abbrev pub statement_weight : Stmt → ℕ
statement_weight (copies x) = 0
statement_weight (calls h guard args) = weight guard + weights args
statement_weight (nexts r e) = weight e
statement_weight (stores r e) = 1 + weight e
statement_weight (moves r e) = weight e
statement_weight (puts r) = 0

abbrev pub unit_weight_of : CUnit → ℕ
unit_weight_of u = sum_by statement_weight (statements u)
