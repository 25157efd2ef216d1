-- What the list reader finds decides of which expression a text is.
use Rattle.std.proofs.Common.{◌≡◌, ℕ, suc, ◌<◌, leb, true, List, [], ◌++◌, Some, None, refl, sym, ap, ◌∙◌, append-nil, arith}
use Rattle.std.proofs.lemmas.Bool.{and_from, le-leb}
use Rattle.c99_tree.specs.declared.expr.CExpr.{CExpr}
use Rattle.c99_tree.specs.Tree.{Expr, tree}
use Rattle.c99_tree.specs.Spelling.{text, height, is_spelled, is_spelled_here, most_height}
use Rattle.c99_read.specs.Expressions.{IsText}
use Rattle.c99_read.specs.ExprAt.{expr_at}
use Rattle.c99_read.specs.UnitAt.{whole, all_of}
use Rattle.c99_read.proofs.FrontTakes.{bound}
use Rattle.c99_read.proofs.ExprTakes.{sound}
use Rattle.c99_read.proofs.OneTree.{one_tree}
use Rattle.c99_read.proofs.StatementsFind.{here_reads}
use Rattle.c99_read.proofs.UnitTakes.{whole_takes}
use Rattle.c99_read.proofs.UnitReads.{none_some, some_some}

found : (s : List ℕ) (e : Expr) → s ≡ text e → is_spelled_here e ≡ true → all_of s ≡ Some e
found s e h g =
    let at' : expr_at most_height s ≡ Some (e, []) = ap (expr_at most_height) (h ∙ sym (append-nil (text e))) ∙ (here_reads e g).finds [] refl in
    rw at' refl

pub no_expression : (s : List ℕ) → all_of s ≡ None → (e : CExpr) → IsText s e → ⊥
no_expression s h e p = none_some (all_of s) (tree e) h (found s (tree e) p.0 p.1)

here : (e : Expr) → is_spelled e ≡ true → height e < suc most_height → is_spelled_here e ≡ true
here e a b = and_from (is_spelled e) (leb (height e) most_height) a (le-leb (height e) most_height (omega (arith, b)))

stands : (s : List ℕ) (e : Expr) → all_of s ≡ Some e → (s ≡ text e) × (is_spelled_here e ≡ true)
stands s e h =
    let b = bound (expr_at most_height s) (λ a. whole a.0 a.1) e h in
    let w = whole_takes b.0.0 e b.0.1 b.2 in
    let g = (sound most_height).takes s b.0.0 b.0.1 b.1 in
    (g.is ∙ ap (λ (z : List ℕ). text b.0.0 ++ z) w.1 ∙ append-nil (text b.0.0) ∙ ap text w.0, ap is_spelled_here (sym w.0) ∙ here b.0.0 g.spelled g.low)

pub some_expression : (s : List ℕ) (e : CExpr) → all_of s ≡ Some (tree e) → IsText s e × ((a : CExpr) → IsText s a → a ≡ e)
some_expression s e h = (stands s (tree e) h, λ a p. one_tree a e (some_some (all_of s) (tree a) (tree e) (found s (tree a) p.0 p.1) h))
