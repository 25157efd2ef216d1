-- A list of expressions is read item by item.
use Rattle.std.proofs.Common.{arith, ◌≡◌, ℕ, zero, suc, ◌-◌, ◌<◌, List, [], ◌∷◌, ◌++◌, map, Some, None, refl, sym, ap, ◌∙◌, codes}
use Rattle.c99_tree.specs.declared.expr.CExpr.{CExpr}
use Rattle.c99_tree.specs.Tree.{Expr, Exprs, none, more, tree, exprs}
use Rattle.c99_read.specs.declared.fault.ReadFault.{ReadFault}
use Rattle.c99_read.specs.declared.fault.ReadFault.TheVariants.{Memory, NotRead}
use Rattle.c99_read.specs.Gives.{Fails}
use Rattle.c99_read.specs.Front.{behind}
use Rattle.c99_read.specs.ExprAt.{Sub, FoundAll, joined, onto, others_at}

joined_none : (es : Exprs) → joined es none ≡ es
joined_none none = refl
joined_none (more e es) = ap (more e) (joined_none es)

joined_joined : (a b c : Exprs) → joined a (joined b c) ≡ joined (joined a b) c
joined_joined none b c = refl
joined_joined (more e a) b c = ap (more e) (joined_joined a b c)

onto_onto : (a b : Exprs) (o : FoundAll) → onto a (onto b o) ≡ onto (joined a b) o
onto_onto a b None = refl
onto_onto a b (Some x) = ap (λ (es : Exprs). Some (es, x.1)) (joined_joined a b x.0)

pub exprs_push : (all : List CExpr) (e : CExpr) → exprs (map tree (all ++ e ∷ [])) ≡ joined (exprs (map tree all)) (more (tree e) none)
exprs_push [] e = refl
exprs_push (a ∷ all) e = ap (more (tree a)) (exprs_push all e)

pub others_end : (sub : Sub) (n : ℕ) (s : List ℕ) (es : Exprs) → 0 < n → behind (codes ", ") s ≡ None → onto es (others_at sub n s) ≡ Some (es, s)
unfolding others_at
others_end sub zero s es p h = absurd (omega arith)
others_end sub (suc n) s es p h = rw h (ap (λ (x : Exprs). Some (x, s)) (joined_none es))

pub others_out : (sub : Sub) (n : ℕ) (s : List ℕ) (es : Exprs) → n ≡ 0 → onto es (others_at sub n s) ≡ None
unfolding others_at
others_out sub zero s es h = refl
others_out sub (suc n) s es h = absurd (omega arith)

others_bad : (sub : Sub) (n : ℕ) (s r : List ℕ) (es : Exprs) → 0 < n → behind (codes ", ") s ≡ Some r → sub r ≡ None → onto es (others_at sub n s) ≡ None
unfolding others_at
others_bad sub zero s r es p h g = absurd (omega arith)
others_bad sub (suc n) s r es p h g = rw (h, g) refl

pub others_fail : (e : ReadFault) (sub : Sub) (n : ℕ) (s r : List ℕ) (es : Exprs) → 0 < n → behind (codes ", ") s ≡ Some r → Fails e (sub r) → Fails e (onto es (others_at sub n s))
others_fail Memory sub n s r es p h g = tt
others_fail NotRead sub n s r es p h g = others_bad sub n s r es p h g

less_one : (n : ℕ) → suc n - 1 ≡ n
less_one n = omega arith

pub others_more : (sub : Sub) (n k : ℕ) (s r x : List ℕ) (es : Exprs) (e : Expr) → 0 < n → k ≡ n - 1 → behind (codes ", ") s ≡ Some r → sub r ≡ Some (e, x)
    → onto es (others_at sub n s) ≡ onto (joined es (more e none)) (others_at sub k x)
unfolding others_at
others_more sub zero k s r x es e p q h g = absurd (omega arith)
others_more sub (suc n) k s r x es e p q h g = rw (h, g) (onto_onto es (more e none) (others_at sub n x) ∙ ap (λ (m : ℕ). onto (joined es (more e none)) (others_at sub m x)) (sym (q ∙ less_one n)))
