-- An expression that is read is judged as it is by itself.
use Rattle.std.proofs.Common.{◌≡◌, ℕ, List, [], ◌∷◌, map, refl, sym, ap, ◌∙◌, subst}
use Rattle.spec_text.specs.declared.surface.Expr.{Expr, map-Expr, roll-Expr}
use Rattle.spec_text.specs.declared.surface.Expr.TheOpen.{Expr-F}
use Rattle.spec_text.specs.declared.surface.Expr.TheFolds.{fold-roll-Expr, ind-Expr}
use Rattle.type_check.specs.Judged.{Judged, Scope, judge_expr, expr_step}
use Rattle.typed_text.specs.ReadSpec.{Numbers, Read, read_step, read_expr}
use Rattle.typed_text.proofs.Sound.{judged_of}

abbrev Same : Numbers → Scope → Expr → Type 0
Same numbers scope e = (read_expr numbers scope e).judged ≡ judge_expr scope e

abbrev Both : Numbers → Scope → Type 0
Both numbers scope = (e : Expr) × Same numbers scope e

abbrev expr_of : (numbers : Numbers) (scope : Scope) → Expr-F (Both numbers scope) → Expr-F Expr
expr_of numbers scope y = map-Expr (Both numbers scope) Expr (λ e. e.0) y

each_same : (numbers : Numbers) (scope : Scope) (es : List (Both numbers scope)) → map judged_of (map (read_expr numbers scope) (map (λ (e : Both numbers scope). e.0) es)) ≡ map (judge_expr scope) (map (λ (e : Both numbers scope). e.0) es)
each_same numbers scope [] = refl
each_same numbers scope (e ∷ es) = ap (λ j. j ∷ map judged_of (map (read_expr numbers scope) (map (λ (x : Both numbers scope). x.0) es))) e.1 ∙ ap (λ js. judge_expr scope e.0 ∷ js) (each_same numbers scope es)

parts_same : (numbers : Numbers) (scope : Scope) (y : Expr-F (Both numbers scope)) → map-Expr Read Judged judged_of (map-Expr Expr Read (read_expr numbers scope) (expr_of numbers scope y)) ≡ map-Expr Expr Judged (judge_expr scope) (expr_of numbers scope y)
parts_same numbers scope (Expr-F.Lit at s w) = refl
parts_same numbers scope (Expr-F.Name x) = refl
parts_same numbers scope (Expr-F.Drop at k x) = refl
parts_same numbers scope (Expr-F.Un at op a) = ap (Expr-F.Un at op) a.1
parts_same numbers scope (Expr-F.Bin at op a b) = let p = a.1 in let q = b.1 in cc
parts_same numbers scope (Expr-F.Shift at dir a b) = let p = a.1 in let q = b.1 in cc
parts_same numbers scope (Expr-F.And at a b) = let p = a.1 in let q = b.1 in cc
parts_same numbers scope (Expr-F.Or at a b) = let p = a.1 in let q = b.1 in cc
parts_same numbers scope (Expr-F.Implies at a b) = let p = a.1 in let q = b.1 in cc
parts_same numbers scope (Expr-F.If at c a b) = let o = c.1 in let p = a.1 in let q = b.1 in cc
parts_same numbers scope (Expr-F.Cast at to a) = ap (Expr-F.Cast at to) a.1
parts_same numbers scope (Expr-F.Abs at a) = ap (Expr-F.Abs at) a.1
parts_same numbers scope (Expr-F.Sign at a) = ap (Expr-F.Sign at) a.1
parts_same numbers scope (Expr-F.Index at a b) = let p = a.1 in let q = b.1 in cc
parts_same numbers scope (Expr-F.Field at a x) = ap (λ j. Expr-F.Field at j x) a.1
parts_same numbers scope (Expr-F.Array at es) = ap (Expr-F.Array at) (each_same numbers scope es)
parts_same numbers scope (Expr-F.Record at x es) = ap (Expr-F.Record at x) (each_same numbers scope es)
parts_same numbers scope (Expr-F.Once at a) = ap (Expr-F.Once at) a.1
parts_same numbers scope (Expr-F.Historically at a) = ap (Expr-F.Historically at) a.1
parts_same numbers scope (Expr-F.Yesterday at a) = ap (Expr-F.Yesterday at) a.1
parts_same numbers scope (Expr-F.WeaklyYesterday at a) = ap (Expr-F.WeaklyYesterday at) a.1
parts_same numbers scope (Expr-F.Since at a b) = let p = a.1 in let q = b.1 in cc
parts_same numbers scope (Expr-F.OnceIn at low high a) = ap (Expr-F.OnceIn at low high) a.1
parts_same numbers scope (Expr-F.HistoricallyIn at low high a) = ap (Expr-F.HistoricallyIn at low high) a.1
parts_same numbers scope (Expr-F.SinceIn at low high a b) = let p = a.1 in let q = b.1 in cc
parts_same numbers scope (Expr-F.Clock at period phase) = refl
parts_same numbers scope (Expr-F.Majority at es) = ap (Expr-F.Majority at) (each_same numbers scope es)
parts_same numbers scope (Expr-F.Agreed at es) = ap (Expr-F.Agreed at) (each_same numbers scope es)
parts_same numbers scope (Expr-F.WindowMax at n a) = ap (Expr-F.WindowMax at n) a.1
parts_same numbers scope (Expr-F.WindowMin at n a) = ap (Expr-F.WindowMin at n) a.1
parts_same numbers scope (Expr-F.WindowSum at n a) = ap (Expr-F.WindowSum at n) a.1

rolled_read : (numbers : Numbers) (scope : Scope) (x : Expr-F Expr) → (read_step numbers scope (map-Expr Expr Read (read_expr numbers scope) x)).judged ≡ expr_step scope (map-Expr Read Judged judged_of (map-Expr Expr Read (read_expr numbers scope) x))
rolled_read numbers scope (Expr-F.Lit at s w) = refl
rolled_read numbers scope (Expr-F.Name x) = refl
rolled_read numbers scope (Expr-F.Drop at k x) = refl
rolled_read numbers scope (Expr-F.Un at op a) = refl
rolled_read numbers scope (Expr-F.Bin at op a b) = refl
rolled_read numbers scope (Expr-F.Shift at dir a b) = refl
rolled_read numbers scope (Expr-F.And at a b) = refl
rolled_read numbers scope (Expr-F.Or at a b) = refl
rolled_read numbers scope (Expr-F.Implies at a b) = refl
rolled_read numbers scope (Expr-F.If at c a b) = refl
rolled_read numbers scope (Expr-F.Cast at to a) = refl
rolled_read numbers scope (Expr-F.Abs at a) = refl
rolled_read numbers scope (Expr-F.Sign at a) = refl
rolled_read numbers scope (Expr-F.Index at a b) = refl
rolled_read numbers scope (Expr-F.Field at a x) = refl
rolled_read numbers scope (Expr-F.Array at es) = refl
rolled_read numbers scope (Expr-F.Record at x es) = refl
rolled_read numbers scope (Expr-F.Once at a) = refl
rolled_read numbers scope (Expr-F.Historically at a) = refl
rolled_read numbers scope (Expr-F.Yesterday at a) = refl
rolled_read numbers scope (Expr-F.WeaklyYesterday at a) = refl
rolled_read numbers scope (Expr-F.Since at a b) = refl
rolled_read numbers scope (Expr-F.OnceIn at low high a) = refl
rolled_read numbers scope (Expr-F.HistoricallyIn at low high a) = refl
rolled_read numbers scope (Expr-F.SinceIn at low high a b) = refl
rolled_read numbers scope (Expr-F.Clock at period phase) = refl
rolled_read numbers scope (Expr-F.Majority at es) = refl
rolled_read numbers scope (Expr-F.Agreed at es) = refl
rolled_read numbers scope (Expr-F.WindowMax at n a) = refl
rolled_read numbers scope (Expr-F.WindowMin at n a) = refl
rolled_read numbers scope (Expr-F.WindowSum at n a) = refl

same_rolled : (numbers : Numbers) (scope : Scope) (x : Expr-F Expr) → map-Expr Read Judged judged_of (map-Expr Expr Read (read_expr numbers scope) x) ≡ map-Expr Expr Judged (judge_expr scope) x → Same numbers scope (roll-Expr x)
unfolding read_expr judge_expr
same_rolled numbers scope x h =
    ap (λ (r : Read). r.judged) (fold-roll-Expr Read (read_step numbers scope) x)
    ∙ rolled_read numbers scope x
    ∙ ap (expr_step scope) h
    ∙ sym (fold-roll-Expr Judged (expr_step scope) x)

pub judged_same : (numbers : Numbers) (scope : Scope) (e : Expr) → Same numbers scope e
judged_same numbers scope = ind-Expr (Same numbers scope) (λ x y is. subst (λ z. Same numbers scope (roll-Expr z)) is (same_rolled numbers scope (expr_of numbers scope y) (parts_same numbers scope y)))
