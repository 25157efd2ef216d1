-- A text has no more library forms and declarations than lists.
use Rattle.std.proofs.Common.{◌≤◌, ◌+◌, ℕ, List, [], ◌∷◌, map, length, sym, subst, arith}
use Rattle.spec_text.specs.declared.surface.Expr.{Expr, map-Expr, roll-Expr}
use Rattle.spec_text.specs.declared.surface.Expr.TheOpen.{Expr-F}
use Rattle.spec_text.specs.declared.surface.Expr.TheFolds.{fold-roll-Expr, ind-Expr}
use Rattle.spec_text.specs.declared.surface.Decl.{Decl}
use Rattle.spec_text.specs.declared.surface.Decl.TheVariants as d
use Rattle.spec_text.specs.declared.surface.Surface.{Surface}
use Rattle.spec_text.specs.Form.{Form, forms, expr_step as expr_form_step, form_of_expr, form_of_decl, form_of}
use Rattle.spec_text.specs.Extent.{list_count, list_counts}
use Rattle.type_check.specs.NamedType.{Declarations}
use Rattle.type_check.specs.Judged.{Scope}
use Rattle.type_check.specs.Untyped.{scope_of}
use Rattle.typed_text.specs.ReadSpec.{Numbers, Read, counts, read_step, read_expr, reads, placed}
use Rattle.typed_spec.specs.Added.{form_total}

-- ---- expressions

abbrev lists_of : Expr → ℕ
lists_of e = list_count (form_of_expr e)

abbrev FewForms : Numbers → Scope → Expr → Type 0
FewForms n s e = (read_expr n s e).count ≤ lists_of e

abbrev KnownExpr : Numbers → Scope → Type 0
KnownExpr n s = (e : Expr) × FewForms n s e

each_few : (n : Numbers) (s : Scope) (items : List (KnownExpr n s)) → let es = map (λ (e : KnownExpr n s). e.0) items in counts (map (read_expr n s) es) ≤ list_counts (forms (map form_of_expr es))
each_few n s [] = omega arith
each_few n s (e ∷ items) = let a = e.1 in let b = each_few n s items in omega (arith, a, b)

few-step : (n : Numbers) (s : Scope) (y : Expr-F (KnownExpr n s)) → let x = map-Expr (KnownExpr n s) Expr (λ e. e.0) y in (read_step n s (map-Expr Expr Read (read_expr n s) x)).count ≤ list_count (expr_form_step (map-Expr Expr Form form_of_expr x))
few-step n s (Expr-F.Lit at c w) = omega arith
few-step n s (Expr-F.Name x) = omega arith
few-step n s (Expr-F.Drop at k x) = omega arith
few-step n s (Expr-F.Un at op a) = let f = a.1 in omega (arith, f)
few-step n s (Expr-F.Bin at op a b) = let f = a.1 in let g = b.1 in omega (arith, f, g)
few-step n s (Expr-F.Shift at dir a count) = let f = a.1 in let g = count.1 in omega (arith, f, g)
few-step n s (Expr-F.And at a b) = let f = a.1 in let g = b.1 in omega (arith, f, g)
few-step n s (Expr-F.Or at a b) = let f = a.1 in let g = b.1 in omega (arith, f, g)
few-step n s (Expr-F.Implies at a b) = let f = a.1 in let g = b.1 in omega (arith, f, g)
few-step n s (Expr-F.If at c a b) = let f = a.1 in let g = b.1 in let h = c.1 in omega (arith, f, g, h)
few-step n s (Expr-F.Cast at to a) = let f = a.1 in omega (arith, f)
few-step n s (Expr-F.Abs at a) = let f = a.1 in omega (arith, f)
few-step n s (Expr-F.Sign at a) = let f = a.1 in omega (arith, f)
few-step n s (Expr-F.Index at a i) = let f = a.1 in let g = i.1 in omega (arith, f, g)
few-step n s (Expr-F.Field at a x) = let f = a.1 in omega (arith, f)
few-step n s (Expr-F.Array at items) = let f = each_few n s items in omega (arith, f)
few-step n s (Expr-F.Record at x items) = let f = each_few n s items in omega (arith, f)
few-step n s (Expr-F.Once at p) = let f = p.1 in omega (arith, f)
few-step n s (Expr-F.Historically at p) = let f = p.1 in omega (arith, f)
few-step n s (Expr-F.Yesterday at p) = let f = p.1 in omega (arith, f)
few-step n s (Expr-F.WeaklyYesterday at p) = let f = p.1 in omega (arith, f)
few-step n s (Expr-F.Since at p q) = let f = p.1 in let g = q.1 in omega (arith, f, g)
few-step n s (Expr-F.OnceIn at low high p) = let f = p.1 in omega (arith, f)
few-step n s (Expr-F.HistoricallyIn at low high p) = let f = p.1 in omega (arith, f)
few-step n s (Expr-F.SinceIn at low high p q) = let f = p.1 in let g = q.1 in omega (arith, f, g)
few-step n s (Expr-F.Clock at period phase) = omega arith
few-step n s (Expr-F.Majority at items) = let f = each_few n s items in omega (arith, f)
few-step n s (Expr-F.Agreed at items) = let f = each_few n s items in omega (arith, f)
few-step n s (Expr-F.WindowMax at k e) = let f = e.1 in omega (arith, f)
few-step n s (Expr-F.WindowMin at k e) = let f = e.1 in omega (arith, f)
few-step n s (Expr-F.WindowSum at k e) = let f = e.1 in omega (arith, f)

few-rolled : (n : Numbers) (s : Scope) (x : Expr-F Expr) → (read_step n s (map-Expr Expr Read (read_expr n s) x)).count ≤ list_count (expr_form_step (map-Expr Expr Form form_of_expr x)) → FewForms n s (roll-Expr x)
unfolding read_expr form_of_expr
few-rolled n s x f =
    subst (λ (r : Read). r.count ≤ lists_of (roll-Expr x)) (sym (fold-roll-Expr Read (read_step n s) x))
    (subst (λ (g : Form). (read_step n s (map-Expr Expr Read (read_expr n s) x)).count ≤ list_count g) (sym (fold-roll-Expr Form expr_form_step x)) f)

few_forms : (n : Numbers) (s : Scope) (e : Expr) → FewForms n s e
few_forms n s = ind-Expr (FewForms n s) (λ x y is. subst (λ z. FewForms n s (roll-Expr z)) is (few-rolled n s (map-Expr _ Expr (λ e. e.0) y) (few-step n s y)))

all_few : (n : Numbers) (s : Scope) (es : List Expr) → counts (map (read_expr n s) es) ≤ list_counts (forms (map form_of_expr es))
all_few n s [] = omega arith
all_few n s (e ∷ es) = let a = few_forms n s e in let b = all_few n s es in omega (arith, a, b)

-- ---- declarations

decl_few : (n : Numbers) (all before : Declarations) (x : Decl) → counts (reads n all before x) ≤ list_count (form_of_decl x)
decl_few n all before (d.Struct at x fields) = omega arith
decl_few n all before (d.Extern at x ty) = omega arith
decl_few n all before (d.Stream at x ty init e) = let a = few_forms n (scope_of before all) e in omega (arith, a)
decl_few n all before (d.Def at x ty e) = let a = few_forms n (scope_of before all) e in omega (arith, a)
decl_few n all before (d.Trigger at x guard args) = let a = few_forms n (scope_of before all) guard in let b = all_few n (scope_of before all) args in omega (arith, a, b)
decl_few n all before (d.Observer at x e) = let a = few_forms n (scope_of before all) e in omega (arith, a)

decl_list : (x : Decl) → 1 ≤ list_count (form_of_decl x)
decl_list (d.Struct at x fields) = omega arith
decl_list (d.Extern at x ty) = omega arith
decl_list (d.Stream at x ty init e) = omega arith
decl_list (d.Def at x ty e) = omega arith
decl_list (d.Trigger at x guard args) = omega arith
decl_list (d.Observer at x e) = omega arith

forms_few : (n : Numbers) (all before : Declarations) (k : ℕ) (xs : List Decl) → form_total n all (placed n all before k xs) ≤ list_counts (forms (map form_of_decl xs))
forms_few n all before k [] = omega arith
forms_few n all before k (x ∷ xs) =
    let a = decl_few n all before x in
    let b = forms_few n all (x ∷ before) (k + counts (reads n all before x)) xs in
    omega (arith, a, b)

decls_few : (xs : List Decl) → length xs ≤ list_counts (forms (map form_of_decl xs))
decls_few [] = omega arith
decls_few (x ∷ xs) = let a = decl_list x in let b = decls_few xs in omega (arith, a, b)

-- ---- texts

pub text_forms : (n : Numbers) (all : Declarations) (s : Surface) → list_count (form_of s) ≤ 524288 → form_total n all (placed n all [] 0 s.decls) ≤ 524288
text_forms n all s h =
    let whole : 1 + (0 + (0 + list_counts (forms (map form_of_decl s.decls)))) ≤ 524288 = h in
    let a = forms_few n all [] 0 s.decls in
    omega (arith, whole, a)

pub text_decls : (s : Surface) → list_count (form_of s) ≤ 524288 → length s.decls ≤ 524288
text_decls s h =
    let whole : 1 + (0 + (0 + list_counts (forms (map form_of_decl s.decls)))) ≤ 524288 = h in
    let a = decls_few s.decls in
    omega (arith, whole, a)
