-- A surface without places has the form of the surface but for places, and is read from it.
use Rattle.std.proofs.Common.{◌≡◌, ℕ, ◌==◌, ◌&&◌, Bool, nat_le, List, [], ◌∷◌, map, length, Option, Some, None, refl, ap, sym, ◌∙◌, subst}
use Rattle.std.specs.Prelude.{◌||◌, codes}
use Rattle.sm_io.specs.Words.{is_name}
use Rattle.spec_forest.specs.Node.{Node, list}
use Rattle.spec_forest.specs.Node.{none as no_node, more as more_node}
use Rattle.spec_words.specs.Words.{spec_word, op1_word, op2_word, dir_word}
use Rattle.spec_text.specs.declared.surface.FieldForm.{FieldForm}
use Rattle.spec_text.specs.declared.surface.TypeForm.{TypeForm, map-TypeForm, roll-TypeForm}
use Rattle.spec_text.specs.declared.surface.TypeForm.TheOpen.{TypeForm-F}
use Rattle.spec_text.specs.declared.surface.TypeForm.TheFolds.{fold-roll-TypeForm, ind-TypeForm}
use Rattle.spec_text.specs.declared.surface.ConstForm.{ConstForm, map-ConstForm, roll-ConstForm}
use Rattle.spec_text.specs.declared.surface.ConstForm.TheOpen.{ConstForm-F}
use Rattle.spec_text.specs.declared.surface.ConstForm.TheFolds.{fold-roll-ConstForm, ind-ConstForm}
use Rattle.spec_text.specs.declared.surface.Expr.{Expr, map-Expr, roll-Expr}
use Rattle.spec_text.specs.declared.surface.Expr.TheOpen.{Expr-F}
use Rattle.spec_text.specs.declared.surface.Expr.TheFolds.{fold-roll-Expr, ind-Expr}
use Rattle.spec_text.specs.declared.surface.Decl.{Decl}
use Rattle.spec_text.specs.declared.surface.Decl.TheVariants as d
use Rattle.spec_text.specs.declared.surface.Surface.{Surface}
use Rattle.spec_text.specs.Form.{Form, Forms, word, form, none, more, forms, headed, number, name_form, with_one, with_two, with_three, type_step, const_step, expr_step, form_of_type, form_of_const, form_of_expr, form_of_field, form_of_decl, form_of, IsAt, Matches, AllMatch}
use Rattle.spec_text.specs.Bare.{bare, bares}
use Rattle.spec_text.specs.KeepsTable.{between, all_kept, kept_from, keeps_name, keeps_type, keeps_const, keeps_expr, keeps_field, keeps_decl, keeps_type_step, keeps_const_step, keeps_expr_step, keeps_table, KeepsTable}
use Rattle.spec_text.specs.Shape.{most_initial}
use Rattle.spec_text.specs.WithoutPlaces.{name_without_place, type_at_0, type_without_places, const_at_0, const_without_places, expr_at_0, expr_without_places, field_without_places, decl_without_places, without_places, SameButPlaces}
use Rattle.spec_text.proofs.Read.{surface_in}
use Rattle.spec_text.proofs.ReadDecls.{nodes-read}

two-same : {A B C : Type 0} (f : A → B → C) {a c : A} {b e : B} → a ≡ c → b ≡ e → f a b ≡ f c e
two-same f {a} {c} {b} {e} p q = ap (λ x. f x b) p ∙ ap (f c) q

three-same : {A B C D : Type 0} (f : A → B → C → D) {a a' : A} {b b' : B} {c c' : C} → a ≡ a' → b ≡ b' → c ≡ c' → f a b c ≡ f a' b' c'
three-same f {a} {a'} {b} {b'} {c} {c'} p q r = ap (λ x. f x b c) p ∙ two-same (f a') q r

-- ---- forms

abbrev zeroed : Option ℕ → Option ℕ
zeroed None = None
zeroed (Some at) = Some 0

-- a form with each place that it keeps 0
abbrev mutual
  form_at_0 : Form → Form
  form_at_0 (word at bytes) = word (zeroed at) bytes
  form_at_0 (form at items) = form (zeroed at) (forms_at_0 items)

  forms_at_0 : Forms → Forms
  forms_at_0 none = none
  forms_at_0 (more f fs) = more (form_at_0 f) (forms_at_0 fs)

is-at-0 : (at : Option ℕ) → IsAt (zeroed at) 0
is-at-0 None = tt
is-at-0 (Some at) = refl

mutual
  bare-matches : (f : Form) → Matches (form_at_0 f) (bare f)
  bare-matches (word at bytes) = (is-at-0 at, refl)
  bare-matches (form at items) = (is-at-0 at, bares-match items)

  bares-match : (fs : Forms) → AllMatch (forms_at_0 fs) (bares fs)
  bares-match none = tt
  bares-match (more f fs) = (bare-matches f, bares-match fs)

mutual
  bare-at-0 : (f : Form) → bare (form_at_0 f) ≡ bare f
  bare-at-0 (word at bytes) = refl
  bare-at-0 (form at items) = ap (list 0) (bares-at-0 items)

  bares-at-0 : (fs : Forms) → bares (forms_at_0 fs) ≡ bares fs
  bares-at-0 none = refl
  bares-at-0 (more f fs) = two-same more_node (bare-at-0 f) (bares-at-0 fs)

-- ---- parts

-- Without places a part has its form with places 0, and keeps the table as before.
record Good {X : Type 0} (bared : X → X) (as_form : X → Form) (keeps : X → Bool) (x : X) : Type 0 where
  form : as_form (bared x) ≡ form_at_0 (as_form x)
  kept : keeps (bared x) ≡ keeps x

abbrev first : {X : Type 0} {P : X → Type 0} → ((x : X) × P x) → X
first e = e.0

each-form : {X : Type 0} (bared : X → X) (as_form : X → Form) (keeps : X → Bool) (es : List ((x : X) × Good bared as_form keeps x))
    → forms (map as_form (map bared (map first es))) ≡ forms_at_0 (forms (map as_form (map first es)))
each-form bared as_form keeps [] = refl
each-form bared as_form keeps (e ∷ es) = two-same more e.1.form (each-form bared as_form keeps es)

each-kept : {X : Type 0} (bared : X → X) (as_form : X → Form) (keeps : X → Bool) (es : List ((x : X) × Good bared as_form keeps x))
    → map keeps (map bared (map first es)) ≡ map keeps (map first es)
each-kept bared as_form keeps [] = refl
each-kept bared as_form keeps (e ∷ es) = two-same (λ b bs. b ∷ bs) e.1.kept (each-kept bared as_form keeps es)

all-form : {X : Type 0} (bared : X → X) (as_form : X → Form) (keeps : X → Bool) → ((x : X) → Good bared as_form keeps x) → (xs : List X)
    → forms (map as_form (map bared xs)) ≡ forms_at_0 (forms (map as_form xs))
all-form bared as_form keeps h [] = refl
all-form bared as_form keeps h (x ∷ xs) = two-same more (h x).form (all-form bared as_form keeps h xs)

all-are-kept : {X : Type 0} (bared : X → X) (as_form : X → Form) (keeps : X → Bool) → ((x : X) → Good bared as_form keeps x) → (xs : List X)
    → map keeps (map bared xs) ≡ map keeps xs
all-are-kept bared as_form keeps h [] = refl
all-are-kept bared as_form keeps h (x ∷ xs) = two-same (λ b bs. b ∷ bs) (h x).kept (all-are-kept bared as_form keeps h xs)

-- ---- types

abbrev TypeGood : TypeForm → Type 0
TypeGood t = Good type_without_places form_of_type keeps_type t

abbrev KnownType : Type 0
KnownType = (t : TypeForm) × TypeGood t

abbrev type_of : TypeForm-F KnownType → TypeForm-F TypeForm
type_of y = map-TypeForm KnownType TypeForm (λ e. e.0) y

-- one level without places
abbrev type_bared : TypeForm-F TypeForm → TypeForm-F TypeForm
type_bared x = type_at_0 (map-TypeForm TypeForm TypeForm type_without_places x)

type-rolled : (x : TypeForm-F TypeForm) → type_step (map-TypeForm TypeForm Form form_of_type (type_bared x)) ≡ form_at_0 (type_step (map-TypeForm TypeForm Form form_of_type x))
    → keeps_type_step (map-TypeForm TypeForm Bool keeps_type (type_bared x)) ≡ keeps_type_step (map-TypeForm TypeForm Bool keeps_type x) → TypeGood (roll-TypeForm x)
unfolding form_of_type keeps_type type_without_places
type-rolled x f k =
    let bared : type_without_places (roll-TypeForm x) ≡ roll-TypeForm (type_bared x) = fold-roll-TypeForm TypeForm (λ z. roll-TypeForm (type_at_0 z)) x in
    record {
      form = ap form_of_type bared ∙ fold-roll-TypeForm Form type_step (type_bared x) ∙ f ∙ ap form_at_0 (sym (fold-roll-TypeForm Form type_step x));
      kept = ap keeps_type bared ∙ fold-roll-TypeForm Bool keeps_type_step (type_bared x) ∙ k ∙ sym (fold-roll-TypeForm Bool keeps_type_step x);
    }

type-form : (y : TypeForm-F KnownType) → type_step (map-TypeForm TypeForm Form form_of_type (type_bared (type_of y))) ≡ form_at_0 (type_step (map-TypeForm TypeForm Form form_of_type (type_of y)))
type-form (TypeForm-F.Scalar at s) = refl
type-form (TypeForm-F.Named x) = refl
type-form (TypeForm-F.Array at elem n) = ap (λ f. headed (Some 0) (codes "array") (more f (more (number n) none))) elem.1.form

type-kept : (y : TypeForm-F KnownType) → keeps_type_step (map-TypeForm TypeForm Bool keeps_type (type_bared (type_of y))) ≡ keeps_type_step (map-TypeForm TypeForm Bool keeps_type (type_of y))
type-kept (TypeForm-F.Scalar at s) = refl
type-kept (TypeForm-F.Named x) = refl
type-kept (TypeForm-F.Array at elem n) = ap (λ b. b && between 1 1024 n) elem.1.kept

type-good : (t : TypeForm) → TypeGood t
type-good = ind-TypeForm TypeGood (λ x y is. subst (λ z. TypeGood (roll-TypeForm z)) is (type-rolled (type_of y) (type-form y) (type-kept y)))

-- ---- constants

abbrev ConstGood : ConstForm → Type 0
ConstGood c = Good const_without_places form_of_const keeps_const c

abbrev KnownConst : Type 0
KnownConst = (c : ConstForm) × ConstGood c

abbrev const_of : ConstForm-F KnownConst → ConstForm-F ConstForm
const_of y = map-ConstForm KnownConst ConstForm (λ e. e.0) y

-- one level without places
abbrev const_bared : ConstForm-F ConstForm → ConstForm-F ConstForm
const_bared x = const_at_0 (map-ConstForm ConstForm ConstForm const_without_places x)

const-rolled : (x : ConstForm-F ConstForm) → const_step (map-ConstForm ConstForm Form form_of_const (const_bared x)) ≡ form_at_0 (const_step (map-ConstForm ConstForm Form form_of_const x))
    → keeps_const_step (map-ConstForm ConstForm Bool keeps_const (const_bared x)) ≡ keeps_const_step (map-ConstForm ConstForm Bool keeps_const x) → ConstGood (roll-ConstForm x)
unfolding form_of_const keeps_const const_without_places
const-rolled x f k =
    let bared : const_without_places (roll-ConstForm x) ≡ roll-ConstForm (const_bared x) = fold-roll-ConstForm ConstForm (λ z. roll-ConstForm (const_at_0 z)) x in
    record {
      form = ap form_of_const bared ∙ fold-roll-ConstForm Form const_step (const_bared x) ∙ f ∙ ap form_at_0 (sym (fold-roll-ConstForm Form const_step x));
      kept = ap keeps_const bared ∙ fold-roll-ConstForm Bool keeps_const_step (const_bared x) ∙ k ∙ sym (fold-roll-ConstForm Bool keeps_const_step x);
    }

const-form : (y : ConstForm-F KnownConst) → const_step (map-ConstForm ConstForm Form form_of_const (const_bared (const_of y))) ≡ form_at_0 (const_step (map-ConstForm ConstForm Form form_of_const (const_of y)))
const-form (ConstForm-F.Lit at s w) = refl
const-form (ConstForm-F.Array at items) = ap (λ fs. headed (Some 0) (codes "array") fs) (each-form const_without_places form_of_const keeps_const items)
const-form (ConstForm-F.Record at x items) =
    ap (λ fs. headed (Some 0) (codes "record") (more (name_form (name_without_place x)) fs)) (each-form const_without_places form_of_const keeps_const items)

const-kept : (y : ConstForm-F KnownConst) → keeps_const_step (map-ConstForm ConstForm Bool keeps_const (const_bared (const_of y))) ≡ keeps_const_step (map-ConstForm ConstForm Bool keeps_const (const_of y))
const-kept (ConstForm-F.Lit at s w) = refl
const-kept (ConstForm-F.Array at items) = ap (λ ks. kept_from 1 1024 ks) (each-kept const_without_places form_of_const keeps_const items)
const-kept (ConstForm-F.Record at x items) =
    ap (λ ks. keeps_name x && (nat_le 1 (length ks) && all_kept ks)) (each-kept const_without_places form_of_const keeps_const items)

const-good : (c : ConstForm) → ConstGood c
const-good = ind-ConstForm ConstGood (λ x y is. subst (λ z. ConstGood (roll-ConstForm z)) is (const-rolled (const_of y) (const-form y) (const-kept y)))

-- ---- expressions

abbrev ExprGood : Expr → Type 0
ExprGood e = Good expr_without_places form_of_expr keeps_expr e

abbrev KnownExpr : Type 0
KnownExpr = (e : Expr) × ExprGood e

abbrev expr_of : Expr-F KnownExpr → Expr-F Expr
expr_of y = map-Expr KnownExpr Expr (λ e. e.0) y

-- one level without places
abbrev expr_bared : Expr-F Expr → Expr-F Expr
expr_bared x = expr_at_0 (map-Expr Expr Expr expr_without_places x)

expr-rolled : (x : Expr-F Expr) → expr_step (map-Expr Expr Form form_of_expr (expr_bared x)) ≡ form_at_0 (expr_step (map-Expr Expr Form form_of_expr x))
    → keeps_expr_step (map-Expr Expr Bool keeps_expr (expr_bared x)) ≡ keeps_expr_step (map-Expr Expr Bool keeps_expr x) → ExprGood (roll-Expr x)
unfolding form_of_expr keeps_expr expr_without_places
expr-rolled x f k =
    let bared : expr_without_places (roll-Expr x) ≡ roll-Expr (expr_bared x) = fold-roll-Expr Expr (λ z. roll-Expr (expr_at_0 z)) x in
    record {
      form = ap form_of_expr bared ∙ fold-roll-Expr Form expr_step (expr_bared x) ∙ f ∙ ap form_at_0 (sym (fold-roll-Expr Form expr_step x));
      kept = ap keeps_expr bared ∙ fold-roll-Expr Bool keeps_expr_step (expr_bared x) ∙ k ∙ sym (fold-roll-Expr Bool keeps_expr_step x);
    }

form-step : (y : Expr-F KnownExpr) → expr_step (map-Expr Expr Form form_of_expr (expr_bared (expr_of y))) ≡ form_at_0 (expr_step (map-Expr Expr Form form_of_expr (expr_of y)))
form-step (Expr-F.Lit at s w) = refl
form-step (Expr-F.Name x) = refl
form-step (Expr-F.Drop at k x) = refl
form-step (Expr-F.Un at op a) = ap (λ f. with_one 0 (op1_word op) f) a.1.form
form-step (Expr-F.Bin at op a b) = two-same (λ f g. with_two 0 (op2_word op) f g) a.1.form b.1.form
form-step (Expr-F.Shift at dir a count) = two-same (λ f g. with_two 0 (dir_word dir) f g) a.1.form count.1.form
form-step (Expr-F.And at a b) = two-same (λ f g. with_two 0 (codes "and") f g) a.1.form b.1.form
form-step (Expr-F.Or at a b) = two-same (λ f g. with_two 0 (codes "or") f g) a.1.form b.1.form
form-step (Expr-F.Implies at a b) = two-same (λ f g. with_two 0 (codes "implies") f g) a.1.form b.1.form
form-step (Expr-F.If at c a b) = three-same (λ f g h. with_three 0 (codes "if") f g h) c.1.form a.1.form b.1.form
form-step (Expr-F.Cast at to a) = two-same (λ f g. with_two 0 (codes "cast") f g) (type-good to).form a.1.form
form-step (Expr-F.Abs at a) = ap (λ f. with_one 0 (codes "abs") f) a.1.form
form-step (Expr-F.Sign at a) = ap (λ f. with_one 0 (codes "sign") f) a.1.form
form-step (Expr-F.Index at a i) = two-same (λ f g. with_two 0 (codes "index") f g) a.1.form i.1.form
form-step (Expr-F.Field at a x) = ap (λ f. with_two 0 (codes "field") f (name_form (name_without_place x))) a.1.form
form-step (Expr-F.Array at items) = ap (λ fs. headed (Some 0) (codes "array") fs) (each-form expr_without_places form_of_expr keeps_expr items)
form-step (Expr-F.Record at x items) = ap (λ fs. headed (Some 0) (codes "record") (more (name_form (name_without_place x)) fs)) (each-form expr_without_places form_of_expr keeps_expr items)
form-step (Expr-F.Once at p) = ap (λ f. with_one 0 (codes "once") f) p.1.form
form-step (Expr-F.Historically at p) = ap (λ f. with_one 0 (codes "historically") f) p.1.form
form-step (Expr-F.Yesterday at p) = ap (λ f. with_one 0 (codes "yesterday") f) p.1.form
form-step (Expr-F.WeaklyYesterday at p) = ap (λ f. with_one 0 (codes "weakly-yesterday") f) p.1.form
form-step (Expr-F.Since at p q) = two-same (λ f g. with_two 0 (codes "since") f g) p.1.form q.1.form
form-step (Expr-F.OnceIn at low high p) = ap (λ f. with_three 0 (codes "once-in") (number low) (number high) f) p.1.form
form-step (Expr-F.HistoricallyIn at low high p) = ap (λ f. with_three 0 (codes "historically-in") (number low) (number high) f) p.1.form
form-step (Expr-F.SinceIn at low high p q) = two-same (λ f g. headed (Some 0) (codes "since-in") (more (number low) (more (number high) (more f (more g none))))) p.1.form q.1.form
form-step (Expr-F.Clock at period phase) = refl
form-step (Expr-F.Majority at items) = ap (λ fs. headed (Some 0) (codes "majority") fs) (each-form expr_without_places form_of_expr keeps_expr items)
form-step (Expr-F.Agreed at items) = ap (λ fs. headed (Some 0) (codes "agreed") fs) (each-form expr_without_places form_of_expr keeps_expr items)
form-step (Expr-F.WindowMax at n e) = ap (λ f. with_two 0 (codes "window-max") (number n) f) e.1.form
form-step (Expr-F.WindowMin at n e) = ap (λ f. with_two 0 (codes "window-min") (number n) f) e.1.form
form-step (Expr-F.WindowSum at n e) = ap (λ f. with_two 0 (codes "window-sum") (number n) f) e.1.form

kept-step : (y : Expr-F KnownExpr) → keeps_expr_step (map-Expr Expr Bool keeps_expr (expr_bared (expr_of y))) ≡ keeps_expr_step (map-Expr Expr Bool keeps_expr (expr_of y))
kept-step (Expr-F.Lit at s w) = refl
kept-step (Expr-F.Name x) = refl
kept-step (Expr-F.Drop at k x) = refl
kept-step (Expr-F.Un at op a) = a.1.kept
kept-step (Expr-F.Bin at op a b) = two-same (λ p q. p && q) a.1.kept b.1.kept
kept-step (Expr-F.Shift at dir a count) = two-same (λ p q. p && q) a.1.kept count.1.kept
kept-step (Expr-F.And at a b) = two-same (λ p q. p && q) a.1.kept b.1.kept
kept-step (Expr-F.Or at a b) = two-same (λ p q. p && q) a.1.kept b.1.kept
kept-step (Expr-F.Implies at a b) = two-same (λ p q. p && q) a.1.kept b.1.kept
kept-step (Expr-F.If at c a b) = three-same (λ p q r. p && q && r) c.1.kept a.1.kept b.1.kept
kept-step (Expr-F.Cast at to a) = two-same (λ p q. p && q) (type-good to).kept a.1.kept
kept-step (Expr-F.Abs at a) = a.1.kept
kept-step (Expr-F.Sign at a) = a.1.kept
kept-step (Expr-F.Index at a i) = two-same (λ p q. p && q) a.1.kept i.1.kept
kept-step (Expr-F.Field at a x) = ap (λ p. p && keeps_name x) a.1.kept
kept-step (Expr-F.Array at items) = ap (λ ks. kept_from 1 1024 ks) (each-kept expr_without_places form_of_expr keeps_expr items)
kept-step (Expr-F.Record at x items) = ap (λ ks. keeps_name x && (nat_le 1 (length ks) && all_kept ks)) (each-kept expr_without_places form_of_expr keeps_expr items)
kept-step (Expr-F.Once at p) = p.1.kept
kept-step (Expr-F.Historically at p) = p.1.kept
kept-step (Expr-F.Yesterday at p) = p.1.kept
kept-step (Expr-F.WeaklyYesterday at p) = p.1.kept
kept-step (Expr-F.Since at p q) = two-same (λ p q. p && q) p.1.kept q.1.kept
kept-step (Expr-F.OnceIn at low high p) = ap (λ b. between low 128 high && b) p.1.kept
kept-step (Expr-F.HistoricallyIn at low high p) = ap (λ b. between low 128 high && b) p.1.kept
kept-step (Expr-F.SinceIn at low high p q) = two-same (λ a b. between low 128 high && a && b) p.1.kept q.1.kept
kept-step (Expr-F.Clock at period phase) = refl
kept-step (Expr-F.Majority at items) = ap (λ ks. kept_from 1 9 ks) (each-kept expr_without_places form_of_expr keeps_expr items)
kept-step (Expr-F.Agreed at items) = ap (λ ks. kept_from 1 9 ks) (each-kept expr_without_places form_of_expr keeps_expr items)
kept-step (Expr-F.WindowMax at n e) = ap (λ b. between 1 12 n && b) e.1.kept
kept-step (Expr-F.WindowMin at n e) = ap (λ b. between 1 12 n && b) e.1.kept
kept-step (Expr-F.WindowSum at n e) = ap (λ b. between 1 12 n && b) e.1.kept

expr-good : (e : Expr) → ExprGood e
expr-good = ind-Expr ExprGood (λ x y is. subst (λ z. ExprGood (roll-Expr z)) is (expr-rolled (expr_of y) (form-step y) (kept-step y)))

-- ---- declarations

field-good : (f : FieldForm) → Good field_without_places form_of_field keeps_field f
field-good f = record {
  form = ap (λ g. form (Some 0) (more (name_form (name_without_place f.name)) (more g none))) (type-good f.ty).form;
  kept = ap (λ b. keeps_name f.name && b) (type-good f.ty).kept;
}

decl-form : (x : Decl) → form_of_decl (decl_without_places x) ≡ form_at_0 (form_of_decl x)
decl-form (d.Struct at x fields) =
    ap (λ fs. headed (Some 0) (codes "struct") (more (name_form (name_without_place x)) fs)) (all-form field_without_places form_of_field keeps_field field-good fields)
decl-form (d.Extern at x ty) = ap (λ f. with_two 0 (codes "extern") (name_form (name_without_place x)) f) (type-good ty).form
decl-form (d.Stream at x ty init e) =
    three-same (λ f fs g. headed (Some 0) (codes "stream") (more (name_form (name_without_place x)) (more f (more (form None fs) (more g none)))))
    (type-good ty).form (all-form const_without_places form_of_const keeps_const const-good init) (expr-good e).form
decl-form (d.Def at x ty e) = two-same (λ f g. with_three 0 (codes "def") (name_form (name_without_place x)) f g) (type-good ty).form (expr-good e).form
decl-form (d.Trigger at x guard args) =
    two-same (λ f fs. headed (Some 0) (codes "trigger") (more (name_form (name_without_place x)) (more f fs))) (expr-good guard).form
    (all-form expr_without_places form_of_expr keeps_expr expr-good args)
decl-form (d.Observer at x e) = ap (λ f. with_two 0 (codes "observer") (name_form (name_without_place x)) f) (expr-good e).form

decl-kept : (version : ℕ) (x : Decl) → keeps_decl version (decl_without_places x) ≡ keeps_decl version x
decl-kept version (d.Struct at x fields) = ap (λ ks. keeps_name x && kept_from 1 64 ks) (all-are-kept field_without_places form_of_field keeps_field field-good fields)
decl-kept version (d.Extern at x ty) = ap (λ b. keeps_name x && b) (type-good ty).kept
decl-kept version (d.Stream at x ty init e) =
    three-same (λ a ks b. keeps_name x && a && kept_from 1 (most_initial version) ks && b) (type-good ty).kept
    (all-are-kept const_without_places form_of_const keeps_const const-good init) (expr-good e).kept
decl-kept version (d.Def at x ty e) = two-same (λ a b. keeps_name x && a && b) (type-good ty).kept (expr-good e).kept
decl-kept version (d.Trigger at x guard args) =
    two-same (λ a ks. keeps_name x && a && kept_from 0 16 ks) (expr-good guard).kept (all-are-kept expr_without_places form_of_expr keeps_expr expr-good args)
decl-kept version (d.Observer at x e) = ap (λ b. keeps_name x && b) (expr-good e).kept

decl-good : (version : ℕ) (x : Decl) → Good decl_without_places form_of_decl (keeps_decl version) x
decl-good version x = record { form = decl-form x; kept = decl-kept version x }

-- ---- surfaces

placeless-form : (s : Surface) → form_of (without_places s) ≡ form_at_0 (form_of s)
placeless-form s =
    ap (λ fs. headed None (spec_word s.version) (more (word None s.name) fs)) (all-form decl_without_places form_of_decl (keeps_decl s.version) (decl-good s.version) s.decls)

pub same-bare : (s : Surface) → bare (form_of (without_places s)) ≡ bare (form_of s)
same-bare s = ap bare (placeless-form s) ∙ bare-at-0 (form_of s)

pub placeless-kept : (s : Surface) → KeepsTable s → KeepsTable (without_places s)
unfolding keeps_table
placeless-kept s k =
    ap (λ ks. (s.version == 1 || s.version == 2) && is_name s.name && all_kept ks) (all-are-kept decl_without_places form_of_decl (keeps_decl s.version) (decl-good s.version) s.decls) ∙ k

-- A form without places is read as the surface without places.
placeless-read : (s : Surface) → KeepsTable s → surface_in (more_node (bare (form_of s)) no_node) ≡ without_places s
placeless-read s k =
    let all : AllMatch (more (form_of (without_places s)) none) (more_node (bare (form_of s)) no_node) =
    subst (λ (f : Form). AllMatch (more f none) (more_node (bare (form_of s)) no_node)) (sym (placeless-form s)) (bare-matches (form_of s), tt) in
    nodes-read (more_node (bare (form_of s)) no_node) (without_places s) all (placeless-kept s k)

pub same-but-places : (s t : Surface) → KeepsTable s → KeepsTable t → bare (form_of s) ≡ bare (form_of t) → SameButPlaces s t
same-but-places s t k l e = sym (placeless-read s k) ∙ ap (λ (x : Node). surface_in (more_node x no_node)) e ∙ placeless-read t l
