-- A surface that keeps the table fits it.
use Rattle.std.proofs.Common.{◌≡◌, ℕ, ◌-◌, ◌<◌, ◌≤◌, ◌^◌, ◌==◌, ◌&&◌, Bool, true, nat_lt, nat_le, List, [], ◌∷◌, map, length, Option, Some, None, refl, ap, sym, ◌∙◌, subst, arith}
use Rattle.std.specs.Prelude.{◌||◌, decimal}
use Rattle.std.specs.Option.{option_map}
use Rattle.std.proofs.lemmas.Bool.{and_from, and_parts}
use Rattle.std.proofs.lemmas.Bool.Decides.{nat_tests}
use Rattle.sm_io.specs.Words.{is_name}
use Rattle.spec_forest.specs.Node.{Node, Nodes, atom, list, forest_nodes}
use Rattle.spec_forest.specs.Node.{none as no_node, more as more_node}
use Rattle.spec_forest.specs.declared.tree.Forest.{Forest}
use Rattle.spec_forest.specs.Pieces.{unplaced}
use Rattle.spec_text.specs.declared.surface.FieldForm.{FieldForm}
use Rattle.spec_text.specs.declared.surface.TypeForm.{TypeForm, map-TypeForm, roll-TypeForm}
use Rattle.spec_text.specs.declared.surface.TypeForm.TheOpen.{TypeForm-F}
use Rattle.spec_text.specs.declared.surface.TypeForm.TheFolds.{fold-roll-TypeForm, ind-TypeForm}
use Rattle.spec_text.specs.declared.surface.ConstForm.{ConstForm, map-ConstForm, roll-ConstForm}
use Rattle.spec_text.specs.declared.surface.ConstForm.TheOpen.{ConstForm-F}
use Rattle.spec_text.specs.declared.surface.ConstForm.TheFolds.{fold-roll-ConstForm, ind-ConstForm}
use Rattle.spec_text.specs.declared.surface.Expr.{Expr, map-Expr, roll-Expr}
use Rattle.spec_text.specs.declared.surface.Expr.TheOpen.{Expr-F}
use Rattle.spec_text.specs.declared.surface.Expr.TheFolds.{fold-roll-Expr, ind-Expr}
use Rattle.spec_text.specs.declared.surface.Decl.{Decl}
use Rattle.spec_text.specs.declared.surface.Decl.TheVariants as d
use Rattle.spec_text.specs.declared.surface.Surface.{Surface}
use Rattle.spec_words.specs.declared.head.Single.TheVariants as single
use Rattle.spec_words.specs.declared.head.Pair.TheVariants as pair
use Rattle.spec_words.specs.declared.head.Bounded.TheVariants as bounded
use Rattle.spec_words.specs.declared.head.Vote.TheVariants as vote
use Rattle.spec_words.specs.declared.head.Window.TheVariants as window
use Rattle.spec_words.specs.declared.head.Head.{Head}
use Rattle.spec_words.specs.declared.head.Head.TheVariants as head
use Rattle.spec_words.specs.Words.{head_word, const_head, decl_head}
use Rattle.spec_words.specs.Decimals.{value_of}
use Rattle.spec_text.specs.Form.{Form, form_of, form_of_type, form_of_const, form_of_expr, form_of_field, form_of_decl, type_step, const_step, expr_step, forms}
use Rattle.spec_words.specs.Words.{spec_word}
use Rattle.spec_text.specs.Form.{none as no_form, more as more_form}
use Rattle.spec_text.specs.KeepsTable.{between, all_kept, kept_from, keeps_name, keeps_type, keeps_const, keeps_expr, keeps_field, keeps_decl, keeps_type_step, keeps_const_step, keeps_expr_step, keeps_table, KeepsTable}
use Rattle.spec_text.specs.Bare.{bare, bares}
use Rattle.spec_text.specs.Shape.{SyntaxFault, bad_form, Place, Items, top, declaration, field, initial, name, ty, constant, expression, number, count, expr_items, headed_items, most_initial, spec_items, unless, shape_fault}
use Rattle.spec_text.specs.Shape.{decimal as decimal_place}
use Rattle.spec_text.specs.FirstFault.{or_else, fault_in, fault_among, faults_of, top_fault}
use Rattle.spec_text.proofs.Orders.{top_is}
use Rattle.spec_text.proofs.Fits.{literal-fits, name-fits, scalar-fits, decimal-fits, number-fits, unless-true}
use Rattle.spec_words.proofs.ReadBack.{value-decimal, head-read, version-read}
use Rattle.spec_text.proofs.Unplaced.{top-fits}

-- ---- faults one after another

fine : (a b : Option SyntaxFault) → a ≡ None → b ≡ None → or_else a b ≡ None
fine None b h k = k
fine (Some f) b h k = absurd (cc)

one-in : (p : Place) (x : Node) → fault_in p x ≡ None → or_else (fault_in p x) None ≡ None
one-in p x h = fine (fault_in p x) None h refl

two-in : (p q : Place) (x y : Node) → fault_in p x ≡ None → fault_in q y ≡ None → or_else (fault_in p x) (or_else (fault_in q y) None) ≡ None
two-in p q x y h k = fine (fault_in p x) (or_else (fault_in q y) None) h (one-in q y k)

three-in : (p q r : Place) (x y z : Node) → fault_in p x ≡ None → fault_in q y ≡ None → fault_in r z ≡ None → or_else (fault_in p x) (or_else (fault_in q y) (or_else (fault_in r z) None)) ≡ None
three-in p q r x y z h k l = fine (fault_in p x) (or_else (fault_in q y) (or_else (fault_in r z) None)) h (two-in q r y z k l)

four-in : (o p q r : Place) (w x y z : Node) → fault_in o w ≡ None → fault_in p x ≡ None → fault_in q y ≡ None → fault_in r z ≡ None → or_else (fault_in o w) (or_else (fault_in p x) (or_else (fault_in q y) (or_else (fault_in r z) None))) ≡ None
four-in o p q r w x y z g h k l = fine (fault_in o w) (or_else (fault_in p x) (or_else (fault_in q y) (or_else (fault_in r z) None))) g (three-in p q r x y z h k l)

several-in : (p : Place) (low high : ℕ) (xs : Nodes) → (nat_le low (count xs) && nat_le (count xs) high) ≡ true → fault_among [] p xs ≡ None → or_else (unless (nat_le low (count xs) && nat_le (count xs) high) (bad_form 0)) (fault_among [] p xs) ≡ None
several-in p low high xs c h = fine (unless (nat_le low (count xs) && nat_le (count xs) high) (bad_form 0)) (fault_among [] p xs) (unless-true (nat_le low (count xs) && nat_le (count xs) high) (bad_form 0) c) h

named-in : (p : Place) (low : ℕ) (x : Node) (xs : Nodes) → fault_in name x ≡ None → (nat_le low (count xs) && true) ≡ true → fault_among [] p xs ≡ None → or_else (unless (nat_le low (count xs) && true) (bad_form 0)) (or_else (fault_in name x) (fault_among [] p xs)) ≡ None
named-in p low x xs n c h = fine (unless (nat_le low (count xs) && true) (bad_form 0)) (or_else (fault_in name x) (fault_among [] p xs)) (unless-true (nat_le low (count xs) && true) (bad_form 0) c) (fine (fault_in name x) (fault_among [] p xs) n h)

-- ---- numbers

number-between : (n low high : ℕ) → between low high n ≡ true → high ≤ 4294967295 → fault_in (number low high) (atom 0 (decimal n)) ≡ None
number-between n low high h small =
    let p = and_parts (nat_le low n) (nat_le n high) h in
    let q : n ≤ high = grind (arith, nat_tests, p.1) in
    number-fits n low high p.0 p.1 (omega (arith, q))

number-below : (n high : ℕ) → nat_le n high ≡ true → high ≤ 4294967295 → fault_in (number 0 high) (atom 0 (decimal n)) ≡ None
number-below n high h small = number-between n 0 high (and_from (nat_le 0 n) (nat_le n high) (grind (arith, nat_tests)) h) small

bounds-fit : (low high : ℕ) → between low 128 high ≡ true → (fault_in decimal_place (atom 0 (decimal low)) ≡ None) × (fault_in (number (value_of (decimal low)) 128) (atom 0 (decimal high)) ≡ None)
bounds-fit low high h =
    let p = and_parts (nat_le low high) (nat_le high 128) h in
    let a : low ≤ high = grind (arith, nat_tests, p.0) in
    let b : high ≤ 128 = grind (arith, nat_tests, p.1) in
    let c : low < 2 ^ 64 = omega (arith, a, b) in
    (decimal-fits low c, subst (λ (v : ℕ). fault_in (number v 128) (atom 0 (decimal high)) ≡ None) (sym (value-decimal low c)) (number-between high low 128 h (omega arith)))

clock-fits : (period phase : ℕ) → (nat_lt phase period && nat_lt period (2 ^ 32)) ≡ true → (fault_in (number 1 4294967295) (atom 0 (decimal period)) ≡ None) × (fault_in (number 0 (value_of (decimal period) - 1)) (atom 0 (decimal phase)) ≡ None)
clock-fits period phase h =
    let p = and_parts (nat_lt phase period) (nat_lt period (2 ^ 32)) h in
    let a : phase < period = grind (arith, nat_tests, p.0) in
    let b : period < 4294967296 = grind (arith, nat_tests, p.1) in
    let c : period < 2 ^ 64 = omega (arith, b) in
    let one : nat_le 1 period ≡ true = grind (arith, nat_tests) in
    let low : nat_le period 4294967295 ≡ true = grind (arith, nat_tests) in
    let below : nat_le phase (period - 1) ≡ true = grind (arith, nat_tests) in
    let short : period - 1 ≤ 4294967295 = omega (arith, b) in
    (number-fits period 1 4294967295 one low c, subst (λ (v : ℕ). fault_in (number 0 (v - 1)) (atom 0 (decimal phase)) ≡ None) (sym (value-decimal period c)) (number-below phase (period - 1) below short))

-- ---- items

abbrev Fitting : {X : Type 0} → Place → (X → Bool) → (X → Form) → X → Type 0
Fitting p keeps as_form x = keeps x ≡ true → fault_in p (bare (as_form x)) ≡ None

abbrev first : {X : Type 0} {P : X → Type 0} → ((x : X) × P x) → X
first e = e.0

each-fits : {X : Type 0} (p : Place) (keeps : X → Bool) (as_form : X → Form) (es : List ((x : X) × Fitting p keeps as_form x)) → all_kept (map keeps (map first es)) ≡ true → fault_among [] p (bares (forms (map as_form (map first es)))) ≡ None
each-fits p keeps as_form [] k = refl
each-fits p keeps as_form (e ∷ es) k =
    let q = and_parts (keeps e.0) (all_kept (map keeps (map first es))) k in
    fine (fault_in p (bare (as_form e.0))) (fault_among [] p (bares (forms (map as_form (map first es))))) (e.1 q.0) (each-fits p keeps as_form es q.1)

all-fit : {X : Type 0} (p : Place) (keeps : X → Bool) (as_form : X → Form) → ((x : X) → Fitting p keeps as_form x) → (xs : List X) → all_kept (map keeps xs) ≡ true → fault_among [] p (bares (forms (map as_form xs))) ≡ None
all-fit p keeps as_form h [] k = refl
all-fit p keeps as_form h (x ∷ xs) k =
    let q = and_parts (keeps x) (all_kept (map keeps xs)) k in
    fine (fault_in p (bare (as_form x))) (fault_among [] p (bares (forms (map as_form xs)))) (h x q.0) (all-fit p keeps as_form h xs q.1)

count-forms : {X : Type 0} (keeps : X → Bool) (as_form : X → Form) (xs : List X) → length (map keeps xs) ≡ count (bares (forms (map as_form xs)))
count-forms keeps as_form [] = refl
count-forms keeps as_form (x ∷ xs) = let e : length (map keeps xs) ≡ count (bares (forms (map as_form xs))) = count-forms keeps as_form xs in omega (arith, e)

counted : {X : Type 0} (keeps : X → Bool) (as_form : X → Form) (xs : List X) (low high : ℕ) → between low high (length (map keeps xs)) ≡ true → (nat_le low (count (bares (forms (map as_form xs)))) && nat_le (count (bares (forms (map as_form xs)))) high) ≡ true
counted keeps as_form xs low high h = subst (λ (n : ℕ). (nat_le low n && nat_le n high) ≡ true) (count-forms keeps as_form xs) h

counted-from : {X : Type 0} (keeps : X → Bool) (as_form : X → Form) (xs : List X) (low : ℕ) → nat_le low (length (map keeps xs)) ≡ true → (nat_le low (count (bares (forms (map as_form xs)))) && true) ≡ true
counted-from keeps as_form xs low h = and_from (nat_le low (count (bares (forms (map as_form xs))))) true (subst (λ (n : ℕ). nat_le low n ≡ true) (count-forms keeps as_form xs) h) refl

-- ---- types

abbrev TypeFits : TypeForm → Type 0
TypeFits t = Fitting ty keeps_type form_of_type t

abbrev KeptType : Type 0
KeptType = (t : TypeForm) × TypeFits t

abbrev type_of : TypeForm-F KeptType → TypeForm-F TypeForm
type_of y = map-TypeForm KeptType TypeForm (λ e. e.0) y

type-step : (y : TypeForm-F KeptType) → keeps_type_step (map-TypeForm TypeForm Bool keeps_type (type_of y)) ≡ true → fault_in ty (bare (type_step (map-TypeForm TypeForm Form form_of_type (type_of y)))) ≡ None
type-step (TypeForm-F.Scalar at s) k = scalar-fits s
type-step (TypeForm-F.Named x) k = (name-fits x.name k).as_type
type-step (TypeForm-F.Array at elem n) k =
    let p = and_parts (keeps_type elem.0) (between 1 1024 n) k in
    two-in ty (number 1 1024) (bare (form_of_type elem.0)) (atom 0 (decimal n)) (elem.1 p.0) (number-between n 1 1024 p.1 (omega arith))

type-rolled : (x : TypeForm-F TypeForm) → (keeps_type_step (map-TypeForm TypeForm Bool keeps_type x) ≡ true → fault_in ty (bare (type_step (map-TypeForm TypeForm Form form_of_type x))) ≡ None) → TypeFits (roll-TypeForm x)
unfolding keeps_type form_of_type
type-rolled x h = λ k. subst (λ (f : Form). fault_in ty (bare f) ≡ None) (sym (fold-roll-TypeForm Form type_step x)) (h (sym (fold-roll-TypeForm Bool keeps_type_step x) ∙ k))

type-fits : (t : TypeForm) → TypeFits t
type-fits = ind-TypeForm TypeFits (λ x y is. subst (λ z. TypeFits (roll-TypeForm z)) is (type-rolled (type_of y) (type-step y)))

-- ---- constants

abbrev ConstFits : ConstForm → Type 0
ConstFits c = Fitting constant keeps_const form_of_const c

abbrev KeptConst : Type 0
KeptConst = (c : ConstForm) × ConstFits c

abbrev const_of : ConstForm-F KeptConst → ConstForm-F ConstForm
const_of y = map-ConstForm KeptConst ConstForm (λ e. e.0) y

const-step : (y : ConstForm-F KeptConst) → keeps_const_step (map-ConstForm ConstForm Bool keeps_const (const_of y)) ≡ true → fault_in constant (bare (const_step (map-ConstForm ConstForm Form form_of_const (const_of y)))) ≡ None
unfolding const_head
const-step (ConstForm-F.Lit at s w) k = (literal-fits s w k).as_constant
const-step (ConstForm-F.Array at es) k =
    let p = and_parts (between 1 1024 (length (map keeps_const (map first es)))) (all_kept (map keeps_const (map first es))) k in
    several-in constant 1 1024 (bares (forms (map form_of_const (map first es)))) (counted keeps_const form_of_const (map first es) 1 1024 p.0) (each-fits constant keeps_const form_of_const es p.1)
const-step (ConstForm-F.Record at x es) k =
    let p = and_parts (keeps_name x) (nat_le 1 (length (map keeps_const (map first es))) && all_kept (map keeps_const (map first es))) k in
    let q = and_parts (nat_le 1 (length (map keeps_const (map first es)))) (all_kept (map keeps_const (map first es))) p.1 in
    named-in constant 1 (atom 0 x.name) (bares (forms (map form_of_const (map first es)))) (name-fits x.name p.0).as_name (counted-from keeps_const form_of_const (map first es) 1 q.0) (each-fits constant keeps_const form_of_const es q.1)

const-rolled : (x : ConstForm-F ConstForm) → (keeps_const_step (map-ConstForm ConstForm Bool keeps_const x) ≡ true → fault_in constant (bare (const_step (map-ConstForm ConstForm Form form_of_const x))) ≡ None) → ConstFits (roll-ConstForm x)
unfolding keeps_const form_of_const
const-rolled x h = λ k. subst (λ (f : Form). fault_in constant (bare f) ≡ None) (sym (fold-roll-ConstForm Form const_step x)) (h (sym (fold-roll-ConstForm Bool keeps_const_step x) ∙ k))

const-fits : (c : ConstForm) → ConstFits c
const-fits = ind-ConstForm ConstFits (λ x y is. subst (λ z. ConstFits (roll-ConstForm z)) is (const-rolled (const_of y) (const-step y)))

-- ---- expressions

at-expr : (text : List ℕ) (ps : Nodes) (all : Items) → headed_items expression text ps ≡ Some all → fault_in expression (list 0 (more_node (atom 0 text) ps)) ≡ faults_of 0 all ps
at-expr text ps all e = rw e refl

form-fits : (h : Head) (ps : Nodes) → faults_of 0 (expr_items h ps) ps ≡ None → fault_in expression (list 0 (more_node (atom 0 (head_word h)) ps)) ≡ None
form-fits h ps none = at-expr (head_word h) ps (expr_items h ps) (ap (option_map (λ k. expr_items k ps)) (head-read h)) ∙ none

abbrev ExprFits : Expr → Type 0
ExprFits e = Fitting expression keeps_expr form_of_expr e

abbrev KeptExpr : Type 0
KeptExpr = (e : Expr) × ExprFits e

abbrev expr_of : Expr-F KeptExpr → Expr-F Expr
expr_of y = map-Expr KeptExpr Expr (λ e. e.0) y

expr-step : (y : Expr-F KeptExpr) → keeps_expr_step (map-Expr Expr Bool keeps_expr (expr_of y)) ≡ true → fault_in expression (bare (expr_step (map-Expr Expr Form form_of_expr (expr_of y)))) ≡ None
expr-step (Expr-F.Lit at s w) k =
    (literal-fits s w k).as_expression
expr-step (Expr-F.Name x) k =
    (name-fits x.name k).as_expression
expr-step (Expr-F.Drop at n x) k =
    let p = and_parts (nat_le n 4294967295) (keeps_name x) k in
    form-fits (head.Drop) (more_node (atom 0 (decimal n)) (more_node (atom 0 x.name) no_node)) (two-in (number 0 4294967295) name (atom 0 (decimal n)) (atom 0 x.name) (number-below n 4294967295 p.0 (omega arith)) (name-fits x.name p.1).as_name)
expr-step (Expr-F.Un at op a) k =
    form-fits (head.Single (single.Un op)) (more_node (bare (form_of_expr a.0)) no_node) (one-in expression (bare (form_of_expr a.0)) (a.1 k))
expr-step (Expr-F.Bin at op a b) k =
    let p = and_parts (keeps_expr a.0) (keeps_expr b.0) k in
    form-fits (head.Pair (pair.Bin op)) (more_node (bare (form_of_expr a.0)) (more_node (bare (form_of_expr b.0)) no_node)) (two-in expression expression (bare (form_of_expr a.0)) (bare (form_of_expr b.0)) (a.1 p.0) (b.1 p.1))
expr-step (Expr-F.Shift at op a b) k =
    let p = and_parts (keeps_expr a.0) (keeps_expr b.0) k in
    form-fits (head.Pair (pair.Shift op)) (more_node (bare (form_of_expr a.0)) (more_node (bare (form_of_expr b.0)) no_node)) (two-in expression expression (bare (form_of_expr a.0)) (bare (form_of_expr b.0)) (a.1 p.0) (b.1 p.1))
expr-step (Expr-F.And at a b) k =
    let p = and_parts (keeps_expr a.0) (keeps_expr b.0) k in
    form-fits (head.Pair pair.And) (more_node (bare (form_of_expr a.0)) (more_node (bare (form_of_expr b.0)) no_node)) (two-in expression expression (bare (form_of_expr a.0)) (bare (form_of_expr b.0)) (a.1 p.0) (b.1 p.1))
expr-step (Expr-F.Or at a b) k =
    let p = and_parts (keeps_expr a.0) (keeps_expr b.0) k in
    form-fits (head.Pair pair.Or) (more_node (bare (form_of_expr a.0)) (more_node (bare (form_of_expr b.0)) no_node)) (two-in expression expression (bare (form_of_expr a.0)) (bare (form_of_expr b.0)) (a.1 p.0) (b.1 p.1))
expr-step (Expr-F.Implies at a b) k =
    let p = and_parts (keeps_expr a.0) (keeps_expr b.0) k in
    form-fits (head.Pair pair.Implies) (more_node (bare (form_of_expr a.0)) (more_node (bare (form_of_expr b.0)) no_node)) (two-in expression expression (bare (form_of_expr a.0)) (bare (form_of_expr b.0)) (a.1 p.0) (b.1 p.1))
expr-step (Expr-F.Index at a b) k =
    let p = and_parts (keeps_expr a.0) (keeps_expr b.0) k in
    form-fits (head.Pair pair.Index) (more_node (bare (form_of_expr a.0)) (more_node (bare (form_of_expr b.0)) no_node)) (two-in expression expression (bare (form_of_expr a.0)) (bare (form_of_expr b.0)) (a.1 p.0) (b.1 p.1))
expr-step (Expr-F.Since at a b) k =
    let p = and_parts (keeps_expr a.0) (keeps_expr b.0) k in
    form-fits (head.Pair pair.Since) (more_node (bare (form_of_expr a.0)) (more_node (bare (form_of_expr b.0)) no_node)) (two-in expression expression (bare (form_of_expr a.0)) (bare (form_of_expr b.0)) (a.1 p.0) (b.1 p.1))
expr-step (Expr-F.If at c a b) k =
    let p = and_parts (keeps_expr c.0 && keeps_expr a.0) (keeps_expr b.0) k in
    let q = and_parts (keeps_expr c.0) (keeps_expr a.0) p.0 in
    form-fits (head.If) (more_node (bare (form_of_expr c.0)) (more_node (bare (form_of_expr a.0)) (more_node (bare (form_of_expr b.0)) no_node))) (three-in expression expression expression (bare (form_of_expr c.0)) (bare (form_of_expr a.0)) (bare (form_of_expr b.0)) (c.1 q.0) (a.1 q.1) (b.1 p.1))
expr-step (Expr-F.Cast at to a) k =
    let p = and_parts (keeps_type to) (keeps_expr a.0) k in
    form-fits (head.Cast) (more_node (bare (form_of_type to)) (more_node (bare (form_of_expr a.0)) no_node)) (two-in ty expression (bare (form_of_type to)) (bare (form_of_expr a.0)) (type-fits to p.0) (a.1 p.1))
expr-step (Expr-F.Abs at a) k =
    form-fits (head.Single single.Abs) (more_node (bare (form_of_expr a.0)) no_node) (one-in expression (bare (form_of_expr a.0)) (a.1 k))
expr-step (Expr-F.Sign at a) k =
    form-fits (head.Single single.Sign) (more_node (bare (form_of_expr a.0)) no_node) (one-in expression (bare (form_of_expr a.0)) (a.1 k))
expr-step (Expr-F.Field at a x) k =
    let p = and_parts (keeps_expr a.0) (keeps_name x) k in
    form-fits (head.Field) (more_node (bare (form_of_expr a.0)) (more_node (atom 0 x.name) no_node)) (two-in expression name (bare (form_of_expr a.0)) (atom 0 x.name) (a.1 p.0) (name-fits x.name p.1).as_name)
expr-step (Expr-F.Array at es) k =
    let p = and_parts (between 1 1024 (length (map keeps_expr (map first es)))) (all_kept (map keeps_expr (map first es))) k in
    form-fits (head.Array) (bares (forms (map form_of_expr (map first es)))) (several-in expression 1 1024 (bares (forms (map form_of_expr (map first es)))) (counted keeps_expr form_of_expr (map first es) 1 1024 p.0) (each-fits expression keeps_expr form_of_expr es p.1))
expr-step (Expr-F.Record at x es) k =
    let p = and_parts (keeps_name x) (nat_le 1 (length (map keeps_expr (map first es))) && all_kept (map keeps_expr (map first es))) k in
    let q = and_parts (nat_le 1 (length (map keeps_expr (map first es)))) (all_kept (map keeps_expr (map first es))) p.1 in
    form-fits head.Record (more_node (atom 0 x.name) (bares (forms (map form_of_expr (map first es))))) (named-in expression 1 (atom 0 x.name) (bares (forms (map form_of_expr (map first es)))) (name-fits x.name p.0).as_name (counted-from keeps_expr form_of_expr (map first es) 1 q.0) (each-fits expression keeps_expr form_of_expr es q.1))
expr-step (Expr-F.Once at a) k =
    form-fits (head.Single single.Once) (more_node (bare (form_of_expr a.0)) no_node) (one-in expression (bare (form_of_expr a.0)) (a.1 k))
expr-step (Expr-F.Historically at a) k =
    form-fits (head.Single single.Historically) (more_node (bare (form_of_expr a.0)) no_node) (one-in expression (bare (form_of_expr a.0)) (a.1 k))
expr-step (Expr-F.Yesterday at a) k =
    form-fits (head.Single single.Yesterday) (more_node (bare (form_of_expr a.0)) no_node) (one-in expression (bare (form_of_expr a.0)) (a.1 k))
expr-step (Expr-F.WeaklyYesterday at a) k =
    form-fits (head.Single single.WeaklyYesterday) (more_node (bare (form_of_expr a.0)) no_node) (one-in expression (bare (form_of_expr a.0)) (a.1 k))
expr-step (Expr-F.OnceIn at low high a) k =
    let p = and_parts (between low 128 high) (keeps_expr a.0) k in
    let b = bounds-fit low high p.0 in
    form-fits (head.Bounded bounded.Once) (more_node (atom 0 (decimal low)) (more_node (atom 0 (decimal high)) (more_node (bare (form_of_expr a.0)) no_node))) (three-in decimal_place (number (value_of (decimal low)) 128) expression (atom 0 (decimal low)) (atom 0 (decimal high)) (bare (form_of_expr a.0)) b.0 b.1 (a.1 p.1))
expr-step (Expr-F.HistoricallyIn at low high a) k =
    let p = and_parts (between low 128 high) (keeps_expr a.0) k in
    let b = bounds-fit low high p.0 in
    form-fits (head.Bounded bounded.Historically) (more_node (atom 0 (decimal low)) (more_node (atom 0 (decimal high)) (more_node (bare (form_of_expr a.0)) no_node))) (three-in decimal_place (number (value_of (decimal low)) 128) expression (atom 0 (decimal low)) (atom 0 (decimal high)) (bare (form_of_expr a.0)) b.0 b.1 (a.1 p.1))
expr-step (Expr-F.SinceIn at low high a c) k =
    let p = and_parts (between low 128 high && keeps_expr a.0) (keeps_expr c.0) k in
    let q = and_parts (between low 128 high) (keeps_expr a.0) p.0 in
    let b = bounds-fit low high q.0 in
    form-fits (head.SinceIn) (more_node (atom 0 (decimal low)) (more_node (atom 0 (decimal high)) (more_node (bare (form_of_expr a.0)) (more_node (bare (form_of_expr c.0)) no_node)))) (four-in decimal_place (number (value_of (decimal low)) 128) expression expression (atom 0 (decimal low)) (atom 0 (decimal high)) (bare (form_of_expr a.0)) (bare (form_of_expr c.0)) b.0 b.1 (a.1 q.1) (c.1 p.1))
expr-step (Expr-F.Clock at period phase) k =
    let b = clock-fits period phase k in
    form-fits (head.Clock) (more_node (atom 0 (decimal period)) (more_node (atom 0 (decimal phase)) no_node)) (two-in (number 1 4294967295) (number 0 (value_of (decimal period) - 1)) (atom 0 (decimal period)) (atom 0 (decimal phase)) b.0 b.1)
expr-step (Expr-F.Majority at es) k =
    let p = and_parts (between 1 9 (length (map keeps_expr (map first es)))) (all_kept (map keeps_expr (map first es))) k in
    form-fits (head.Vote vote.Majority) (bares (forms (map form_of_expr (map first es)))) (several-in expression 1 9 (bares (forms (map form_of_expr (map first es)))) (counted keeps_expr form_of_expr (map first es) 1 9 p.0) (each-fits expression keeps_expr form_of_expr es p.1))
expr-step (Expr-F.Agreed at es) k =
    let p = and_parts (between 1 9 (length (map keeps_expr (map first es)))) (all_kept (map keeps_expr (map first es))) k in
    form-fits (head.Vote vote.Agreed) (bares (forms (map form_of_expr (map first es)))) (several-in expression 1 9 (bares (forms (map form_of_expr (map first es)))) (counted keeps_expr form_of_expr (map first es) 1 9 p.0) (each-fits expression keeps_expr form_of_expr es p.1))
expr-step (Expr-F.WindowMax at n a) k =
    let p = and_parts (between 1 12 n) (keeps_expr a.0) k in
    form-fits (head.Window window.Max) (more_node (atom 0 (decimal n)) (more_node (bare (form_of_expr a.0)) no_node)) (two-in (number 1 12) expression (atom 0 (decimal n)) (bare (form_of_expr a.0)) (number-between n 1 12 p.0 (omega arith)) (a.1 p.1))
expr-step (Expr-F.WindowMin at n a) k =
    let p = and_parts (between 1 12 n) (keeps_expr a.0) k in
    form-fits (head.Window window.Min) (more_node (atom 0 (decimal n)) (more_node (bare (form_of_expr a.0)) no_node)) (two-in (number 1 12) expression (atom 0 (decimal n)) (bare (form_of_expr a.0)) (number-between n 1 12 p.0 (omega arith)) (a.1 p.1))
expr-step (Expr-F.WindowSum at n a) k =
    let p = and_parts (between 1 12 n) (keeps_expr a.0) k in
    form-fits (head.Window window.Sum) (more_node (atom 0 (decimal n)) (more_node (bare (form_of_expr a.0)) no_node)) (two-in (number 1 12) expression (atom 0 (decimal n)) (bare (form_of_expr a.0)) (number-between n 1 12 p.0 (omega arith)) (a.1 p.1))

expr-rolled : (x : Expr-F Expr) → (keeps_expr_step (map-Expr Expr Bool keeps_expr x) ≡ true → fault_in expression (bare (expr_step (map-Expr Expr Form form_of_expr x))) ≡ None) → ExprFits (roll-Expr x)
unfolding keeps_expr form_of_expr
expr-rolled x h = λ k. subst (λ (f : Form). fault_in expression (bare f) ≡ None) (sym (fold-roll-Expr Form expr_step x)) (h (sym (fold-roll-Expr Bool keeps_expr_step x) ∙ k))

expr-fits : (e : Expr) → ExprFits e
expr-fits = ind-Expr ExprFits (λ x y is. subst (λ z. ExprFits (roll-Expr z)) is (expr-rolled (expr_of y) (expr-step y)))

-- ---- declarations

field-fits : (f : FieldForm) → Fitting field keeps_field form_of_field f
field-fits f k =
    let p = and_parts (keeps_name f.name) (keeps_type f.ty) k in
    two-in name ty (atom 0 f.name.name) (bare (form_of_type f.ty)) (name-fits f.name.name p.0).as_name (type-fits f.ty p.1)

counted-in : (p : Place) (low high : ℕ) (x : Node) (xs : Nodes) → fault_in name x ≡ None → (nat_le low (count xs) && nat_le (count xs) high) ≡ true → fault_among [] p xs ≡ None → or_else (unless (nat_le low (count xs) && nat_le (count xs) high) (bad_form 0)) (or_else (fault_in name x) (fault_among [] p xs)) ≡ None
counted-in p low high x xs n c h = fine (unless (nat_le low (count xs) && nat_le (count xs) high) (bad_form 0)) (or_else (fault_in name x) (fault_among [] p xs)) (unless-true (nat_le low (count xs) && nat_le (count xs) high) (bad_form 0) c) (fine (fault_in name x) (fault_among [] p xs) n h)

guarded-in : (low high : ℕ) (x y : Node) (xs : Nodes) → fault_in name x ≡ None → fault_in expression y ≡ None → (nat_le low (count xs) && nat_le (count xs) high) ≡ true → fault_among [] expression xs ≡ None → or_else (unless (nat_le low (count xs) && nat_le (count xs) high) (bad_form 0)) (or_else (fault_in name x) (or_else (fault_in expression y) (fault_among [] expression xs))) ≡ None
guarded-in low high x y xs n g c h = fine (unless (nat_le low (count xs) && nat_le (count xs) high) (bad_form 0)) (or_else (fault_in name x) (or_else (fault_in expression y) (fault_among [] expression xs))) (unless-true (nat_le low (count xs) && nat_le (count xs) high) (bad_form 0) c) (fine (fault_in name x) (or_else (fault_in expression y) (fault_among [] expression xs)) n (fine (fault_in expression y) (fault_among [] expression xs) g h))

abbrev values_of : List ConstForm → Nodes
values_of init = bares (forms (map form_of_const init))

initial-fits : (version : ℕ) (init : List ConstForm) → kept_from 1 (most_initial version) (map keeps_const init) ≡ true → fault_in (initial version) (list 0 (values_of init)) ≡ None
initial-fits version init k =
    let p = and_parts (between 1 (most_initial version) (length (map keeps_const init))) (all_kept (map keeps_const init)) k in
    several-in constant 1 (most_initial version) (values_of init) (counted keeps_const form_of_const init 1 (most_initial version) p.0) (all-fit constant keeps_const form_of_const const-fits init p.1)

decl-fits : (version : ℕ) (x : Decl) → Fitting (declaration version) (keeps_decl version) form_of_decl x
unfolding decl_head
decl-fits version (d.Struct at x fields) k =
    let p = and_parts (keeps_name x) (kept_from 1 64 (map keeps_field fields)) k in
    let q = and_parts (between 1 64 (length (map keeps_field fields))) (all_kept (map keeps_field fields)) p.1 in
    counted-in field 1 64 (atom 0 x.name) (bares (forms (map form_of_field fields))) (name-fits x.name p.0).as_name (counted keeps_field form_of_field fields 1 64 q.0) (all-fit field keeps_field form_of_field field-fits fields q.1)
decl-fits version (d.Extern at x t) k =
    let p = and_parts (keeps_name x) (keeps_type t) k in
    two-in name ty (atom 0 x.name) (bare (form_of_type t)) (name-fits x.name p.0).as_name (type-fits t p.1)
decl-fits version (d.Stream at x t init e) k =
    let p = and_parts (keeps_name x && keeps_type t && kept_from 1 (most_initial version) (map keeps_const init)) (keeps_expr e) k in
    let q = and_parts (keeps_name x && keeps_type t) (kept_from 1 (most_initial version) (map keeps_const init)) p.0 in
    let r = and_parts (keeps_name x) (keeps_type t) q.0 in
    four-in name ty (initial version) expression (atom 0 x.name) (bare (form_of_type t)) (list 0 (values_of init)) (bare (form_of_expr e)) (name-fits x.name r.0).as_name (type-fits t r.1) (initial-fits version init q.1) (expr-fits e p.1)
decl-fits version (d.Def at x t e) k =
    let p = and_parts (keeps_name x && keeps_type t) (keeps_expr e) k in
    let q = and_parts (keeps_name x) (keeps_type t) p.0 in
    three-in name ty expression (atom 0 x.name) (bare (form_of_type t)) (bare (form_of_expr e)) (name-fits x.name q.0).as_name (type-fits t q.1) (expr-fits e p.1)
decl-fits version (d.Trigger at x guard args) k =
    let p = and_parts (keeps_name x && keeps_expr guard) (kept_from 0 16 (map keeps_expr args)) k in
    let q = and_parts (keeps_name x) (keeps_expr guard) p.0 in
    let i = and_parts (between 0 16 (length (map keeps_expr args))) (all_kept (map keeps_expr args)) p.1 in
    guarded-in 0 16 (atom 0 x.name) (bare (form_of_expr guard)) (bares (forms (map form_of_expr args))) (name-fits x.name q.0).as_name (expr-fits guard q.1) (counted keeps_expr form_of_expr args 0 16 i.0) (all-fit expression keeps_expr form_of_expr expr-fits args i.1)
decl-fits version (d.Observer at x e) k =
    let p = and_parts (keeps_name x) (keeps_expr e) k in
    two-in name expression (atom 0 x.name) (bare (form_of_expr e)) (name-fits x.name p.0).as_name (expr-fits e p.1)

-- ---- the whole

at-top : (text : List ℕ) (ps : Nodes) (all : Items) → headed_items top text ps ≡ Some all → fault_in top (list 0 (more_node (atom 0 text) ps)) ≡ faults_of 0 all ps
at-top text ps all e = rw e refl

abbrev decls_of : Surface → Nodes
decls_of s = bares (forms (map form_of_decl s.decls))

surface-fits : (s : Surface) → KeepsTable s → top_fault (bares (more_form (form_of s) no_form)) ≡ None
unfolding keeps_table
surface-fits s k =
    let p = and_parts ((s.version == 1 || s.version == 2) && is_name s.name) (all_kept (map (keeps_decl s.version) s.decls)) k in
    let q = and_parts (s.version == 1 || s.version == 2) (is_name s.name) p.0 in
    let many : (nat_le 0 (count (decls_of s)) && true) ≡ true = and_from (nat_le 0 (count (decls_of s))) true (grind (arith, nat_tests)) refl in
    let ps : Nodes = more_node (atom 0 s.name) (decls_of s) in
    let whole : fault_in top (bare (form_of s)) ≡ None =
    at-top (spec_word s.version) ps (spec_items s.version) (ap (option_map spec_items) (version-read s.version q.0))
    ∙ named-in (declaration s.version) 0 (atom 0 s.name) (decls_of s) (name-fits s.name q.1).as_name many (all-fit (declaration s.version) (keeps_decl s.version) form_of_decl (decl-fits s.version) s.decls p.1) in
    one-in top (bare (form_of s)) whole

pub fits : (s : Surface) → KeepsTable s → (forest : Forest) → unplaced (forest_nodes forest) ≡ bares (more_form (form_of s) no_form) → shape_fault forest ≡ None
unfolding shape_fault
fits s k forest same = top_is (forest_nodes forest) ∙ top-fits (forest_nodes forest) (bares (more_form (form_of s) no_form)) same (surface-fits s k)
