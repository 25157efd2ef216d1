-- Expressions that are kept are read from the nodes that match their forms.
use Rattle.std.proofs.Common.{◌≡◌, ℕ, ◌<◌, ◌≤◌, ◌^◌, ◌&&◌, Bool, true, nat_lt, nat_le, List, ◌∷◌, map, length, Some, refl, ap, sym, ◌∙◌, subst, arith}
use Rattle.std.proofs.lemmas.Bool.{and_parts}
use Rattle.std.proofs.lemmas.Bool.Decides.{nat_tests}
use Rattle.spec_forest.specs.Node.{Nodes, atom, list}
use Rattle.spec_forest.specs.Node.{none as no_node, more as more_node}
use Rattle.spec_text.specs.declared.surface.Expr.{Expr, map-Expr, roll-Expr}
use Rattle.spec_text.specs.declared.surface.Expr.TheOpen.{Expr-F}
use Rattle.spec_text.specs.declared.surface.Expr.TheFolds.{fold-roll-Expr, ind-Expr}
use Rattle.spec_words.specs.declared.head.Single.{Single as SingleHead}
use Rattle.spec_words.specs.declared.head.Single.TheVariants as single
use Rattle.spec_words.specs.declared.head.Pair.{Pair as PairHead}
use Rattle.spec_words.specs.declared.head.Pair.TheVariants as pair
use Rattle.spec_words.specs.declared.head.Bounded.{Bounded as BoundedHead}
use Rattle.spec_words.specs.declared.head.Bounded.TheVariants as bounded
use Rattle.spec_words.specs.declared.head.Vote.{Vote as VoteHead}
use Rattle.spec_words.specs.declared.head.Vote.TheVariants as vote
use Rattle.spec_words.specs.declared.head.Window.{Window as WindowHead}
use Rattle.spec_words.specs.declared.head.Window.TheVariants as window
use Rattle.spec_words.specs.declared.head.Head.{Head}
use Rattle.spec_words.specs.declared.head.Head.TheVariants as head
use Rattle.spec_words.specs.Words.{head_word}
use Rattle.spec_words.specs.Literals.{literal_text}
use Rattle.spec_text.specs.Form.{Form, Forms, none, more, headed, number, forms, form_of_expr, expr_step}
use Rattle.spec_text.specs.KeepsTable.{between, all_kept, keeps_name, keeps_type, keeps_expr, keeps_expr_step}
use Rattle.spec_text.specs.Shape.{number_in}
use Rattle.spec_words.proofs.ReadBack.{head-read}
use Rattle.spec_text.proofs.Read.{each_in, name_in, type_in, expr_in, exprs_in, expr_atom, expr_list, expr_form, single_form, pair_form, bounded_form, vote_form, window_form}
use Rattle.spec_text.proofs.ReadWords.{literal-read, name-no-literal}
use Rattle.spec_text.proofs.ReadParts.{IsRead, AreRead, Kept, fst, atom-is, headed-is, many-are, one-are, two-are, three-are, four-are, front-are, number-is, name-is, each-are}
use Rattle.spec_text.proofs.ReadForms.{number-to, type-read}

abbrev pub ExprRead : Expr → Type 0
ExprRead e = Kept keeps_expr form_of_expr expr_in e

abbrev KeptExpr : Type 0
KeptExpr = (e : Expr) × ExprRead e

abbrev expr_of : Expr-F KeptExpr → Expr-F Expr
expr_of y = map-Expr KeptExpr Expr (λ e. e.0) y

-- ---- numbers

low-is : (low high : ℕ) → between low 128 high ≡ true → IsRead number_in (number low) low
low-is low high h =
    let p = and_parts (nat_le low high) (nat_le high 128) h in
    let a : low ≤ high = grind (arith, nat_tests, p.0) in
    let b : high ≤ 128 = grind (arith, nat_tests, p.1) in
    number-is low (omega (arith, a, b))

high-is : (low high : ℕ) → between low 128 high ≡ true → IsRead number_in (number high) high
high-is low high h =
    let b : high ≤ 128 = grind (arith, nat_tests, (and_parts (nat_le low high) (nat_le high 128) h).1) in
    number-is high (omega (arith, b))

period-is : (period phase : ℕ) → (nat_lt phase period && nat_lt period (2 ^ 32)) ≡ true → IsRead number_in (number period) period
period-is period phase h =
    let b : period < 4294967296 = grind (arith, nat_tests, (and_parts (nat_lt phase period) (nat_lt period (2 ^ 32)) h).1) in
    number-is period (omega (arith, b))

phase-is : (period phase : ℕ) → (nat_lt phase period && nat_lt period (2 ^ 32)) ≡ true → IsRead number_in (number phase) phase
phase-is period phase h =
    let p = and_parts (nat_lt phase period) (nat_lt period (2 ^ 32)) h in
    let a : phase < period = grind (arith, nat_tests, p.0) in
    let b : period < 4294967296 = grind (arith, nat_tests, p.1) in
    number-is phase (omega (arith, a, b))

skip-is : (n : ℕ) → nat_le n 4294967295 ≡ true → IsRead number_in (number n) n
skip-is n h =
    let a : n ≤ 4294967295 = grind (arith, nat_tests, h) in
    number-is n (omega (arith, a))

-- ---- forms by their words

abbrev reads : ℕ → Head → Nodes → Expr-F Expr
reads at h xs = expr_form at h xs (exprs_in xs)

form-is : (at : ℕ) (h : Head) {fs : Forms} {e : Expr-F Expr} → AreRead (λ xs. reads at h xs) fs e → IsRead expr_in (headed (Some at) (head_word h) fs) (roll-Expr e)
form-is at h r = headed-is expr_in at (head_word h) (λ w. many-are (λ xs. expr_in (list at (more_node (atom w (head_word h)) xs))) (λ xs. reads at h xs) (λ e. roll-Expr e) (λ xs. ap (λ o. expr_list at o xs (exprs_in xs)) (head-read h)) r)

single-is : (at : ℕ) (h : SingleHead) {f : Form} {a : Expr} → IsRead expr_in f a → IsRead expr_in (headed (Some at) (head_word (head.Single h)) (more f none)) (roll-Expr (single_form at h a))
single-is at h r = form-is at (head.Single h) (one-are (λ xs. reads at (head.Single h) xs) expr_in (λ a. single_form at h a) (λ x. refl) r)

pair-is : (at : ℕ) (h : PairHead) {f g : Form} {a b : Expr} → IsRead expr_in f a → IsRead expr_in g b → IsRead expr_in (headed (Some at) (head_word (head.Pair h)) (more f (more g none))) (roll-Expr (pair_form at h a b))
pair-is at h r s = form-is at (head.Pair h) (two-are (λ xs. reads at (head.Pair h) xs) expr_in expr_in (λ a b. pair_form at h a b) (λ x y. refl) r s)

bounded-is : (at : ℕ) (h : BoundedHead) (low high : ℕ) {f : Form} {a : Expr} → between low 128 high ≡ true → IsRead expr_in f a
    → IsRead expr_in (headed (Some at) (head_word (head.Bounded h)) (more (number low) (more (number high) (more f none)))) (roll-Expr (bounded_form at h low high a))
bounded-is at h low high k r = form-is at (head.Bounded h) (three-are (λ xs. reads at (head.Bounded h) xs) number_in number_in expr_in (λ l u a. bounded_form at h l u a) (λ x y z. refl) (low-is low high k) (high-is low high k) r)

vote-is : (at : ℕ) (h : VoteHead) {fs : Forms} {es : List Expr} → AreRead (λ xs. exprs_in xs) fs es → IsRead expr_in (headed (Some at) (head_word (head.Vote h)) fs) (roll-Expr (vote_form at h es))
vote-is at h r = form-is at (head.Vote h) (many-are (λ xs. reads at (head.Vote h) xs) (λ xs. exprs_in xs) (λ es. vote_form at h es) (λ xs. refl) r)

window-is : (at : ℕ) (h : WindowHead) (n : ℕ) {f : Form} {a : Expr} → between 1 12 n ≡ true → IsRead expr_in f a
    → IsRead expr_in (headed (Some at) (head_word (head.Window h)) (more (number n) (more f none))) (roll-Expr (window_form at h n a))
window-is at h n k r = form-is at (head.Window h) (two-are (λ xs. reads at (head.Window h) xs) number_in expr_in (λ m a. window_form at h m a) (λ x y. refl) (number-to n 1 12 k (omega arith)) r)

pub exprs-each : (xs : Nodes) → exprs_in xs ≡ each_in expr_in xs
exprs-each no_node = refl
exprs-each (more_node x xs) = ap (λ (es : List Expr). expr_in x ∷ es) (exprs-each xs)

exprs-are : (es : List KeptExpr) → all_kept (map keeps_expr (map fst es)) ≡ true → AreRead (λ xs. exprs_in xs) (forms (map form_of_expr (map fst es))) (map fst es)
exprs-are es k = many-are (λ xs. exprs_in xs) (λ xs. each_in expr_in xs) (λ es. es) exprs-each (each-are keeps_expr form_of_expr expr_in es k)

-- ---- each form

expr-step : (y : Expr-F KeptExpr) → keeps_expr_step (map-Expr Expr Bool keeps_expr (expr_of y)) ≡ true → IsRead expr_in (expr_step (map-Expr Expr Form form_of_expr (expr_of y))) (roll-Expr (expr_of y))
expr-step (Expr-F.Lit at s w) k =
    atom-is expr_in at (literal_text s w) (roll-Expr (Expr-F.Lit at s w)) (ap (expr_atom at (literal_text s w)) (literal-read s w k))
expr-step (Expr-F.Name x) k =
    atom-is expr_in x.at x.name (roll-Expr (Expr-F.Name x)) (ap (expr_atom x.at x.name) (name-no-literal x.name k))
expr-step (Expr-F.Drop at n x) k =
    let p = and_parts (nat_le n 4294967295) (keeps_name x) k in
    form-is at head.Drop (two-are (λ xs. reads at head.Drop xs) number_in name_in (λ m y. Expr-F.Drop at m y) (λ v w. refl) (skip-is n p.0) (name-is x))
expr-step (Expr-F.Un at op a) k = single-is at (single.Un op) (a.1 k)
expr-step (Expr-F.Bin at op a b) k =
    let p = and_parts (keeps_expr a.0) (keeps_expr b.0) k in
    pair-is at (pair.Bin op) (a.1 p.0) (b.1 p.1)
expr-step (Expr-F.Shift at to a b) k =
    let p = and_parts (keeps_expr a.0) (keeps_expr b.0) k in
    pair-is at (pair.Shift to) (a.1 p.0) (b.1 p.1)
expr-step (Expr-F.And at a b) k =
    let p = and_parts (keeps_expr a.0) (keeps_expr b.0) k in
    pair-is at pair.And (a.1 p.0) (b.1 p.1)
expr-step (Expr-F.Or at a b) k =
    let p = and_parts (keeps_expr a.0) (keeps_expr b.0) k in
    pair-is at pair.Or (a.1 p.0) (b.1 p.1)
expr-step (Expr-F.Implies at a b) k =
    let p = and_parts (keeps_expr a.0) (keeps_expr b.0) k in
    pair-is at pair.Implies (a.1 p.0) (b.1 p.1)
expr-step (Expr-F.Index at a b) k =
    let p = and_parts (keeps_expr a.0) (keeps_expr b.0) k in
    pair-is at pair.Index (a.1 p.0) (b.1 p.1)
expr-step (Expr-F.Since at a b) k =
    let p = and_parts (keeps_expr a.0) (keeps_expr b.0) k in
    pair-is at pair.Since (a.1 p.0) (b.1 p.1)
expr-step (Expr-F.If at c a b) k =
    let p = and_parts (keeps_expr c.0 && keeps_expr a.0) (keeps_expr b.0) k in
    let q = and_parts (keeps_expr c.0) (keeps_expr a.0) p.0 in
    form-is at head.If (three-are (λ xs. reads at head.If xs) expr_in expr_in expr_in (λ t u v. Expr-F.If at t u v) (λ x y z. refl) (c.1 q.0) (a.1 q.1) (b.1 p.1))
expr-step (Expr-F.Cast at to a) k =
    let p = and_parts (keeps_type to) (keeps_expr a.0) k in
    form-is at head.Cast (two-are (λ xs. reads at head.Cast xs) type_in expr_in (λ t u. Expr-F.Cast at t u) (λ x y. refl) (type-read to p.0) (a.1 p.1))
expr-step (Expr-F.Abs at a) k = single-is at single.Abs (a.1 k)
expr-step (Expr-F.Sign at a) k = single-is at single.Sign (a.1 k)
expr-step (Expr-F.Field at a x) k =
    let p = and_parts (keeps_expr a.0) (keeps_name x) k in
    form-is at head.Field (two-are (λ xs. reads at head.Field xs) expr_in name_in (λ t y. Expr-F.Field at t y) (λ v w. refl) (a.1 p.0) (name-is x))
expr-step (Expr-F.Array at es) k =
    let p = and_parts (between 1 1024 (length (map keeps_expr (map fst es)))) (all_kept (map keeps_expr (map fst es))) k in
    form-is at head.Array (many-are (λ xs. reads at head.Array xs) (λ xs. exprs_in xs) (λ ts. Expr-F.Array at ts) (λ xs. refl) (exprs-are es p.1))
expr-step (Expr-F.Record at x es) k =
    let p = and_parts (keeps_name x) (nat_le 1 (length (map keeps_expr (map fst es))) && all_kept (map keeps_expr (map fst es))) k in
    let q = and_parts (nat_le 1 (length (map keeps_expr (map fst es)))) (all_kept (map keeps_expr (map fst es))) p.1 in
    form-is at head.Record (front-are (λ xs. reads at head.Record xs) name_in (λ xs. exprs_in xs) (λ y ts. Expr-F.Record at y ts) (λ v xs. refl) (name-is x) (exprs-are es q.1))
expr-step (Expr-F.Once at a) k = single-is at single.Once (a.1 k)
expr-step (Expr-F.Historically at a) k = single-is at single.Historically (a.1 k)
expr-step (Expr-F.Yesterday at a) k = single-is at single.Yesterday (a.1 k)
expr-step (Expr-F.WeaklyYesterday at a) k = single-is at single.WeaklyYesterday (a.1 k)
expr-step (Expr-F.OnceIn at low high a) k =
    let p = and_parts (between low 128 high) (keeps_expr a.0) k in
    bounded-is at bounded.Once low high p.0 (a.1 p.1)
expr-step (Expr-F.HistoricallyIn at low high a) k =
    let p = and_parts (between low 128 high) (keeps_expr a.0) k in
    bounded-is at bounded.Historically low high p.0 (a.1 p.1)
expr-step (Expr-F.SinceIn at low high a b) k =
    let p = and_parts (between low 128 high && keeps_expr a.0) (keeps_expr b.0) k in
    let q = and_parts (between low 128 high) (keeps_expr a.0) p.0 in
    form-is at head.SinceIn (four-are (λ xs. reads at head.SinceIn xs) number_in number_in expr_in expr_in (λ l u s t. Expr-F.SinceIn at l u s t) (λ v w x y. refl) (low-is low high q.0) (high-is low high q.0) (a.1 q.1) (b.1 p.1))
expr-step (Expr-F.Clock at period phase) k =
    form-is at head.Clock (two-are (λ xs. reads at head.Clock xs) number_in number_in (λ m n. Expr-F.Clock at m n) (λ x y. refl) (period-is period phase k) (phase-is period phase k))
expr-step (Expr-F.Majority at es) k =
    vote-is at vote.Majority (exprs-are es (and_parts (between 1 9 (length (map keeps_expr (map fst es)))) (all_kept (map keeps_expr (map fst es))) k).1)
expr-step (Expr-F.Agreed at es) k =
    vote-is at vote.Agreed (exprs-are es (and_parts (between 1 9 (length (map keeps_expr (map fst es)))) (all_kept (map keeps_expr (map fst es))) k).1)
expr-step (Expr-F.WindowMax at n a) k =
    let p = and_parts (between 1 12 n) (keeps_expr a.0) k in
    window-is at window.Max n p.0 (a.1 p.1)
expr-step (Expr-F.WindowMin at n a) k =
    let p = and_parts (between 1 12 n) (keeps_expr a.0) k in
    window-is at window.Min n p.0 (a.1 p.1)
expr-step (Expr-F.WindowSum at n a) k =
    let p = and_parts (between 1 12 n) (keeps_expr a.0) k in
    window-is at window.Sum n p.0 (a.1 p.1)

expr-rolled : (x : Expr-F Expr) → (keeps_expr_step (map-Expr Expr Bool keeps_expr x) ≡ true → IsRead expr_in (expr_step (map-Expr Expr Form form_of_expr x)) (roll-Expr x)) → ExprRead (roll-Expr x)
unfolding keeps_expr form_of_expr
expr-rolled x h = λ k. subst (λ (f : Form). IsRead expr_in f (roll-Expr x)) (sym (fold-roll-Expr Form expr_step x)) (h (sym (fold-roll-Expr Bool keeps_expr_step x) ∙ k))

pub expr-read : (e : Expr) → ExprRead e
expr-read = ind-Expr ExprRead (λ x y is. subst (λ z. ExprRead (roll-Expr z)) is (expr-rolled (expr_of y) (expr-step y)))
