-- Expressions without a fault are those that their nodes hold, and keep the table.
use Rattle.std.proofs.Common.{◌≡◌, ℕ, ◌-◌, ◌^◌, ◌<◌, ◌≤◌, ◌&&◌, Bool, true, false, nat_lt, nat_le, List, [], map, length, Option, Some, None, refl, ap, sym, ◌∙◌, subst, arith}
use Rattle.std.specs.Prelude.{◌||◌, if◌then◌else◌, is_some}
use Rattle.std.proofs.lemmas.Bool.{and_from, and_parts}
use Rattle.std.proofs.lemmas.Bool.Decides.{nat_tests}
use Rattle.sm_io.specs.Words.{is_name}
use Rattle.stream_types.specs.declared.scalar.Scalar.{Scalar}
use Rattle.stream_types.specs.declared.scalar.Scalar.TheVariants as scalar
use Rattle.spec_forest.specs.Node.{Node, Nodes, atom, list}
use Rattle.spec_forest.specs.Node.{none as no_node, more as more_node}
use Rattle.spec_text.specs.declared.surface.Expr.{Expr, map-Expr, roll-Expr}
use Rattle.spec_text.specs.declared.surface.Expr.TheOpen.{Expr-F}
use Rattle.spec_text.specs.declared.surface.Expr.TheFolds.{fold-roll-Expr}
use Rattle.spec_words.specs.declared.head.Single.{Single as SingleHead}
use Rattle.spec_words.specs.declared.head.Single.TheVariants as single
use Rattle.spec_words.specs.declared.head.Pair.{Pair as PairHead}
use Rattle.spec_words.specs.declared.head.Pair.TheVariants as pair
use Rattle.spec_words.specs.declared.head.Bounded.{Bounded as BoundedHead}
use Rattle.spec_words.specs.declared.head.Bounded.TheVariants as bounded
use Rattle.spec_words.specs.declared.head.Vote.{Vote as VoteHead}
use Rattle.spec_words.specs.declared.head.Vote.TheVariants as vote
use Rattle.spec_words.specs.declared.head.Window.{Window as WindowHead}
use Rattle.spec_words.specs.declared.head.Window.TheVariants as window
use Rattle.spec_words.specs.declared.head.Head.{Head}
use Rattle.spec_words.specs.declared.head.Head.TheVariants as head
use Rattle.spec_words.specs.Words.{head_word, head_of, truth_of}
use Rattle.spec_words.specs.Literals.{literal_of, is_numeric}
use Rattle.spec_words.proofs.WordLaws.{found_head}
use Rattle.spec_words.proofs.LiteralLaws.{literal_word, literal_spelled}
use Rattle.spec_text.specs.Form.{Form, form_of_expr, expr_step, Matches}
use Rattle.spec_text.specs.Form.{number as number_form}
use Rattle.spec_text.specs.KeepsTable.{between, all_kept, kept_from, keeps_name, keeps_type, keeps_expr, keeps_expr_step}
use Rattle.spec_text.specs.Shape.{bad_form, bad_name, bad_literal, Items, name, ty, expression, number, count, number_in, unless, expr_items, headed_items}
use Rattle.spec_text.specs.Shape.{decimal as decimal_place}
use Rattle.spec_text.specs.FirstFault.{or_else, fault_in, fault_among, faults_of}
use Rattle.spec_text.specs.Holds.{AllHold, HoldsExpr, IsList, HoldsForm}
use Rattle.spec_text.proofs.Counts.{kept_some}
use Rattle.spec_text.proofs.Heads.{holds_list}
use Rattle.spec_text.proofs.Read.{named, name_in, type_in, expr_in, exprs_in, expr_atom, expr_list, expr_form, single_form, pair_form, bounded_form, window_form}
use Rattle.spec_text.proofs.ReadExprs.{exprs-each}
use Rattle.spec_text.proofs.Held.{or-parts, first-fine, unless-none, Each, Held, each-held, several, name-held, number-held, decimal-held, type-held}

-- ---- what is rolled up

-- an expression that a list of this word and these items holds
abbrev Lists : ℕ → List ℕ → Nodes → Expr → Type 0
Lists at word ps e = HoldsForm form_of_expr keeps_expr at word ps e

rolled : (at : ℕ) (word : List ℕ) (ps : Nodes) (e : Expr-F Expr) → IsList (expr_step (map-Expr Expr Form form_of_expr e)) at word ps → keeps_expr_step (map-Expr Expr Bool keeps_expr e) ≡ true → Lists at word ps (roll-Expr e)
unfolding form_of_expr keeps_expr
rolled at word ps e m k = (subst (λ (f : Form). IsList f at word ps) (sym (fold-roll-Expr Form expr_step e)) m, fold-roll-Expr Bool keeps_expr_step e ∙ k)

atom-rolled : (e : Expr-F Expr) (x : Node) → Matches (expr_step (map-Expr Expr Form form_of_expr e)) x → keeps_expr_step (map-Expr Expr Bool keeps_expr e) ≡ true → HoldsExpr x (roll-Expr e)
unfolding form_of_expr keeps_expr
atom-rolled e x m k = (subst (λ (f : Form). Matches f x) (sym (fold-roll-Expr Form expr_step e)) m, fold-roll-Expr Bool keeps_expr_step e ∙ k)

-- ---- atoms

by-literal : (at : ℕ) (text : List ℕ) (l : Scalar × ℕ) → literal_of text ≡ Some l → HoldsExpr (atom at text) (expr_atom at text (Some l))
by-literal at text l h = atom-rolled (Expr-F.Lit at l.0 l.1) (atom at text) (refl, literal_spelled text l.0 l.1 h) (literal_word text l.0 l.1 h)

-- what is no literal is no truth value
no-truth : (text : List ℕ) (o : Option ℕ) → truth_of text ≡ o → literal_of text ≡ None → is_some o ≡ false
unfolding literal_of
no-truth text None h e = refl
no-truth text (Some w) h e = absurd (let no : Some (scalar.Bool, w) ≡ None = rw h at e in cc)

by-name : (at : ℕ) (text : List ℕ) (numeric : Bool) → literal_of text ≡ None
    → (if numeric then unless (is_some (literal_of text)) (bad_literal at) else unless (is_some (truth_of text) || is_name text) (bad_name at)) ≡ None → is_name text ≡ true
by-name at text true h e = absurd (let no : unless (is_some (literal_of text)) (bad_literal at) ≡ Some (bad_literal at) = rw h refl in cc)
by-name at text false h e =
    let k : (is_some (truth_of text) || is_name text) ≡ true = unless-none (is_some (truth_of text) || is_name text) (bad_name at) e in
    ap (λ (b : Bool). b || is_name text) (sym (no-truth text (truth_of text) refl h)) ∙ k

expr-atom : (at : ℕ) (text : List ℕ) (o : Option (Scalar × ℕ)) → literal_of text ≡ o → fault_in expression (atom at text) ≡ None → HoldsExpr (atom at text) (expr_atom at text o)
expr-atom at text (Some l) h e = by-literal at text l h
expr-atom at text None h e = atom-rolled (Expr-F.Name (named at text)) (atom at text) (refl, refl) (by-name at text (is_numeric text) h e)

-- ---- parts

abbrev ExprHeld : Node → Type 0
ExprHeld x = Held expression form_of_expr keeps_expr expr_in x

exprs-among : (xs : Nodes) → Each ExprHeld xs → fault_among [] expression xs ≡ None → AllHold form_of_expr keeps_expr xs (exprs_in xs)
exprs-among xs h e = subst (λ (es : List Expr). AllHold form_of_expr keeps_expr xs es) (sym (exprs-each xs)) (each-held expression form_of_expr keeps_expr expr_in xs h e)

-- ---- forms of one part, and of two

single-is : (at : ℕ) (h : SingleHead) (x : Node) → HoldsExpr x (expr_in x) → Lists at (head_word (head.Single h)) (more_node x no_node) (roll-Expr (single_form at h (expr_in x)))
single-is at (single.Un op) x a = rolled at (head_word (head.Single (single.Un op))) (more_node x no_node) (Expr-F.Un at op (expr_in x)) (refl, refl, (a.0, tt)) a.1
single-is at single.Abs x a = rolled at (head_word (head.Single single.Abs)) (more_node x no_node) (Expr-F.Abs at (expr_in x)) (refl, refl, (a.0, tt)) a.1
single-is at single.Sign x a = rolled at (head_word (head.Single single.Sign)) (more_node x no_node) (Expr-F.Sign at (expr_in x)) (refl, refl, (a.0, tt)) a.1
single-is at single.Once x a = rolled at (head_word (head.Single single.Once)) (more_node x no_node) (Expr-F.Once at (expr_in x)) (refl, refl, (a.0, tt)) a.1
single-is at single.Historically x a = rolled at (head_word (head.Single single.Historically)) (more_node x no_node) (Expr-F.Historically at (expr_in x)) (refl, refl, (a.0, tt)) a.1
single-is at single.Yesterday x a = rolled at (head_word (head.Single single.Yesterday)) (more_node x no_node) (Expr-F.Yesterday at (expr_in x)) (refl, refl, (a.0, tt)) a.1
single-is at single.WeaklyYesterday x a = rolled at (head_word (head.Single single.WeaklyYesterday)) (more_node x no_node) (Expr-F.WeaklyYesterday at (expr_in x)) (refl, refl, (a.0, tt)) a.1

abbrev two : Node → Node → Nodes
two x y = more_node x (more_node y no_node)

abbrev both : Node → Node → Bool
both x y = keeps_expr (expr_in x) && keeps_expr (expr_in y)

pair-is : (at : ℕ) (h : PairHead) (x y : Node) → HoldsExpr x (expr_in x) → HoldsExpr y (expr_in y) → both x y ≡ true → Lists at (head_word (head.Pair h)) (two x y) (roll-Expr (pair_form at h (expr_in x) (expr_in y)))
pair-is at (pair.Bin op) x y a b k = rolled at (head_word (head.Pair (pair.Bin op))) (two x y) (Expr-F.Bin at op (expr_in x) (expr_in y)) (refl, refl, (a.0, (b.0, tt))) k
pair-is at (pair.Shift d) x y a b k = rolled at (head_word (head.Pair (pair.Shift d))) (two x y) (Expr-F.Shift at d (expr_in x) (expr_in y)) (refl, refl, (a.0, (b.0, tt))) k
pair-is at pair.And x y a b k = rolled at (head_word (head.Pair pair.And)) (two x y) (Expr-F.And at (expr_in x) (expr_in y)) (refl, refl, (a.0, (b.0, tt))) k
pair-is at pair.Or x y a b k = rolled at (head_word (head.Pair pair.Or)) (two x y) (Expr-F.Or at (expr_in x) (expr_in y)) (refl, refl, (a.0, (b.0, tt))) k
pair-is at pair.Implies x y a b k = rolled at (head_word (head.Pair pair.Implies)) (two x y) (Expr-F.Implies at (expr_in x) (expr_in y)) (refl, refl, (a.0, (b.0, tt))) k
pair-is at pair.Index x y a b k = rolled at (head_word (head.Pair pair.Index)) (two x y) (Expr-F.Index at (expr_in x) (expr_in y)) (refl, refl, (a.0, (b.0, tt))) k
pair-is at pair.Since x y a b k = rolled at (head_word (head.Pair pair.Since)) (two x y) (Expr-F.Since at (expr_in x) (expr_in y)) (refl, refl, (a.0, (b.0, tt))) k

-- ---- by the word and what stands behind it

abbrev ListHeld : ℕ → Head → Nodes → Type 0
ListHeld at h ps = Each ExprHeld ps → faults_of at (expr_items h ps) ps ≡ None → Lists at (head_word h) ps (roll-Expr (expr_form at h ps (exprs_in ps)))

drop-held : (at : ℕ) (ps : Nodes) → ListHeld at head.Drop ps
drop-held at no_node h e = absurd (cc)
drop-held at (more_node x no_node) h e = absurd (cc)
drop-held at (more_node x (more_node y (more_node z zs))) h e = absurd (cc)
drop-held at (more_node x (more_node y no_node)) h e =
    let q = or-parts (fault_in (number 0 4294967295) x) (or_else (fault_in name y) None) e in
    let n = number-held 0 4294967295 x (omega arith) q.0 in
    let m = name-held y (first-fine (fault_in name y) None q.1) in
    rolled at (head_word head.Drop) (two x y) (Expr-F.Drop at (number_in x) (name_in y)) (refl, refl, (n.0, (m.0, tt)))
    (and_from (nat_le (number_in x) 4294967295) (keeps_name (name_in y)) (and_parts (nat_le 0 (number_in x)) (nat_le (number_in x) 4294967295) n.1).1 m.1)

single-held : (at : ℕ) (s : SingleHead) (ps : Nodes) → ListHeld at (head.Single s) ps
single-held at s no_node h e = absurd (cc)
single-held at s (more_node x (more_node y ys)) h e = absurd (cc)
single-held at s (more_node x no_node) h e = single-is at s x (h.0 (first-fine (fault_in expression x) None e))

pair-held : (at : ℕ) (s : PairHead) (ps : Nodes) → ListHeld at (head.Pair s) ps
pair-held at s no_node h e = absurd (cc)
pair-held at s (more_node x no_node) h e = absurd (cc)
pair-held at s (more_node x (more_node y (more_node z zs))) h e = absurd (cc)
pair-held at s (more_node x (more_node y no_node)) h e =
    let q = or-parts (fault_in expression x) (or_else (fault_in expression y) None) e in
    let a = h.0 q.0 in
    let b = h.1.0 (first-fine (fault_in expression y) None q.1) in
    pair-is at s x y a b (and_from (keeps_expr (expr_in x)) (keeps_expr (expr_in y)) a.1 b.1)

if-held : (at : ℕ) (ps : Nodes) → ListHeld at head.If ps
if-held at no_node h e = absurd (cc)
if-held at (more_node x no_node) h e = absurd (cc)
if-held at (more_node x (more_node y no_node)) h e = absurd (cc)
if-held at (more_node x (more_node y (more_node z (more_node w ws)))) h e = absurd (cc)
if-held at (more_node x (more_node y (more_node z no_node))) h e =
    let q = or-parts (fault_in expression x) (or_else (fault_in expression y) (or_else (fault_in expression z) None)) e in
    let r = or-parts (fault_in expression y) (or_else (fault_in expression z) None) q.1 in
    let c = h.0 q.0 in
    let a = h.1.0 r.0 in
    let b = h.1.1.0 (first-fine (fault_in expression z) None r.1) in
    rolled at (head_word head.If) (more_node x (two y z)) (Expr-F.If at (expr_in x) (expr_in y) (expr_in z)) (refl, refl, (c.0, (a.0, (b.0, tt))))
    (and_from (both x y) (keeps_expr (expr_in z)) (and_from (keeps_expr (expr_in x)) (keeps_expr (expr_in y)) c.1 a.1) b.1)

cast-held : (at : ℕ) (ps : Nodes) → ListHeld at head.Cast ps
cast-held at no_node h e = absurd (cc)
cast-held at (more_node x no_node) h e = absurd (cc)
cast-held at (more_node x (more_node y (more_node z zs))) h e = absurd (cc)
cast-held at (more_node x (more_node y no_node)) h e =
    let q = or-parts (fault_in ty x) (or_else (fault_in expression y) None) e in
    let t = type-held x q.0 in
    let a = h.1.0 (first-fine (fault_in expression y) None q.1) in
    rolled at (head_word head.Cast) (two x y) (Expr-F.Cast at (type_in x) (expr_in y)) (refl, refl, (t.0, (a.0, tt))) (and_from (keeps_type (type_in x)) (keeps_expr (expr_in y)) t.1 a.1)

field-held : (at : ℕ) (ps : Nodes) → ListHeld at head.Field ps
field-held at no_node h e = absurd (cc)
field-held at (more_node x no_node) h e = absurd (cc)
field-held at (more_node x (more_node y (more_node z zs))) h e = absurd (cc)
field-held at (more_node x (more_node y no_node)) h e =
    let q = or-parts (fault_in expression x) (or_else (fault_in name y) None) e in
    let a = h.0 q.0 in
    let m = name-held y (first-fine (fault_in name y) None q.1) in
    rolled at (head_word head.Field) (two x y) (Expr-F.Field at (expr_in x) (name_in y)) (refl, refl, (a.0, (m.0, tt))) (and_from (keeps_expr (expr_in x)) (keeps_name (name_in y)) a.1 m.1)

-- so many items, and each of them held
items-held : (at low high : ℕ) (ps : Nodes) → Each ExprHeld ps → or_else (unless (nat_le low (count ps) && nat_le (count ps) high) (bad_form at)) (fault_among [] expression ps) ≡ None
    → AllHold form_of_expr keeps_expr ps (exprs_in ps) × (kept_from low high (map keeps_expr (exprs_in ps)) ≡ true)
items-held at low high ps h e =
    subst (λ (es : List Expr). AllHold form_of_expr keeps_expr ps es × (kept_from low high (map keeps_expr es) ≡ true)) (sym (exprs-each ps)) (several at low high expression form_of_expr keeps_expr expr_in ps h e)

array-held : (at : ℕ) (ps : Nodes) → ListHeld at head.Array ps
array-held at ps h e =
    let s = items-held at 1 1024 ps h e in
    rolled at (head_word head.Array) ps (Expr-F.Array at (exprs_in ps)) (refl, refl, s.0.0) s.1

record-held : (at : ℕ) (ps : Nodes) → ListHeld at head.Record ps
record-held at no_node h e = absurd (cc)
record-held at (more_node x ps) h e =
    let q = or-parts (unless (nat_le 1 (count ps) && true) (bad_form at)) (or_else (fault_in name x) (fault_among [] expression ps)) e in
    let r = or-parts (fault_in name x) (fault_among [] expression ps) q.1 in
    let n = name-held x r.0 in
    let items = exprs-among ps h.1 r.1 in
    rolled at (head_word head.Record) (more_node x ps) (Expr-F.Record at (name_in x) (exprs_in ps)) (refl, refl, (n.0, items.0))
    (and_from (keeps_name (name_in x)) (nat_le 1 (length (map keeps_expr (exprs_in ps))) && all_kept (map keeps_expr (exprs_in ps))) n.1
    (kept_some ps (map keeps_expr (exprs_in ps)) (unless-none (nat_le 1 (count ps) && true) (bad_form at) q.0) items.1 items.2))

-- ---- two bounds

record BoundsHold (x y : Node) : Type 0 where
  low : Matches (number_form (number_in x)) x
  high : Matches (number_form (number_in y)) y
  kept : between (number_in x) 128 (number_in y) ≡ true

bounds-held : (x y : Node) → fault_in decimal_place x ≡ None → fault_in (number (number_in x) 128) y ≡ None → BoundsHold x y
bounds-held x y e f =
    let n = number-held (number_in x) 128 y (omega arith) f in
    let p = and_parts (nat_le (number_in x) (number_in y)) (nat_le (number_in y) 128) n.1 in
    let a : number_in x ≤ number_in y = grind (arith, nat_tests, p.0) in
    let b : number_in y ≤ 128 = grind (arith, nat_tests, p.1) in
    record { low = decimal-held x (omega (arith, a, b)) e; high = n.0; kept = n.1 }

bounded-is : (at : ℕ) (h : BoundedHead) (x y z : Node) → BoundsHold x y → HoldsExpr z (expr_in z) → (between (number_in x) 128 (number_in y) && keeps_expr (expr_in z)) ≡ true
    → Lists at (head_word (head.Bounded h)) (more_node x (two y z)) (roll-Expr (bounded_form at h (number_in x) (number_in y) (expr_in z)))
bounded-is at bounded.Once x y z b a k = rolled at (head_word (head.Bounded bounded.Once)) (more_node x (two y z)) (Expr-F.OnceIn at (number_in x) (number_in y) (expr_in z)) (refl, refl, (b.low, (b.high, (a.0, tt)))) k
bounded-is at bounded.Historically x y z b a k = rolled at (head_word (head.Bounded bounded.Historically)) (more_node x (two y z)) (Expr-F.HistoricallyIn at (number_in x) (number_in y) (expr_in z)) (refl, refl, (b.low, (b.high, (a.0, tt)))) k

bounded-held : (at : ℕ) (s : BoundedHead) (ps : Nodes) → ListHeld at (head.Bounded s) ps
bounded-held at s no_node h e = absurd (cc)
bounded-held at s (more_node x no_node) h e = absurd (cc)
bounded-held at s (more_node x (more_node y no_node)) h e = absurd (cc)
bounded-held at s (more_node x (more_node y (more_node z (more_node w ws)))) h e = absurd (cc)
bounded-held at s (more_node x (more_node y (more_node z no_node))) h e =
    let q = or-parts (fault_in decimal_place x) (or_else (fault_in (number (number_in x) 128) y) (or_else (fault_in expression z) None)) e in
    let r = or-parts (fault_in (number (number_in x) 128) y) (or_else (fault_in expression z) None) q.1 in
    let b = bounds-held x y q.0 r.0 in
    let a = h.1.1.0 (first-fine (fault_in expression z) None r.1) in
    bounded-is at s x y z b a (and_from (between (number_in x) 128 (number_in y)) (keeps_expr (expr_in z)) b.kept a.1)

since-held : (at : ℕ) (ps : Nodes) → ListHeld at head.SinceIn ps
since-held at no_node h e = absurd (cc)
since-held at (more_node x no_node) h e = absurd (cc)
since-held at (more_node x (more_node y no_node)) h e = absurd (cc)
since-held at (more_node x (more_node y (more_node z no_node))) h e = absurd (cc)
since-held at (more_node x (more_node y (more_node z (more_node w (more_node v vs))))) h e = absurd (cc)
since-held at (more_node x (more_node y (more_node z (more_node w no_node)))) h e =
    let q = or-parts (fault_in decimal_place x) (or_else (fault_in (number (number_in x) 128) y) (or_else (fault_in expression z) (or_else (fault_in expression w) None))) e in
    let r = or-parts (fault_in (number (number_in x) 128) y) (or_else (fault_in expression z) (or_else (fault_in expression w) None)) q.1 in
    let s = or-parts (fault_in expression z) (or_else (fault_in expression w) None) r.1 in
    let b = bounds-held x y q.0 r.0 in
    let a = h.1.1.0 s.0 in
    let c = h.1.1.1.0 (first-fine (fault_in expression w) None s.1) in
    rolled at (head_word head.SinceIn) (more_node x (more_node y (two z w))) (Expr-F.SinceIn at (number_in x) (number_in y) (expr_in z) (expr_in w)) (refl, refl, (b.low, (b.high, (a.0, (c.0, tt)))))
    (and_from (between (number_in x) 128 (number_in y) && keeps_expr (expr_in z)) (keeps_expr (expr_in w)) (and_from (between (number_in x) 128 (number_in y)) (keeps_expr (expr_in z)) b.kept a.1) c.1)

-- ---- clocks, votes and windows

clock-kept : (n m : ℕ) → between 1 4294967295 n ≡ true → between 0 (n - 1) m ≡ true → (nat_lt m n && nat_lt n (2 ^ 32)) ≡ true
clock-kept n m h k =
    let p = and_parts (nat_le 1 n) (nat_le n 4294967295) h in
    let a : 1 ≤ n = grind (arith, nat_tests, p.0) in
    let b : n ≤ 4294967295 = grind (arith, nat_tests, p.1) in
    let c : m ≤ n - 1 = grind (arith, nat_tests, (and_parts (nat_le 0 m) (nat_le m (n - 1)) k).1) in
    let low : m < n = omega (arith, a, c) in
    let high : n < 2 ^ 32 = omega (arith, b) in
    and_from (nat_lt m n) (nat_lt n (2 ^ 32)) (grind (arith, nat_tests, low)) (grind (arith, nat_tests, high))

clock-held : (at : ℕ) (ps : Nodes) → ListHeld at head.Clock ps
clock-held at no_node h e = absurd (cc)
clock-held at (more_node x no_node) h e = absurd (cc)
clock-held at (more_node x (more_node y (more_node z zs))) h e = absurd (cc)
clock-held at (more_node x (more_node y no_node)) h e =
    let q = or-parts (fault_in (number 1 4294967295) x) (or_else (fault_in (number 0 (number_in x - 1)) y) None) e in
    let n = number-held 1 4294967295 x (omega arith) q.0 in
    let top : number_in x ≤ 4294967295 = grind (arith, nat_tests, (and_parts (nat_le 1 (number_in x)) (nat_le (number_in x) 4294967295) n.1).1) in
    let m = number-held 0 (number_in x - 1) y (omega (arith, top)) (first-fine (fault_in (number 0 (number_in x - 1)) y) None q.1) in
    rolled at (head_word head.Clock) (two x y) (Expr-F.Clock at (number_in x) (number_in y)) (refl, refl, (n.0, (m.0, tt))) (clock-kept (number_in x) (number_in y) n.1 m.1)

vote-held : (at : ℕ) (s : VoteHead) (ps : Nodes) → ListHeld at (head.Vote s) ps
vote-held at vote.Majority ps h e =
    let s = items-held at 1 9 ps h e in
    rolled at (head_word (head.Vote vote.Majority)) ps (Expr-F.Majority at (exprs_in ps)) (refl, refl, s.0.0) s.1
vote-held at vote.Agreed ps h e =
    let s = items-held at 1 9 ps h e in
    rolled at (head_word (head.Vote vote.Agreed)) ps (Expr-F.Agreed at (exprs_in ps)) (refl, refl, s.0.0) s.1

window-is : (at : ℕ) (h : WindowHead) (x y : Node) → Matches (number_form (number_in x)) x → HoldsExpr y (expr_in y) → (between 1 12 (number_in x) && keeps_expr (expr_in y)) ≡ true
    → Lists at (head_word (head.Window h)) (two x y) (roll-Expr (window_form at h (number_in x) (expr_in y)))
window-is at window.Max x y n a k = rolled at (head_word (head.Window window.Max)) (two x y) (Expr-F.WindowMax at (number_in x) (expr_in y)) (refl, refl, (n, (a.0, tt))) k
window-is at window.Min x y n a k = rolled at (head_word (head.Window window.Min)) (two x y) (Expr-F.WindowMin at (number_in x) (expr_in y)) (refl, refl, (n, (a.0, tt))) k
window-is at window.Sum x y n a k = rolled at (head_word (head.Window window.Sum)) (two x y) (Expr-F.WindowSum at (number_in x) (expr_in y)) (refl, refl, (n, (a.0, tt))) k

window-held : (at : ℕ) (s : WindowHead) (ps : Nodes) → ListHeld at (head.Window s) ps
window-held at s no_node h e = absurd (cc)
window-held at s (more_node x no_node) h e = absurd (cc)
window-held at s (more_node x (more_node y (more_node z zs))) h e = absurd (cc)
window-held at s (more_node x (more_node y no_node)) h e =
    let q = or-parts (fault_in (number 1 12) x) (or_else (fault_in expression y) None) e in
    let n = number-held 1 12 x (omega arith) q.0 in
    let a = h.1.0 (first-fine (fault_in expression y) None q.1) in
    window-is at s x y n.0 a (and_from (between 1 12 (number_in x)) (keeps_expr (expr_in y)) n.1 a.1)

by-head : (at : ℕ) (h : Head) (ps : Nodes) → ListHeld at h ps
by-head at head.Drop ps = drop-held at ps
by-head at (head.Single s) ps = single-held at s ps
by-head at (head.Pair s) ps = pair-held at s ps
by-head at head.If ps = if-held at ps
by-head at head.Cast ps = cast-held at ps
by-head at head.Field ps = field-held at ps
by-head at head.Array ps = array-held at ps
by-head at head.Record ps = record-held at ps
by-head at (head.Bounded s) ps = bounded-held at s ps
by-head at head.SinceIn ps = since-held at ps
by-head at head.Clock ps = clock-held at ps
by-head at (head.Vote s) ps = vote-held at s ps
by-head at (head.Window s) ps = window-held at s ps

-- ---- lists

at-expr : (at p : ℕ) (text : List ℕ) (ps : Nodes) (all : Items) → headed_items expression text ps ≡ Some all → fault_in expression (list at (more_node (atom p text) ps)) ≡ faults_of at all ps
at-expr at p text ps all e = rw e refl

no-expr : (at p : ℕ) (text : List ℕ) (ps : Nodes) → headed_items expression text ps ≡ None → fault_in expression (list at (more_node (atom p text) ps)) ≡ Some (bad_form at)
no-expr at p text ps e = rw e refl

expr-headed : (at p : ℕ) (text : List ℕ) (ps : Nodes) (o : Option Head) → Each ExprHeld ps → head_of text ≡ o → fault_in expression (list at (more_node (atom p text) ps)) ≡ None
    → HoldsExpr (list at (more_node (atom p text) ps)) (expr_list at o ps (exprs_in ps))
expr-headed at p text ps None h is e = absurd (let no : Some (bad_form at) ≡ None = sym (no-expr at p text ps (rw is refl)) ∙ e in cc)
expr-headed at p text ps (Some s) h is e =
    let fine : faults_of at (expr_items s ps) ps ≡ None = sym (at-expr at p text ps (expr_items s ps) (rw is refl)) ∙ e in
    let made = holds_list form_of_expr keeps_expr at p (head_word s) ps (roll-Expr (expr_form at s ps (exprs_in ps))) (by-head at s ps h fine) in
    subst (λ (t : List ℕ). HoldsExpr (list at (more_node (atom p t) ps)) (expr_list at (Some s) ps (exprs_in ps))) (sym (found_head text s is)) made

expr-list : (at : ℕ) (xs : Nodes) → Each ExprHeld xs → ExprHeld (list at xs)
expr-list at no_node h e = absurd (cc)
expr-list at (more_node (list p ys) ps) h e = absurd (cc)
expr-list at (more_node (atom p text) ps) h e = expr-headed at p text ps (head_of text) h.1 refl e

mutual
  pub expr-held : (x : Node) → ExprHeld x
  expr-held (atom at text) = λ e. expr-atom at text (literal_of text) refl e
  expr-held (list at xs) = expr-list at xs (exprs-held xs)

  exprs-held : (xs : Nodes) → Each ExprHeld xs
  exprs-held no_node = tt
  exprs-held (more_node x xs) = (expr-held x, exprs-held xs)
