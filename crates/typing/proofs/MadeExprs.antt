-- Expressions make no more arrays than they have lists.
use Rattle.std.proofs.Common.{◌≡◌, ◌≤◌, ◌+◌, ℕ, Bool, true, false, List, [], ◌∷◌, map, refl, sym, subst, arith}
use Rattle.std.specs.Prelude.{if◌then◌else◌, is_some, Option, Some, None}
use Rattle.spec_text.specs.declared.surface.NameAt.{NameAt}
use Rattle.spec_text.specs.declared.surface.TypeForm.{TypeForm}
use Rattle.spec_text.specs.declared.surface.Expr.{Expr, map-Expr, roll-Expr}
use Rattle.spec_text.specs.declared.surface.Expr.TheOpen.{Expr-F}
use Rattle.spec_text.specs.declared.surface.Expr.TheFolds.{fold-roll-Expr, ind-Expr}
use Rattle.spec_text.specs.Form.{Form, forms, form_of_type, form_of_expr}
use Rattle.spec_text.specs.Form.{expr_step as expr_form_step}
use Rattle.spec_text.specs.Extent.{list_count, list_counts}
use Rattle.type_check.specs.declared.fault.TypeFault.TheVariants.{Unknown, TypeClash}
use Rattle.type_check.specs.NamedType.{NamedType, scalar, struct, array, bool, Declarations, Struct, struct_in}
use Rattle.type_check.specs.Judged.{has, lacks, Judged, judged, truths, integer, expr_step, judge_form, judge_expr, type_of, types_of, Scope, elsewhere}
use Rattle.type_check.specs.Judged.{Named, named_in, declared, over_name, on_drop, over_drop, member_in, member_of, before_struct, over_member, over_field}
use Rattle.type_check.specs.Judged.{over_part, on_one, on_two, on_shift, on_cast, on_items, on_index, on_record, on_truths, on_choice, on_integer, on_votes}
use Rattle.typing.proofs.MadeNodes.{Kept, IsMade, AreMade, no_parts, more_parts, node_made, array_made, leaf_made, over_one, over_two, over_three}
use Rattle.typing.proofs.MadeNodes.{made_within, one_fits, two_fits, shift_is_fit, cast_is_fit, index_fits, record_fits, drop_fits, truths_fit, choice_fits}
use Rattle.typing.proofs.MadeNodes.{integer_fits, votes_fit, items_new}
use Rattle.typing.proofs.MadeForms.{form_made}

-- the arrays of a text's names and members are known
pub record IsKnownText (known : List NamedType) (all : Declarations) : Type 0 where
  pub names_are : (x : List ℕ) (n : Named) → named_in all x ≡ Some n → IsMade known (declared n) 0
  pub members_are : (x y : List ℕ) (s : Struct) (ty : TypeForm) → struct_in all x ≡ Some s → member_in s.fields y ≡ Some ty
      → IsMade known (elsewhere s.before ty) 0

-- ---- names

name_made : (known : List NamedType) (x : NameAt) (o : Option Named) → ((n : Named) → o ≡ Some n → IsMade known (declared n) 0)
    → IsMade known (over_name x o) 0
name_made known x None f = leaf_made known (lacks (Unknown x.at)) 0 (λ us. tt)
name_made known x (Some n) f = over_one known (declared n) (has (type_of (declared n))) 0 0 (f n refl) (λ us h. h) (omega arith)

drop_made : (known : List NamedType) (at k : ℕ) (x : NameAt) (o : Option Named) → ((n : Named) → o ≡ Some n → IsMade known (declared n) 0)
    → IsMade known (over_drop at k x o) 0
drop_made known at k x None f = leaf_made known (lacks (Unknown x.at)) 0 (λ us. tt)
drop_made known at k x (Some n) f =
    over_one known (declared n) (on_drop at k n (type_of (declared n))) 0 0 (f n refl) (λ us h. drop_fits us at k n (type_of (declared n)) h) (omega arith)

-- ---- members

member_made : (known : List NamedType) (a : Judged) (m : ℕ) (before : Declarations) (x : NameAt) (o : Option TypeForm) → IsMade known a m
    → ((ty : TypeForm) → o ≡ Some ty → IsMade known (elsewhere before ty) 0) → IsMade known (over_member a before x o) m
member_made known a m before x None h f = over_one known a (lacks (Unknown x.at)) m m h (λ us q. tt) (omega arith)
member_made known a m before x (Some ty) h f =
    over_two known a (elsewhere before ty) (has (type_of (elsewhere before ty))) m 0 m h (f ty refl) (λ us p q. q) (omega arith)

one_member : (known : List NamedType) (x : List ℕ) (o : Option Struct)
    → ((s : Struct) (ty : TypeForm) → o ≡ Some s → member_in s.fields x ≡ Some ty → IsMade known (elsewhere s.before ty) 0) → (ty : TypeForm)
    → member_of o x ≡ Some ty → IsMade known (elsewhere (before_struct o) ty) 0
one_member known x None f ty e = absurd (cc)
one_member known x (Some s) f ty e = f s ty refl e

field_made : (known : List NamedType) (all : Declarations) → IsKnownText known all → (at : ℕ) (a : Judged) (m : ℕ) (x : NameAt) (t : NamedType)
    → IsMade known a m → IsMade known (over_field all at a x t) m
field_made known all g at a m x (scalar s) h = over_one known a (lacks (TypeClash at)) m m h (λ us q. tt) (omega arith)
field_made known all g at a m x (struct name) h =
    member_made known a m (before_struct (struct_in all name)) x (member_of (struct_in all name) x.name) h
    (one_member known x.name (struct_in all name) (λ s ty p q. g.members_are name x.name s ty p q))
field_made known all g at a m x (array t n) h = over_one known a (lacks (TypeClash at)) m m h (λ us q. tt) (omega arith)

part_if : (known : List NamedType) (all : Declarations) → IsKnownText known all → (at : ℕ) (a : Judged) (m : ℕ) (x : NameAt) (b : Bool) → IsMade known a m
    → IsMade known (if b then over_field all at a x (type_of a) else a) m
part_if known all g at a m x true h = field_made known all g at a m x (type_of a) h
part_if known all g at a m x false h = h

-- ---- expressions

abbrev ExprMade : List NamedType → Scope → Expr → Type 0
ExprMade known scope e = IsMade known (judge_expr scope e) (list_count (form_of_expr e))

abbrev KnownExpr : List NamedType → Scope → Type 0
KnownExpr known scope = (e : Expr) × ExprMade known scope e

abbrev expr_of : (known : List NamedType) (scope : Scope) → KnownExpr known scope → Expr
expr_of known scope e = e.0

each-expr : (known : List NamedType) (scope : Scope) (items : List (KnownExpr known scope)) → let es = map (expr_of known scope) items in
    AreMade known (map (judge_expr scope) es) (list_counts (forms (map form_of_expr es)))
each-expr known scope [] = no_parts known
each-expr known scope (e ∷ items) =
    let es = map (expr_of known scope) items in
    more_parts known (judge_expr scope e.0) (map (judge_expr scope) es) (list_count (form_of_expr e.0)) (list_counts (forms (map form_of_expr es))) e.1
    (each-expr known scope items)

-- ---- one or two parts

truth_one : (known : List NamedType) (at : ℕ) (a : Judged) (m k : ℕ) → IsMade known a m → m ≤ k → IsMade known (truths at (a ∷ [])) k
truth_one known at a m k h l = over_one known a (on_truths at (types_of (a ∷ []))) m k h (λ us q. truths_fit us at (types_of (a ∷ []))) l

truth_two : (known : List NamedType) (at : ℕ) (a b : Judged) (m n k : ℕ) → IsMade known a m → IsMade known b n → m + n ≤ k
    → IsMade known (truths at (a ∷ b ∷ [])) k
truth_two known at a b m n k h g l =
    over_two known a b (on_truths at (types_of (a ∷ b ∷ []))) m n k h g (λ us p q. truths_fit us at (types_of (a ∷ b ∷ []))) l

integer_one : (known : List NamedType) (at : ℕ) (a : Judged) (m k : ℕ) → IsMade known a m → m ≤ k → IsMade known (integer at a) k
integer_one known at a m k h l = over_one known a (on_integer at (type_of a)) m k h (λ us q. integer_fits us at (type_of a) q) l

abbrev node_of : (scope : Scope) → Expr → Judged
node_of scope e = judge_expr scope e

abbrev lists_of : Expr → ℕ
lists_of e = list_count (form_of_expr e)

expr-step : (known : List NamedType) (scope : Scope) → IsKnownText known scope.all → (y : Expr-F (KnownExpr known scope))
    → let x = map-Expr (KnownExpr known scope) Expr (λ e. e.0) y in
    IsMade known (expr_step scope (map-Expr Expr Judged (judge_expr scope) x)) (list_count (expr_form_step (map-Expr Expr Form form_of_expr x)))
expr-step known scope g (Expr-F.Lit at s w) = leaf_made known (has (scalar s)) 0 (λ us. tt)
expr-step known scope g (Expr-F.Name x) = name_made known x (named_in scope.all x.name) (λ n e. g.names_are x.name n e)
expr-step known scope g (Expr-F.Drop at k x) =
    made_within known _ 0 _ (omega arith) (drop_made known at k x (named_in scope.all x.name) (λ n e. g.names_are x.name n e))
expr-step known scope g (Expr-F.Un at op a) =
    over_one known (node_of scope a.0) (on_one at op (type_of (node_of scope a.0))) (lists_of a.0) _ a.1
    (λ us q. one_fits us at op (type_of (node_of scope a.0))) (omega arith)
expr-step known scope g (Expr-F.Bin at op a b) =
    over_two known (node_of scope a.0) (node_of scope b.0) (on_two at op (type_of (node_of scope a.0)) (type_of (node_of scope b.0))) (lists_of a.0)
    (lists_of b.0) _ a.1 b.1 (λ us p q. two_fits us at op (type_of (node_of scope a.0)) (type_of (node_of scope b.0))) (omega arith)
expr-step known scope g (Expr-F.Shift at dir a count) =
    over_two known (node_of scope a.0) (node_of scope count.0) (on_shift at (type_of (node_of scope a.0)) (type_of (node_of scope count.0))) (lists_of a.0)
    (lists_of count.0) _ a.1 count.1 (λ us p q. shift_is_fit us at (type_of (node_of scope a.0)) (type_of (node_of scope count.0))) (omega arith)
expr-step known scope g (Expr-F.And at a b) =
    truth_two known at (node_of scope a.0) (node_of scope b.0) (lists_of a.0) (lists_of b.0) _ a.1 b.1 (omega arith)
expr-step known scope g (Expr-F.Or at a b) =
    truth_two known at (node_of scope a.0) (node_of scope b.0) (lists_of a.0) (lists_of b.0) _ a.1 b.1 (omega arith)
expr-step known scope g (Expr-F.Implies at a b) =
    truth_two known at (node_of scope a.0) (node_of scope b.0) (lists_of a.0) (lists_of b.0) _ a.1 b.1 (omega arith)
expr-step known scope g (Expr-F.If at c a b) =
    over_three known (node_of scope c.0) (node_of scope a.0) (node_of scope b.0)
    (on_choice at (type_of (node_of scope c.0)) (type_of (node_of scope a.0)) (type_of (node_of scope b.0))) (lists_of c.0) (lists_of a.0) (lists_of b.0) _
    c.1 a.1 b.1 (λ us q. choice_fits us at (type_of (node_of scope c.0)) (type_of (node_of scope a.0)) (type_of (node_of scope b.0)) q) (omega arith)
expr-step known scope g (Expr-F.Cast at to a) =
    over_two known (judge_form scope.before to) (node_of scope a.0) (on_cast at (type_of (judge_form scope.before to)) (type_of (node_of scope a.0)))
    (list_count (form_of_type to)) (lists_of a.0) _
    (form_made known scope.before to) a.1 (λ us p q. cast_is_fit us at (type_of (judge_form scope.before to)) (type_of (node_of scope a.0))) (omega arith)
expr-step known scope g (Expr-F.Abs at a) = integer_one known at (node_of scope a.0) (lists_of a.0) _ a.1 (omega arith)
expr-step known scope g (Expr-F.Sign at a) = integer_one known at (node_of scope a.0) (lists_of a.0) _ a.1 (omega arith)
expr-step known scope g (Expr-F.Index at a i) =
    over_two known (node_of scope a.0) (node_of scope i.0) (on_index at (type_of (node_of scope a.0)) (type_of (node_of scope i.0))) (lists_of a.0)
    (lists_of i.0) _ a.1 i.1 (λ us p q. index_fits us at (type_of (node_of scope a.0)) (type_of (node_of scope i.0)) p) (omega arith)
expr-step known scope g (Expr-F.Field at a x) =
    made_within known _ (lists_of a.0) _ (omega arith)
    (part_if known scope.all g at (node_of scope a.0) (lists_of a.0) x (is_some (node_of scope a.0).ty) a.1)
expr-step known scope g (Expr-F.Array at items) =
    let es = map (expr_of known scope) items in
    array_made known (map (judge_expr scope) es) (on_items scope.all at (types_of (map (judge_expr scope) es)))
    (list_counts (forms (map form_of_expr es))) _ (each-expr known scope items)
    (items_new scope.all at (types_of (map (judge_expr scope) es))) (omega arith)
expr-step known scope g (Expr-F.Record at x items) =
    let es = map (expr_of known scope) items in
    node_made known (map (judge_expr scope) es) (on_record (struct_in scope.before x.name) at x (types_of (map (judge_expr scope) es)))
    (list_counts (forms (map form_of_expr es))) _ (each-expr known scope items)
    (λ us h. record_fits us (struct_in scope.before x.name) at x (types_of (map (judge_expr scope) es))) (omega arith)
expr-step known scope g (Expr-F.Once at p) = truth_one known at (node_of scope p.0) (lists_of p.0) _ p.1 (omega arith)
expr-step known scope g (Expr-F.Historically at p) = truth_one known at (node_of scope p.0) (lists_of p.0) _ p.1 (omega arith)
expr-step known scope g (Expr-F.Yesterday at p) = truth_one known at (node_of scope p.0) (lists_of p.0) _ p.1 (omega arith)
expr-step known scope g (Expr-F.WeaklyYesterday at p) = truth_one known at (node_of scope p.0) (lists_of p.0) _ p.1 (omega arith)
expr-step known scope g (Expr-F.Since at p q) =
    truth_two known at (node_of scope p.0) (node_of scope q.0) (lists_of p.0) (lists_of q.0) _ p.1 q.1 (omega arith)
expr-step known scope g (Expr-F.OnceIn at low high p) = truth_one known at (node_of scope p.0) (lists_of p.0) _ p.1 (omega arith)
expr-step known scope g (Expr-F.HistoricallyIn at low high p) = truth_one known at (node_of scope p.0) (lists_of p.0) _ p.1 (omega arith)
expr-step known scope g (Expr-F.SinceIn at low high p q) =
    truth_two known at (node_of scope p.0) (node_of scope q.0) (lists_of p.0) (lists_of q.0) _ p.1 q.1 (omega arith)
expr-step known scope g (Expr-F.Clock at period phase) = leaf_made known (has bool) _ (λ us. tt)
expr-step known scope g (Expr-F.Majority at items) =
    let es = map (expr_of known scope) items in
    node_made known (map (judge_expr scope) es) (on_votes at (λ (t : NamedType). t) (types_of (map (judge_expr scope) es)))
    (list_counts (forms (map form_of_expr es))) _ (each-expr known scope items)
    (λ us h. votes_fit us at (λ (t : NamedType). t) (types_of (map (judge_expr scope) es)) (λ t q. q) h) (omega arith)
expr-step known scope g (Expr-F.Agreed at items) =
    let es = map (expr_of known scope) items in
    node_made known (map (judge_expr scope) es) (on_votes at (λ (t : NamedType). bool) (types_of (map (judge_expr scope) es)))
    (list_counts (forms (map form_of_expr es))) _ (each-expr known scope items)
    (λ us h. votes_fit us at (λ (t : NamedType). bool) (types_of (map (judge_expr scope) es)) (λ t q. tt) h) (omega arith)
expr-step known scope g (Expr-F.WindowMax at n e) = integer_one known at (node_of scope e.0) (lists_of e.0) _ e.1 (omega arith)
expr-step known scope g (Expr-F.WindowMin at n e) = integer_one known at (node_of scope e.0) (lists_of e.0) _ e.1 (omega arith)
expr-step known scope g (Expr-F.WindowSum at n e) = integer_one known at (node_of scope e.0) (lists_of e.0) _ e.1 (omega arith)

expr-rolled : (known : List NamedType) (scope : Scope) (x : Expr-F Expr)
    → IsMade known (expr_step scope (map-Expr Expr Judged (judge_expr scope) x)) (list_count (expr_form_step (map-Expr Expr Form form_of_expr x)))
    → ExprMade known scope (roll-Expr x)
unfolding judge_expr form_of_expr
expr-rolled known scope x f =
    subst (λ (j : Judged). IsMade known j (list_count (form_of_expr (roll-Expr x)))) (sym (fold-roll-Expr Judged (expr_step scope) x))
    (subst (λ (g : Form). IsMade known (expr_step scope (map-Expr Expr Judged (judge_expr scope) x)) (list_count g))
    (sym (fold-roll-Expr Form expr_form_step x)) f)

pub expr_made : (known : List NamedType) (scope : Scope) → IsKnownText known scope.all → (e : Expr)
    → IsMade known (judge_expr scope e) (list_count (form_of_expr e))
expr_made known scope g =
    ind-Expr (ExprMade known scope)
    (λ x y is. subst (λ z. ExprMade known scope (roll-Expr z)) is (expr-rolled known scope (map-Expr _ Expr (λ e. e.0) y) (expr-step known scope g y)))
