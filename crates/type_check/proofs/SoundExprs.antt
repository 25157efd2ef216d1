-- Expressions are sound nodes.
use Rattle.std.proofs.Common.{◌≡◌, ◌≤◌, ◌+◌, ℕ, Bool, true, false, nat_le, List, [], ◌∷◌, map, length, refl, sym, ap, ◌∙◌, subst, arith}
use Rattle.std.specs.Prelude.{◌&&◌, if◌then◌else◌, is_some, Option, Some, None}
use Rattle.spec_text.specs.declared.surface.NameAt.{NameAt}
use Rattle.spec_text.specs.declared.surface.TypeForm.{TypeForm}
use Rattle.spec_text.specs.declared.surface.Expr.{Expr, map-Expr, roll-Expr}
use Rattle.spec_text.specs.declared.surface.Expr.TheOpen.{Expr-F}
use Rattle.spec_text.specs.declared.surface.Expr.TheFolds.{fold-roll-Expr, ind-Expr}
use Rattle.spec_text.specs.Form.{Form, forms, form_of_type, form_of_expr}
use Rattle.spec_text.specs.Form.{expr_step as expr_form_step}
use Rattle.spec_text.specs.Extent.{item_count, item_counts}
use Rattle.spec_text.specs.KeepsTable.{between, all_kept, keeps_name, keeps_type, keeps_expr, keeps_expr_step}
use Rattle.type_check.specs.declared.fault.TypeFault.TheVariants.{Unknown, TypeClash}
use Rattle.type_check.specs.NamedType.{NamedType, scalar, struct, array, bool, Declarations, Struct, struct_in}
use Rattle.type_check.specs.Judged.{has, lacks, Judged, judged, truths, integer, expr_step, judge_form, judge_expr, type_of, types_of, Scope, elsewhere, Named, named_in, declared, over_name, on_drop, over_drop, member_in, member_of, before_struct, over_member, over_field, over_part, on_one, on_two, on_shift, on_cast, on_items, on_index, on_record, on_truths, on_choice, on_integer, on_votes}
use Rattle.type_check.proofs.SameNames.{left_true, right_true}
use Rattle.type_check.proofs.SoundTypes.{Sound, IsBehind, one_fits, two_fits, shift_is_fit, cast_is_fit, items_fit, index_fits, record_fits, drop_fits, truths_fit, choice_fits, integer_fits, votes_fit}
use Rattle.type_check.proofs.SoundNodes.{IsSound, AreSound, no_parts, more_parts, node_sound, leaf_sound, over_one, over_two, over_three, sound_behind, sound_within}
use Rattle.type_check.proofs.SoundForms.{between_high, as_many, form_sound}

-- what a text's names and members stand for
pub record IsSoundText (all : Declarations) : Type 0 where
  pub names_are : (x : List ℕ) (n : Named) → named_in all x ≡ Some n → IsSound all (declared n) 0
  pub members_are : (x y : List ℕ) (s : Struct) (ty : TypeForm) → struct_in all x ≡ Some s → member_in s.fields y ≡ Some ty → IsSound all (elsewhere s.before ty) 0

pub record IsSoundScope (scope : Scope) : Type 0 where
  pub behind : IsBehind scope.before scope.all
  pub text : IsSoundText scope.all

-- ---- names

name_sound : (all : Declarations) (x : NameAt) (o : Option Named) → ((n : Named) → o ≡ Some n → IsSound all (declared n) 0) → IsSound all (over_name x o) 1
name_sound all x None f = leaf_sound all (lacks (Unknown x.at)) 1 tt (omega arith)
name_sound all x (Some n) f = over_one all (declared n) (has (type_of (declared n))) 0 1 (f n refl) (f n refl).ty_is (omega arith)

drop_sound : (all : Declarations) (at k : ℕ) (x : NameAt) (o : Option Named) → ((n : Named) → o ≡ Some n → IsSound all (declared n) 0) → IsSound all (over_drop at k x o) 1
drop_sound all at k x None f = leaf_sound all (lacks (Unknown x.at)) 1 tt (omega arith)
drop_sound all at k x (Some n) f = over_one all (declared n) (on_drop at k n (type_of (declared n))) 0 1 (f n refl) (drop_fits all at k n (type_of (declared n)) (f n refl).ty_is) (omega arith)

-- ---- members

member_sound : (all : Declarations) (a : Judged) (m k : ℕ) (before : Declarations) (x : NameAt) (o : Option TypeForm) → IsSound all a m → ((ty : TypeForm) → o ≡ Some ty → IsSound all (elsewhere before ty) 0) → m + 1 ≤ k → IsSound all (over_member a before x o) k
member_sound all a m k before x None h f e = over_one all a (lacks (Unknown x.at)) m k h tt e
member_sound all a m k before x (Some ty) h f e = over_two all a (elsewhere before ty) (has (type_of (elsewhere before ty))) m 0 k h (f ty refl) (f ty refl).ty_is (omega arith)

one_member : (all : Declarations) (x : List ℕ) (o : Option Struct) → ((s : Struct) (ty : TypeForm) → o ≡ Some s → member_in s.fields x ≡ Some ty → IsSound all (elsewhere s.before ty) 0) → (ty : TypeForm) → member_of o x ≡ Some ty → IsSound all (elsewhere (before_struct o) ty) 0
one_member all x None f ty e = absurd (cc)
one_member all x (Some s) f ty e = f s ty refl e

field_sound : (all : Declarations) → IsSoundText all → (at : ℕ) (a : Judged) (m k : ℕ) (x : NameAt) (t : NamedType) → IsSound all a m → m + 1 ≤ k → IsSound all (over_field all at a x t) k
field_sound all g at a m k x (scalar s) h e = over_one all a (lacks (TypeClash at)) m k h tt e
field_sound all g at a m k x (struct name) h e =
    member_sound all a m k (before_struct (struct_in all name)) x (member_of (struct_in all name) x.name) h (one_member all x.name (struct_in all name) (λ s ty p q. g.members_are name x.name s ty p q)) e
field_sound all g at a m k x (array t n) h e = over_one all a (lacks (TypeClash at)) m k h tt e

part_if : (all : Declarations) → IsSoundText all → (at : ℕ) (a : Judged) (m k : ℕ) (x : NameAt) (b : Bool) → IsSound all a m → m + 1 ≤ k → IsSound all (if b then over_field all at a x (type_of a) else a) k
part_if all g at a m k x true h e = field_sound all g at a m k x (type_of a) h e
part_if all g at a m k x false h e = sound_within all a m k (omega arith) h

part_sound : (all : Declarations) → IsSoundText all → (at : ℕ) (a : Judged) (m k : ℕ) (x : NameAt) → IsSound all a m → m + 1 ≤ k → IsSound all (over_part all at a x) k
part_sound all g at a m k x h e = part_if all g at a m k x (is_some a.ty) h e

-- ---- expressions

abbrev ExprSound : Scope → Expr → Type 0
ExprSound scope e = keeps_expr e ≡ true → IsSound scope.all (judge_expr scope e) (item_count (form_of_expr e))

abbrev KnownExpr : Scope → Type 0
KnownExpr scope = (e : Expr) × ExprSound scope e

abbrev expr_of : (scope : Scope) → KnownExpr scope → Expr
expr_of scope e = e.0

each-expr : (scope : Scope) (items : List (KnownExpr scope)) → let es = map (expr_of scope) items in
    all_kept (map keeps_expr es) ≡ true → AreSound scope.all (map (judge_expr scope) es) (item_counts (forms (map form_of_expr es)))
each-expr scope [] k = no_parts scope.all
each-expr scope (e ∷ items) k =
    let es = map (expr_of scope) items in
    more_parts scope.all (judge_expr scope e.0) (map (judge_expr scope) es) (item_count (form_of_expr e.0)) (item_counts (forms (map form_of_expr es)))
    (e.1 (left_true (keeps_expr e.0) (all_kept (map keeps_expr es)) k)) (each-expr scope items (right_true (keeps_expr e.0) (all_kept (map keeps_expr es)) k))

-- so many items, each of which is kept
abbrev are_kept : ℕ → ℕ → List Expr → Bool
are_kept low high es = between low high (length (map keeps_expr es)) && all_kept (map keeps_expr es)

array_sound : (scope : Scope) (at n : ℕ) (items : List (KnownExpr scope)) → let es = map (expr_of scope) items in
    are_kept 1 1024 es ≡ true → item_counts (forms (map form_of_expr es)) + 1 ≤ n → IsSound scope.all (expr_step scope (Expr-F.Array at (map (judge_expr scope) es))) n
array_sound scope at n items k l =
    let es = map (expr_of scope) items in
    let within = left_true (between 1 1024 (length (map keeps_expr es))) (all_kept (map keeps_expr es)) k in
    let parts = each-expr scope items (right_true (between 1 1024 (length (map keeps_expr es))) (all_kept (map keeps_expr es)) k) in
    node_sound scope.all (map (judge_expr scope) es) (on_items scope.all at (types_of (map (judge_expr scope) es))) (item_counts (forms (map form_of_expr es))) n parts
    (items_fit scope.all at (types_of (map (judge_expr scope) es)) parts.tys_are (subst (λ m. m ≤ 1024) (sym (as_many (judge_expr scope) keeps_expr es)) (between_high 1 1024 (length (map keeps_expr es)) within))) l

record_sound : (scope : Scope) → IsSoundScope scope → (at n : ℕ) (x : NameAt) (items : List (KnownExpr scope)) → let es = map (expr_of scope) items in
    (keeps_name x && (nat_le 1 (length (map keeps_expr es)) && all_kept (map keeps_expr es))) ≡ true → item_counts (forms (map form_of_expr es)) + 1 ≤ n → IsSound scope.all (expr_step scope (Expr-F.Record at x (map (judge_expr scope) es))) n
record_sound scope g at n x items k l =
    let es = map (expr_of scope) items in
    let kept = right_true (nat_le 1 (length (map keeps_expr es))) (all_kept (map keeps_expr es)) (right_true (keeps_name x) (nat_le 1 (length (map keeps_expr es)) && all_kept (map keeps_expr es)) k) in
    node_sound scope.all (map (judge_expr scope) es) (on_record (struct_in scope.before x.name) at x (types_of (map (judge_expr scope) es))) (item_counts (forms (map form_of_expr es))) n (each-expr scope items kept)
    (record_fits scope.all (struct_in scope.before x.name) at x (types_of (map (judge_expr scope) es)) (λ h. ap is_some (g.behind.alike x.name h).struct_is ∙ h)) l

votes_sound : (scope : Scope) (at n : ℕ) (gives : NamedType → NamedType) (items : List (KnownExpr scope)) → let es = map (expr_of scope) items in
    are_kept 1 9 es ≡ true → ((t : NamedType) → Sound scope.all t → Sound scope.all (gives t)) → item_counts (forms (map form_of_expr es)) + 1 ≤ n
    → IsSound scope.all (judged (map (judge_expr scope) es) (on_votes at gives (types_of (map (judge_expr scope) es)))) n
votes_sound scope at n gives items k f l =
    let es = map (expr_of scope) items in
    let parts = each-expr scope items (right_true (between 1 9 (length (map keeps_expr es))) (all_kept (map keeps_expr es)) k) in
    node_sound scope.all (map (judge_expr scope) es) (on_votes at gives (types_of (map (judge_expr scope) es))) (item_counts (forms (map form_of_expr es))) n parts
    (votes_fit scope.all at gives (types_of (map (judge_expr scope) es)) f parts.tys_are) l

-- ---- one or two parts

truth_one : (ds : Declarations) (at : ℕ) (a : Judged) (m k : ℕ) → IsSound ds a m → m + 1 ≤ k → IsSound ds (truths at (a ∷ [])) k
truth_one ds at a m k h l = over_one ds a (on_truths at (types_of (a ∷ []))) m k h (truths_fit ds at (types_of (a ∷ []))) l

truth_two : (ds : Declarations) (at : ℕ) (a b : Judged) (m n k : ℕ) → IsSound ds a m → IsSound ds b n → m + n + 1 ≤ k → IsSound ds (truths at (a ∷ b ∷ [])) k
truth_two ds at a b m n k h g l = over_two ds a b (on_truths at (types_of (a ∷ b ∷ []))) m n k h g (truths_fit ds at (types_of (a ∷ b ∷ []))) l

integer_one : (ds : Declarations) (at : ℕ) (a : Judged) (m k : ℕ) → IsSound ds a m → m + 1 ≤ k → IsSound ds (integer at a) k
integer_one ds at a m k h l = over_one ds a (on_integer at (type_of a)) m k h (integer_fits ds at (type_of a) h.ty_is) l

-- the node and the items of an expression, and of those of an expression that is known
abbrev node_of : (scope : Scope) → Expr → Judged
node_of scope e = judge_expr scope e

abbrev items_of : Expr → ℕ
items_of e = item_count (form_of_expr e)

expr-step : (scope : Scope) → IsSoundScope scope → (y : Expr-F (KnownExpr scope)) → let x = map-Expr (KnownExpr scope) Expr (λ e. e.0) y in
    keeps_expr_step (map-Expr Expr Bool keeps_expr x) ≡ true → IsSound scope.all (expr_step scope (map-Expr Expr Judged (judge_expr scope) x)) (item_count (expr_form_step (map-Expr Expr Form form_of_expr x)))
expr-step scope g (Expr-F.Lit at s w) k = leaf_sound scope.all (has (scalar s)) 1 tt (omega arith)
expr-step scope g (Expr-F.Name x) k = name_sound scope.all x (named_in scope.all x.name) (λ n e. g.text.names_are x.name n e)
expr-step scope g (Expr-F.Drop at k x) q = sound_within scope.all _ 1 _ (omega arith) (drop_sound scope.all at k x (named_in scope.all x.name) (λ n e. g.text.names_are x.name n e))
expr-step scope g (Expr-F.Un at op a) k = over_one scope.all (node_of scope a.0) (on_one at op (type_of (node_of scope a.0))) (items_of a.0) _ (a.1 k) (one_fits scope.all at op (type_of (node_of scope a.0))) (omega arith)
expr-step scope g (Expr-F.Bin at op a b) k =
    over_two scope.all (node_of scope a.0) (node_of scope b.0) (on_two at op (type_of (node_of scope a.0)) (type_of (node_of scope b.0))) (items_of a.0) (items_of b.0) _ (a.1 (left_true (keeps_expr a.0) (keeps_expr b.0) k)) (b.1 (right_true (keeps_expr a.0) (keeps_expr b.0) k))
    (two_fits scope.all at op (type_of (node_of scope a.0)) (type_of (node_of scope b.0))) (omega arith)
expr-step scope g (Expr-F.Shift at dir a count) k =
    over_two scope.all (node_of scope a.0) (node_of scope count.0) (on_shift at (type_of (node_of scope a.0)) (type_of (node_of scope count.0))) (items_of a.0) (items_of count.0) _ (a.1 (left_true (keeps_expr a.0) (keeps_expr count.0) k)) (count.1 (right_true (keeps_expr a.0) (keeps_expr count.0) k))
    (shift_is_fit scope.all at (type_of (node_of scope a.0)) (type_of (node_of scope count.0))) (omega arith)
expr-step scope g (Expr-F.And at a b) k = truth_two scope.all at (node_of scope a.0) (node_of scope b.0) (items_of a.0) (items_of b.0) _ (a.1 (left_true (keeps_expr a.0) (keeps_expr b.0) k)) (b.1 (right_true (keeps_expr a.0) (keeps_expr b.0) k)) (omega arith)
expr-step scope g (Expr-F.Or at a b) k = truth_two scope.all at (node_of scope a.0) (node_of scope b.0) (items_of a.0) (items_of b.0) _ (a.1 (left_true (keeps_expr a.0) (keeps_expr b.0) k)) (b.1 (right_true (keeps_expr a.0) (keeps_expr b.0) k)) (omega arith)
expr-step scope g (Expr-F.Implies at a b) k = truth_two scope.all at (node_of scope a.0) (node_of scope b.0) (items_of a.0) (items_of b.0) _ (a.1 (left_true (keeps_expr a.0) (keeps_expr b.0) k)) (b.1 (right_true (keeps_expr a.0) (keeps_expr b.0) k)) (omega arith)
expr-step scope g (Expr-F.If at c a b) k =
    let l = left_true (keeps_expr c.0 && keeps_expr a.0) (keeps_expr b.0) k in
    over_three scope.all (node_of scope c.0) (node_of scope a.0) (node_of scope b.0) (on_choice at (type_of (node_of scope c.0)) (type_of (node_of scope a.0)) (type_of (node_of scope b.0))) (items_of c.0) (items_of a.0) (items_of b.0) _
    (c.1 (left_true (keeps_expr c.0) (keeps_expr a.0) l)) (a.1 (right_true (keeps_expr c.0) (keeps_expr a.0) l)) (b.1 (right_true (keeps_expr c.0 && keeps_expr a.0) (keeps_expr b.0) k))
    (choice_fits scope.all at (type_of (node_of scope c.0)) (type_of (node_of scope a.0)) (type_of (node_of scope b.0)) (a.1 (right_true (keeps_expr c.0) (keeps_expr a.0) l)).ty_is) (omega arith)
expr-step scope g (Expr-F.Cast at to a) k =
    over_two scope.all (judge_form scope.before to) (node_of scope a.0) (on_cast at (type_of (judge_form scope.before to)) (type_of (node_of scope a.0))) (item_count (form_of_type to)) (items_of a.0) _
    (sound_behind scope.before scope.all (judge_form scope.before to) (item_count (form_of_type to)) g.behind (form_sound scope.before to (left_true (keeps_type to) (keeps_expr a.0) k)))
    (a.1 (right_true (keeps_type to) (keeps_expr a.0) k)) (cast_is_fit scope.all at (type_of (judge_form scope.before to)) (type_of (node_of scope a.0))) (omega arith)
expr-step scope g (Expr-F.Abs at a) k = integer_one scope.all at (node_of scope a.0) (items_of a.0) _ (a.1 k) (omega arith)
expr-step scope g (Expr-F.Sign at a) k = integer_one scope.all at (node_of scope a.0) (items_of a.0) _ (a.1 k) (omega arith)
expr-step scope g (Expr-F.Index at a i) k =
    over_two scope.all (node_of scope a.0) (node_of scope i.0) (on_index at (type_of (node_of scope a.0)) (type_of (node_of scope i.0))) (items_of a.0) (items_of i.0) _ (a.1 (left_true (keeps_expr a.0) (keeps_expr i.0) k)) (i.1 (right_true (keeps_expr a.0) (keeps_expr i.0) k))
    (index_fits scope.all at (type_of (node_of scope a.0)) (type_of (node_of scope i.0)) (a.1 (left_true (keeps_expr a.0) (keeps_expr i.0) k)).ty_is) (omega arith)
expr-step scope g (Expr-F.Field at a x) k = part_sound scope.all g.text at (node_of scope a.0) (items_of a.0) _ x (a.1 (left_true (keeps_expr a.0) (keeps_name x) k)) (omega arith)
expr-step scope g (Expr-F.Array at items) k = array_sound scope at _ items k (omega arith)
expr-step scope g (Expr-F.Record at x items) k = record_sound scope g at _ x items k (omega arith)
expr-step scope g (Expr-F.Once at p) k = truth_one scope.all at (node_of scope p.0) (items_of p.0) _ (p.1 k) (omega arith)
expr-step scope g (Expr-F.Historically at p) k = truth_one scope.all at (node_of scope p.0) (items_of p.0) _ (p.1 k) (omega arith)
expr-step scope g (Expr-F.Yesterday at p) k = truth_one scope.all at (node_of scope p.0) (items_of p.0) _ (p.1 k) (omega arith)
expr-step scope g (Expr-F.WeaklyYesterday at p) k = truth_one scope.all at (node_of scope p.0) (items_of p.0) _ (p.1 k) (omega arith)
expr-step scope g (Expr-F.Since at p q) k = truth_two scope.all at (node_of scope p.0) (node_of scope q.0) (items_of p.0) (items_of q.0) _ (p.1 (left_true (keeps_expr p.0) (keeps_expr q.0) k)) (q.1 (right_true (keeps_expr p.0) (keeps_expr q.0) k)) (omega arith)
expr-step scope g (Expr-F.OnceIn at low high p) k = truth_one scope.all at (node_of scope p.0) (items_of p.0) _ (p.1 (right_true (between low 128 high) (keeps_expr p.0) k)) (omega arith)
expr-step scope g (Expr-F.HistoricallyIn at low high p) k = truth_one scope.all at (node_of scope p.0) (items_of p.0) _ (p.1 (right_true (between low 128 high) (keeps_expr p.0) k)) (omega arith)
expr-step scope g (Expr-F.SinceIn at low high p q) k =
    let l = left_true (between low 128 high && keeps_expr p.0) (keeps_expr q.0) k in
    truth_two scope.all at (node_of scope p.0) (node_of scope q.0) (items_of p.0) (items_of q.0) _ (p.1 (right_true (between low 128 high) (keeps_expr p.0) l)) (q.1 (right_true (between low 128 high && keeps_expr p.0) (keeps_expr q.0) k)) (omega arith)
expr-step scope g (Expr-F.Clock at period phase) k = leaf_sound scope.all (has bool) _ tt (omega arith)
expr-step scope g (Expr-F.Majority at items) k = votes_sound scope at _ (λ t. t) items k (λ t h. h) (omega arith)
expr-step scope g (Expr-F.Agreed at items) k = votes_sound scope at _ (λ t. bool) items k (λ t h. tt) (omega arith)
expr-step scope g (Expr-F.WindowMax at n e) k = integer_one scope.all at (node_of scope e.0) (items_of e.0) _ (e.1 (right_true (between 1 12 n) (keeps_expr e.0) k)) (omega arith)
expr-step scope g (Expr-F.WindowMin at n e) k = integer_one scope.all at (node_of scope e.0) (items_of e.0) _ (e.1 (right_true (between 1 12 n) (keeps_expr e.0) k)) (omega arith)
expr-step scope g (Expr-F.WindowSum at n e) k = integer_one scope.all at (node_of scope e.0) (items_of e.0) _ (e.1 (right_true (between 1 12 n) (keeps_expr e.0) k)) (omega arith)

expr-rolled : (scope : Scope) (x : Expr-F Expr)
    → (keeps_expr_step (map-Expr Expr Bool keeps_expr x) ≡ true → IsSound scope.all (expr_step scope (map-Expr Expr Judged (judge_expr scope) x)) (item_count (expr_form_step (map-Expr Expr Form form_of_expr x))))
    → ExprSound scope (roll-Expr x)
unfolding judge_expr keeps_expr form_of_expr
expr-rolled scope x f k =
    subst (λ (j : Judged). IsSound scope.all j (item_count (form_of_expr (roll-Expr x)))) (sym (fold-roll-Expr Judged (expr_step scope) x))
    (subst (λ (g : Form). IsSound scope.all (expr_step scope (map-Expr Expr Judged (judge_expr scope) x)) (item_count g)) (sym (fold-roll-Expr Form expr_form_step x))
    (f (sym (fold-roll-Expr Bool keeps_expr_step x) ∙ k)))

pub expr_sound : (scope : Scope) → IsSoundScope scope → (e : Expr) → keeps_expr e ≡ true → IsSound scope.all (judge_expr scope e) (item_count (form_of_expr e))
expr_sound scope g = ind-Expr (ExprSound scope) (λ x y is. subst (λ z. ExprSound scope (roll-Expr z)) is (expr-rolled scope (map-Expr _ Expr (λ e. e.0) y) (expr-step scope g y)))
