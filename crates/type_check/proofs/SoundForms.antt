-- Written types and constants are sound nodes.
use Rattle.std.proofs.Common.{◌≡◌, ◌≤◌, ℕ, suc, Bool, true, false, nat_le, List, [], ◌∷◌, map, length, refl, sym, ap, ◌∙◌, subst, arith}
use Rattle.std.specs.Prelude.{◌&&◌, is_some}
use Rattle.std.proofs.lemmas.Bool.Decides.{nat_tests}
use Rattle.spec_text.specs.declared.surface.NameAt.{NameAt}
use Rattle.spec_text.specs.declared.surface.TypeForm.{TypeForm, map-TypeForm, roll-TypeForm}
use Rattle.spec_text.specs.declared.surface.TypeForm.TheOpen.{TypeForm-F}
use Rattle.spec_text.specs.declared.surface.TypeForm.TheFolds.{fold-roll-TypeForm, ind-TypeForm}
use Rattle.spec_text.specs.declared.surface.ConstForm.{ConstForm, map-ConstForm, roll-ConstForm}
use Rattle.spec_text.specs.declared.surface.ConstForm.TheOpen.{ConstForm-F}
use Rattle.spec_text.specs.declared.surface.ConstForm.TheFolds.{fold-roll-ConstForm, ind-ConstForm}
use Rattle.spec_text.specs.Form.{Form, forms, form_of_type, form_of_const}
use Rattle.spec_text.specs.Form.{type_step as type_form_step, const_step as const_form_step}
use Rattle.spec_text.specs.Extent.{item_count, item_counts}
use Rattle.spec_text.specs.KeepsTable.{between, all_kept, keeps_name, keeps_type, keeps_type_step, keeps_const, keeps_const_step}
use Rattle.type_check.specs.declared.fault.TypeFault.{TypeFault}
use Rattle.type_check.specs.declared.fault.TypeFault.TheVariants.{Unknown}
use Rattle.type_check.specs.NamedType.{scalar, struct, Declarations, declares_struct, struct_in}
use Rattle.type_check.specs.Judged.{has, Judged, if_so, form_step, judge_form, const_step, judge_const, type_of, types_of, on_elements, on_items, on_record, Scope}
use Rattle.type_check.proofs.SameNames.{left_true, right_true}
use Rattle.type_check.proofs.SoundTypes.{Fits, IsBehind, elements_fit, items_fit, record_fits}
use Rattle.type_check.proofs.SoundNodes.{IsSound, AreSound, no_parts, more_parts, node_sound, leaf_sound, over_one}

pub between_low : (low high n : ℕ) → between low high n ≡ true → low ≤ n
between_low low high n h = let e = left_true (nat_le low n) (nat_le n high) h in grind (arith, nat_tests, e)

pub between_high : (low high n : ℕ) → between low high n ≡ true → n ≤ high
between_high low high n h = let e = right_true (nat_le low n) (nat_le n high) h in grind (arith, nat_tests, e)

-- ---- types

abbrev TypeSound : Declarations → TypeForm → Type 0
TypeSound before ty = keeps_type ty ≡ true → IsSound before (judge_form before ty) (item_count (form_of_type ty))

named_if : (before : Declarations) (x : NameAt) (b : Bool) (e : TypeFault) → declares_struct before x.name ≡ b → Fits before (if_so b (struct x.name) e)
named_if before x true e h = h
named_if before x false e h = tt

type-step : (before : Declarations) (y : TypeForm-F ((t : TypeForm) × TypeSound before t)) → let x = map-TypeForm ((t : TypeForm) × TypeSound before t) TypeForm (λ e. e.0) y in
    keeps_type_step (map-TypeForm TypeForm Bool keeps_type x) ≡ true → IsSound before (form_step before (map-TypeForm TypeForm Judged (judge_form before) x)) (item_count (type_form_step (map-TypeForm TypeForm Form form_of_type x)))
type-step before (TypeForm-F.Scalar at s) k = leaf_sound before (has (scalar s)) 1 tt (omega arith)
type-step before (TypeForm-F.Named x) k = leaf_sound before (if_so (declares_struct before x.name) (struct x.name) (Unknown x.at)) 1 (named_if before x (declares_struct before x.name) (Unknown x.at) refl) (omega arith)
type-step before (TypeForm-F.Array at elem n) k =
    let b = right_true (keeps_type elem.0) (between 1 1024 n) k in
    let s = elem.1 (left_true (keeps_type elem.0) (between 1 1024 n) k) in
    over_one before (judge_form before elem.0) (on_elements before at n (type_of (judge_form before elem.0))) (item_count (form_of_type elem.0)) _ s
    (elements_fit before at n (type_of (judge_form before elem.0)) s.ty_is (between_low 1 1024 n b) (between_high 1 1024 n b)) (omega arith)

type-rolled : (before : Declarations) (x : TypeForm-F TypeForm)
    → (keeps_type_step (map-TypeForm TypeForm Bool keeps_type x) ≡ true → IsSound before (form_step before (map-TypeForm TypeForm Judged (judge_form before) x)) (item_count (type_form_step (map-TypeForm TypeForm Form form_of_type x))))
    → TypeSound before (roll-TypeForm x)
unfolding judge_form keeps_type form_of_type
type-rolled before x f k =
    subst (λ (j : Judged). IsSound before j (item_count (form_of_type (roll-TypeForm x)))) (sym (fold-roll-TypeForm Judged (form_step before) x))
    (subst (λ (g : Form). IsSound before (form_step before (map-TypeForm TypeForm Judged (judge_form before) x)) (item_count g)) (sym (fold-roll-TypeForm Form type_form_step x))
    (f (sym (fold-roll-TypeForm Bool keeps_type_step x) ∙ k)))

pub form_sound : (before : Declarations) (ty : TypeForm) → keeps_type ty ≡ true → IsSound before (judge_form before ty) (item_count (form_of_type ty))
form_sound before = ind-TypeForm (TypeSound before) (λ x y is. subst (λ z. TypeSound before (roll-TypeForm z)) is (type-rolled before (map-TypeForm _ TypeForm (λ e. e.0) y) (type-step before y)))

-- ---- constants

abbrev ConstSound : Scope → ConstForm → Type 0
ConstSound scope c = keeps_const c ≡ true → IsSound scope.all (judge_const scope c) (item_count (form_of_const c))

abbrev KnownConst : Scope → Type 0
KnownConst scope = (c : ConstForm) × ConstSound scope c

each-const : (scope : Scope) (items : List (KnownConst scope)) → let cs = map (λ (e : KnownConst scope). e.0) items in
    all_kept (map keeps_const cs) ≡ true → AreSound scope.all (map (judge_const scope) cs) (item_counts (forms (map form_of_const cs)))
each-const scope [] k = no_parts scope.all
each-const scope (c ∷ items) k =
    let cs = map (λ (e : KnownConst scope). e.0) items in
    more_parts scope.all (judge_const scope c.0) (map (judge_const scope) cs) (item_count (form_of_const c.0)) (item_counts (forms (map form_of_const cs)))
    (c.1 (left_true (keeps_const c.0) (all_kept (map keeps_const cs)) k)) (each-const scope items (right_true (keeps_const c.0) (all_kept (map keeps_const cs)) k))

pub map_count : {X Y : Type 0} (f : X → Y) (xs : List X) → length (map f xs) ≡ length xs
map_count f [] = refl
map_count f (x ∷ xs) = ap suc (map_count f xs)

-- as many types as items
pub as_many : {X Y : Type 0} (f : X → Judged) (g : X → Y) (xs : List X) → length (types_of (map f xs)) ≡ length (map g xs)
as_many f g xs = map_count type_of (map f xs) ∙ map_count f xs ∙ sym (map_count g xs)

const-step : (scope : Scope) → IsBehind scope.before scope.all → (y : ConstForm-F (KnownConst scope)) → let x = map-ConstForm (KnownConst scope) ConstForm (λ e. e.0) y in
    keeps_const_step (map-ConstForm ConstForm Bool keeps_const x) ≡ true → IsSound scope.all (const_step scope (map-ConstForm ConstForm Judged (judge_const scope) x)) (item_count (const_form_step (map-ConstForm ConstForm Form form_of_const x)))
const-step scope b (ConstForm-F.Lit at s w) k = leaf_sound scope.all (has (scalar s)) 1 tt (omega arith)
const-step scope b (ConstForm-F.Array at items) k =
    let cs = map (λ (e : KnownConst scope). e.0) items in
    let within = left_true (between 1 1024 (length (map keeps_const cs))) (all_kept (map keeps_const cs)) k in
    let parts = each-const scope items (right_true (between 1 1024 (length (map keeps_const cs))) (all_kept (map keeps_const cs)) k) in
    node_sound scope.all (map (judge_const scope) cs) (on_items scope.all at (types_of (map (judge_const scope) cs))) (item_counts (forms (map form_of_const cs))) _ parts
    (items_fit scope.all at (types_of (map (judge_const scope) cs)) parts.tys_are (subst (λ n. n ≤ 1024) (sym (as_many (judge_const scope) keeps_const cs)) (between_high 1 1024 (length (map keeps_const cs)) within)))
    (omega arith)
const-step scope b (ConstForm-F.Record at x items) k =
    let cs = map (λ (e : KnownConst scope). e.0) items in
    let kept = right_true (nat_le 1 (length (map keeps_const cs))) (all_kept (map keeps_const cs)) (right_true (keeps_name x) (nat_le 1 (length (map keeps_const cs)) && all_kept (map keeps_const cs)) k) in
    node_sound scope.all (map (judge_const scope) cs) (on_record (struct_in scope.before x.name) at x (types_of (map (judge_const scope) cs))) (item_counts (forms (map form_of_const cs))) _ (each-const scope items kept)
    (record_fits scope.all (struct_in scope.before x.name) at x (types_of (map (judge_const scope) cs)) (λ h. ap is_some (b.alike x.name h).struct_is ∙ h))
    (omega arith)

const-rolled : (scope : Scope) (x : ConstForm-F ConstForm)
    → (keeps_const_step (map-ConstForm ConstForm Bool keeps_const x) ≡ true → IsSound scope.all (const_step scope (map-ConstForm ConstForm Judged (judge_const scope) x)) (item_count (const_form_step (map-ConstForm ConstForm Form form_of_const x))))
    → ConstSound scope (roll-ConstForm x)
unfolding judge_const keeps_const form_of_const
const-rolled scope x f k =
    subst (λ (j : Judged). IsSound scope.all j (item_count (form_of_const (roll-ConstForm x)))) (sym (fold-roll-ConstForm Judged (const_step scope) x))
    (subst (λ (g : Form). IsSound scope.all (const_step scope (map-ConstForm ConstForm Judged (judge_const scope) x)) (item_count g)) (sym (fold-roll-ConstForm Form const_form_step x))
    (f (sym (fold-roll-ConstForm Bool keeps_const_step x) ∙ k)))

pub const_sound : (scope : Scope) → IsBehind scope.before scope.all → (c : ConstForm) → keeps_const c ≡ true → IsSound scope.all (judge_const scope c) (item_count (form_of_const c))
const_sound scope b = ind-ConstForm (ConstSound scope) (λ x y is. subst (λ z. ConstSound scope (roll-ConstForm z)) is (const-rolled scope (map-ConstForm _ ConstForm (λ e. e.0) y) (const-step scope b y)))
