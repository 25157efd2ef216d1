-- Written types and constants make no more arrays than they have lists.
use Rattle.std.proofs.Common.{◌≡◌, ◌≤◌, ◌+◌, ℕ, List, [], ◌∷◌, map, sym, subst, arith}
use Rattle.spec_text.specs.declared.surface.TypeForm.{TypeForm, map-TypeForm, roll-TypeForm}
use Rattle.spec_text.specs.declared.surface.TypeForm.TheOpen.{TypeForm-F}
use Rattle.spec_text.specs.declared.surface.TypeForm.TheFolds.{fold-roll-TypeForm, ind-TypeForm}
use Rattle.spec_text.specs.declared.surface.ConstForm.{ConstForm, map-ConstForm, roll-ConstForm}
use Rattle.spec_text.specs.declared.surface.ConstForm.TheOpen.{ConstForm-F}
use Rattle.spec_text.specs.declared.surface.ConstForm.TheFolds.{fold-roll-ConstForm, ind-ConstForm}
use Rattle.spec_text.specs.Form.{Form, forms, form_of_type, form_of_const}
use Rattle.spec_text.specs.Form.{type_step as type_form_step, const_step as const_form_step}
use Rattle.spec_text.specs.Extent.{list_count, list_counts}
use Rattle.type_check.specs.declared.fault.TypeFault.TheVariants.{Unknown}
use Rattle.type_check.specs.NamedType.{NamedType, scalar, struct, Declarations, declares_struct, struct_in}
use Rattle.type_check.specs.Judged.{has, Judged, if_so, form_step, judge_form, const_step, judge_const, type_of, types_of, on_elements, on_items, on_record}
use Rattle.type_check.specs.Judged.{Scope}
use Rattle.typing.proofs.MadeNodes.{IsMade, AreMade, no_parts, more_parts, node_made, array_made, leaf_made, if_fits, record_fits, elements_new, items_new}

-- ---- types

abbrev TypeMade : List NamedType → Declarations → TypeForm → Type 0
TypeMade known before ty = IsMade known (judge_form before ty) (list_count (form_of_type ty))

type-step : (known : List NamedType) (before : Declarations) (y : TypeForm-F ((t : TypeForm) × TypeMade known before t))
    → let x = map-TypeForm ((t : TypeForm) × TypeMade known before t) TypeForm (λ e. e.0) y in
    IsMade known (form_step before (map-TypeForm TypeForm Judged (judge_form before) x))
    (list_count (type_form_step (map-TypeForm TypeForm Form form_of_type x)))
type-step known before (TypeForm-F.Scalar at s) = leaf_made known (has (scalar s)) 0 (λ us. tt)
type-step known before (TypeForm-F.Named x) =
    leaf_made known (if_so (declares_struct before x.name) (struct x.name) (Unknown x.at)) 0
    (λ us. if_fits us (declares_struct before x.name) (struct x.name) (Unknown x.at) tt)
type-step known before (TypeForm-F.Array at elem n) =
    let m = list_count (form_of_type elem.0) in
    array_made known (judge_form before elem.0 ∷ []) (on_elements before at n (type_of (judge_form before elem.0))) (m + 0) _
    (more_parts known (judge_form before elem.0) [] m 0 elem.1 (no_parts known)) (elements_new before at n (type_of (judge_form before elem.0)))
    (omega arith)

type-rolled : (known : List NamedType) (before : Declarations) (x : TypeForm-F TypeForm)
    → IsMade known (form_step before (map-TypeForm TypeForm Judged (judge_form before) x))
    (list_count (type_form_step (map-TypeForm TypeForm Form form_of_type x)))
    → TypeMade known before (roll-TypeForm x)
unfolding judge_form form_of_type
type-rolled known before x f =
    subst (λ (j : Judged). IsMade known j (list_count (form_of_type (roll-TypeForm x)))) (sym (fold-roll-TypeForm Judged (form_step before) x))
    (subst (λ (g : Form). IsMade known (form_step before (map-TypeForm TypeForm Judged (judge_form before) x)) (list_count g))
    (sym (fold-roll-TypeForm Form type_form_step x)) f)

pub form_made : (known : List NamedType) (before : Declarations) (ty : TypeForm) → IsMade known (judge_form before ty) (list_count (form_of_type ty))
form_made known before =
    ind-TypeForm (TypeMade known before)
    (λ x y is. subst (λ z. TypeMade known before (roll-TypeForm z)) is
    (type-rolled known before (map-TypeForm _ TypeForm (λ e. e.0) y) (type-step known before y)))

-- ---- constants

abbrev ConstMade : List NamedType → Scope → ConstForm → Type 0
ConstMade known scope c = IsMade known (judge_const scope c) (list_count (form_of_const c))

abbrev KnownConst : List NamedType → Scope → Type 0
KnownConst known scope = (c : ConstForm) × ConstMade known scope c

each-const : (known : List NamedType) (scope : Scope) (items : List (KnownConst known scope)) → let cs = map (λ (e : KnownConst known scope). e.0) items in
    AreMade known (map (judge_const scope) cs) (list_counts (forms (map form_of_const cs)))
each-const known scope [] = no_parts known
each-const known scope (c ∷ items) =
    let cs = map (λ (e : KnownConst known scope). e.0) items in
    more_parts known (judge_const scope c.0) (map (judge_const scope) cs) (list_count (form_of_const c.0)) (list_counts (forms (map form_of_const cs))) c.1
    (each-const known scope items)

const-step : (known : List NamedType) (scope : Scope) (y : ConstForm-F (KnownConst known scope))
    → let x = map-ConstForm (KnownConst known scope) ConstForm (λ e. e.0) y in
    IsMade known (const_step scope (map-ConstForm ConstForm Judged (judge_const scope) x))
    (list_count (const_form_step (map-ConstForm ConstForm Form form_of_const x)))
const-step known scope (ConstForm-F.Lit at s w) = leaf_made known (has (scalar s)) 0 (λ us. tt)
const-step known scope (ConstForm-F.Array at items) =
    let cs = map (λ (e : KnownConst known scope). e.0) items in
    array_made known (map (judge_const scope) cs) (on_items scope.all at (types_of (map (judge_const scope) cs)))
    (list_counts (forms (map form_of_const cs))) _ (each-const known scope items)
    (items_new scope.all at (types_of (map (judge_const scope) cs))) (omega arith)
const-step known scope (ConstForm-F.Record at x items) =
    let cs = map (λ (e : KnownConst known scope). e.0) items in
    node_made known (map (judge_const scope) cs) (on_record (struct_in scope.before x.name) at x (types_of (map (judge_const scope) cs)))
    (list_counts (forms (map form_of_const cs))) _ (each-const known scope items)
    (λ us h. record_fits us (struct_in scope.before x.name) at x (types_of (map (judge_const scope) cs))) (omega arith)

const-rolled : (known : List NamedType) (scope : Scope) (x : ConstForm-F ConstForm)
    → IsMade known (const_step scope (map-ConstForm ConstForm Judged (judge_const scope) x))
    (list_count (const_form_step (map-ConstForm ConstForm Form form_of_const x)))
    → ConstMade known scope (roll-ConstForm x)
unfolding judge_const form_of_const
const-rolled known scope x f =
    subst (λ (j : Judged). IsMade known j (list_count (form_of_const (roll-ConstForm x)))) (sym (fold-roll-ConstForm Judged (const_step scope) x))
    (subst (λ (g : Form). IsMade known (const_step scope (map-ConstForm ConstForm Judged (judge_const scope) x)) (list_count g))
    (sym (fold-roll-ConstForm Form const_form_step x)) f)

pub const_made : (known : List NamedType) (scope : Scope) (c : ConstForm) → IsMade known (judge_const scope c) (list_count (form_of_const c))
const_made known scope =
    ind-ConstForm (ConstMade known scope)
    (λ x y is. subst (λ z. ConstMade known scope (roll-ConstForm z)) is
    (const-rolled known scope (map-ConstForm _ ConstForm (λ e. e.0) y) (const-step known scope y)))
