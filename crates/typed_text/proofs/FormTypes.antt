-- A written type without a fault has a type, which the walk met.
use Rattle.std.proofs.Common.{◌≡◌, ℕ, Bool, true, false, List, [], ◌∷◌, refl, sym, ap, ◌∙◌, subst}
use Rattle.std.specs.Prelude.{◌&&◌, if◌then◌else◌, is_some, Option, Some, None, IsTrue}
use Rattle.std.specs.List.{list_any, AllByRecursion}
use Rattle.spec_text.specs.declared.surface.NameAt.{NameAt}
use Rattle.spec_text.specs.declared.surface.FieldForm.{FieldForm}
use Rattle.spec_text.specs.declared.surface.TypeForm.{TypeForm, map-TypeForm, roll-TypeForm}
use Rattle.spec_text.specs.declared.surface.TypeForm.TheOpen.{TypeForm-F}
use Rattle.spec_text.specs.declared.surface.TypeForm.TheFolds.{fold-roll-TypeForm, ind-TypeForm}
use Rattle.type_check.specs.declared.fault.TypeFault.TheVariants.{Unknown}
use Rattle.type_check.specs.NamedType.{NamedType, scalar, struct, array, Declarations, Struct, struct_in, declares_struct}
use Rattle.type_check.specs.Judged.{Verdict, has, lacks, if_so, Judged, first_of, all_types, have_types, judged, type_of, form_step, judge_form, on_elements}
use Rattle.type_check.specs.TypeOrder.{Event, is_met}
use Rattle.typed_text.proofs.Sound.{WellNamed, AllMet, both_none, all_split, IsNode, node_of}
use Rattle.typed_text.proofs.Verdicts.{if_has, elements_has}

-- what is behind a place is in the text
abbrev pub AreIn : Declarations → Declarations → Type 0
AreIn before all = (x : List ℕ) → IsTrue (is_some (struct_in before x)) → IsTrue (is_some (struct_in all x))

-- a part that has a type, which was met
pub record IsTyped (es : List Event) (all : Declarations) (j : Judged) : Type 0 where
  pub there : IsTrue (is_some j.ty)
  pub well : WellNamed all (type_of j)
  pub is_met : IsTrue (list_any (is_met (type_of j)) es)

abbrev pub TypedIf : List Event → Declarations → Judged → Type 0
TypedIf es all j = j.fault ≡ None → AllMet es j.types → IsTyped es all j

pub node_typed : (es : List Event) (all : Declarations) (A : Type 0) (v : Verdict) (j : Judged) (n : IsNode es A v j) → WellNamed all n.ty → IsTyped es all j
node_typed es all A v j n h = record {
  there = n.there;
  well = subst (WellNamed all) (sym n.type_is) h;
  is_met = subst (λ u. IsTrue (list_any (is_met u) es)) (sym n.type_is) n.is_met;
}

abbrev Fine : List Event → Declarations → Declarations → TypeForm → Type 0
Fine es before all x = TypedIf es all (judge_form before x)

abbrev FineForm : List Event → Declarations → Declarations → Type 0
FineForm es before all = (x : TypeForm) × Fine es before all x

abbrev form_of : (es : List Event) (before all : Declarations) → TypeForm-F (FineForm es before all) → TypeForm-F TypeForm
form_of es before all y = map-TypeForm (FineForm es before all) TypeForm (λ e. e.0) y

no_parts : (es : List Event) → first_of [] ≡ None → AllMet es (all_types []) → Unit {0} × (have_types [] ≡ true)
no_parts es h m = (tt, refl)

one_part : (es : List Event) (all : Declarations) (j : Judged) → TypedIf es all j → first_of (j ∷ []) ≡ None → AllMet es (all_types (j ∷ [])) → IsTyped es all j × (have_types (j ∷ []) ≡ true)
one_part es all j g h m =
    let own = g (both_none j.fault None h).0 (all_split _ j.types [] m).0 in
    (own, ap (λ b. b && true) own.there)

named_typed : (es : List Event) (before all : Declarations) → AreIn before all → (x : NameAt) (b : Bool) → declares_struct before x.name ≡ b → TypedIf es all (judged [] (if_so b (struct x.name) (Unknown x.at)))
named_typed es before all within x true e h m =
    let node = node_of es (Unit {0}) [] (has (struct x.name)) (no_parts es) h m in
    let same : struct x.name ≡ node.ty = (let q = node.v_is in cc) in
    node_typed es all (Unit {0}) (has (struct x.name)) (judged [] (has (struct x.name))) node (subst (WellNamed all) same (within x.name e))
named_typed es before all within x false e h m = absurd (cc)

step_typed : (es : List Event) (before all : Declarations) → AreIn before all → (y : TypeForm-F (FineForm es before all)) → TypedIf es all (form_step before (map-TypeForm TypeForm Judged (judge_form before) (form_of es before all y)))
step_typed es before all within (TypeForm-F.Scalar at s) h m =
    let node = node_of es (Unit {0}) [] (has (scalar s)) (no_parts es) h m in
    let same : scalar s ≡ node.ty = (let q = node.v_is in cc) in
    node_typed es all (Unit {0}) (has (scalar s)) (judged [] (has (scalar s))) node (subst (WellNamed all) same tt)
step_typed es before all within (TypeForm-F.Named x) h m = named_typed es before all within x (declares_struct before x.name) refl h m
step_typed es before all within (TypeForm-F.Array at elem n) h m =
    let j = judge_form before elem.0 in
    let v = on_elements before at n (type_of j) in
    let node = node_of es (IsTyped es all j) (j ∷ []) v (one_part es all j elem.1) h m in
    node_typed es all (IsTyped es all j) v (judged (j ∷ []) v) node (subst (WellNamed all) (elements_has before at n (type_of j) node.ty node.v_is) node.parts.well)

form_rolled : (es : List Event) (before all : Declarations) (x : TypeForm-F TypeForm) → TypedIf es all (form_step before (map-TypeForm TypeForm Judged (judge_form before) x)) → Fine es before all (roll-TypeForm x)
unfolding judge_form
form_rolled es before all x h = subst (TypedIf es all) (sym (fold-roll-TypeForm Judged (form_step before) x)) h

pub form_typed : (es : List Event) (before all : Declarations) → AreIn before all → (x : TypeForm) → TypedIf es all (judge_form before x)
form_typed es before all within = ind-TypeForm (Fine es before all) (λ x y is. subst (λ z. Fine es before all (roll-TypeForm z)) is (form_rolled es before all (form_of es before all y) (step_typed es before all within y)))
