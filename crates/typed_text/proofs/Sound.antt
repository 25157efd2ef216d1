-- What is known at a place of a text, what a sound expression is, and nodes over sound parts.
use Rattle.std.proofs.Common.{◌≡◌, ℕ, suc, ◌+◌, ◌<◌, Bool, true, false, List, [], ◌∷◌, ◌++◌, map, length, refl, sym, ap, ◌∙◌, subst, arith}
use Rattle.std.specs.Prelude.{◌&&◌, ◌||◌, is_some, slice_get, Option, Some, None, IsTrue}
use Rattle.std.specs.List.{list_any, AllByRecursion}
use Rattle.std.specs.Option.{option_map_or}
use Rattle.stream_types.specs.declared.types.TypeEntry.{TypeEntry}
use Rattle.stream_types.specs.declared.types.TypeEntry.TheVariants as entry
use Rattle.stream_types.specs.declared.scalar.Ty.{Ty}
use Rattle.stream_core.specs.declared.node.LibForm.{LibForm}
use Rattle.stream_core.specs.Term as t
use Rattle.stream_core.specs.Term.{Term, Terms, TreeLib}
use Rattle.stream_core.specs.Signature.{Signature}
use Rattle.stream_core.specs.WellTyped.{HasType, HaveTypes, ListHasTypes, IsGoodForm, IsGoodLib, operand_types, form_gives}
use Rattle.spec_text.specs.declared.surface.FieldForm.{FieldForm}
use Rattle.type_check.specs.declared.fault.TypeFault.{TypeFault}
use Rattle.type_check.specs.NamedType.{NamedType, scalar, struct, array, bool, Declarations, Struct, struct_in}
use Rattle.type_check.specs.Judged.{Verdict, has, lacks, Judged, or_else, first_of, have_types, all_types, over_parts, judged, type_of, judge_form, Scope, Named, extern_of, stream_of, def_of, named_in, declared}
use Rattle.type_check.specs.TypeOrder.{Event, is_met, number_of, ty_of, fields_of}
use Rattle.typed_text.specs.ReadSpec.{Numbers, Read, counts, terms_from, forms_from, terms, plain, library, name_term, number_in}

-- ---- what is known at a place

-- a type whose structs are those of the text
abbrev pub WellNamed : Declarations → NamedType → Type 0
WellNamed all (scalar s) = Unit {0}
WellNamed all (struct x) = IsTrue (is_some (struct_in all x))
WellNamed all (array u n) = WellNamed all u

-- a struct or an array has its entry in the type list
abbrev pub IsEntered : Declarations → List NamedType → List TypeEntry → NamedType → Type 0
IsEntered all order types (scalar s) = Unit {0}
IsEntered all order types (struct x) = slice_get types (number_of order (struct x)) ≡ Some (entry.Struct x (fields_of order (struct_in all x)))
IsEntered all order types (array u n) = slice_get types (number_of order (array u n)) ≡ Some (entry.Array (ty_of order u) n)

-- each of these types was met
abbrev pub AllMet : List Event → List NamedType → Type 0
AllMet es us = AllByRecursion (λ u. IsTrue (list_any (is_met u) es)) us

-- a written type that has a type
pub record IsTypedForm (all before : Declarations) (f : FieldForm) : Type 0 where
  pub there : IsTrue (is_some (judge_form before f.ty).ty)
  pub well : WellNamed all (type_of (judge_form before f.ty))

-- how many values are kept of what a name stands for
abbrev pub kept_values : Named → ℕ
kept_values (extern_of ds ty) = 0
kept_values (stream_of ds ty n) = n
kept_values (def_of ds ty) = 0

-- a name stands for something of its declared type, of which it keeps so many values
pub record IsNamed (numbers : Numbers) (all : Declarations) (sig : Signature) (x : List ℕ) (n : Named) : Type 0 where
  pub there : IsTrue (is_some (declared n).ty)
  pub well : WellNamed all (type_of (declared n))
  pub name : HasType sig (name_term numbers x) (ty_of numbers.order (type_of (declared n)))
  pub drops : (k : ℕ) → k < kept_values n → HasType sig (t.dropped (number_in numbers.streams x) k) (ty_of numbers.order (type_of (declared n)))

-- what is known at a place of a text, whose walk met these types
pub record IsPlace (numbers : Numbers) (scope : Scope) (es : List Event) (sig : Signature) : Type 0 where
  pub entered : (u : NamedType) → WellNamed scope.all u → IsTrue (list_any (is_met u) es) → IsEntered scope.all numbers.order sig.types u
  pub names : (x : List ℕ) (n : Named) → named_in scope.all x ≡ Some n → IsNamed numbers scope.all sig x n
  pub structs : (x : List ℕ) (st : Struct) → struct_in scope.before x ≡ Some st → struct_in scope.all x ≡ Some st
  pub members : (x : List ℕ) (st : Struct) → struct_in scope.all x ≡ Some st → AllByRecursion (IsTypedForm scope.all st.before) st.fields

-- ---- sound expressions

abbrev pub judged_of : Read → Judged
judged_of r = r.judged

abbrev pub own_type : Read → NamedType
own_type r = type_of r.judged

abbrev pub own_ty : List NamedType → Read → Ty
own_ty order r = ty_of order (type_of r.judged)

-- an expression that has a type, as its tree has
pub record IsSound (order : List NamedType) (all : Declarations) (sig : Signature) (r : Read) : Type 0 where
  pub there : IsTrue (is_some r.judged.ty)
  pub well : WellNamed all (type_of r.judged)
  pub entered : IsEntered all order sig.types (type_of r.judged)
  pub typed : (k : ℕ) → HasType sig (r.term k) (ty_of order (type_of r.judged))
  pub libs : (k : ℕ) → AllByRecursion (IsGoodLib sig) (r.forms k)
  pub counted : (k : ℕ) → length (r.forms k) ≡ r.count

abbrev pub AllSound : List NamedType → Declarations → Signature → List Read → Type 0
AllSound order all sig ps = AllByRecursion (IsSound order all sig) ps

-- without a fault it is sound
abbrev pub SoundIf : List Event → List NamedType → Declarations → Signature → Read → Type 0
SoundIf es order all sig r = r.judged.fault ≡ None → AllMet es r.judged.types → IsSound order all sig r

-- ---- faults and types of parts

pub both_none : (a b : Option TypeFault) → or_else a b ≡ None → (a ≡ None) × (b ≡ None)
both_none None b h = (refl, h)
both_none (Some e) b h = absurd (cc)

pub all_split : {X : Type 0} (P : X → Type 0) (xs ys : List X) → AllByRecursion P (xs ++ ys) → AllByRecursion P xs × AllByRecursion P ys
all_split P [] ys h = (tt, h)
all_split P (x ∷ xs) ys h = let r = all_split P xs ys h.1 in ((h.0, r.0), r.1)

pub all_join : {X : Type 0} (P : X → Type 0) (xs ys : List X) → AllByRecursion P xs → AllByRecursion P ys → AllByRecursion P (xs ++ ys)
all_join P [] ys h k = k
all_join P (x ∷ xs) ys h k = (h.0, all_join P xs ys h.1 k)

both_true : (a b : Bool) → a ≡ true → b ≡ true → (a && b) ≡ true
both_true true b h k = k
both_true false b h k = absurd (cc)

-- a node that has a type, over such parts
pub record IsNode (es : List Event) (A : Type 0) (v : Verdict) (j : Judged) : Type 0 where
  pub parts : A
  pub ty : NamedType
  pub v_is : v ≡ has ty
  pub there : IsTrue (is_some j.ty)
  pub type_is : type_of j ≡ ty
  pub is_met : IsTrue (list_any (is_met ty) es)

abbrev GivesParts : List Event → Type 0 → List Judged → Type 0
GivesParts es A qs = first_of qs ≡ None → AllMet es (all_types qs) → A × (have_types qs ≡ true)

node_by : (es : List Event) (A : Type 0) (qs : List Judged) (b : Bool) (v : Verdict) → have_types qs ≡ b → GivesParts es A qs → (over_parts b qs v).fault ≡ None → AllMet es (over_parts b qs v).types → IsNode es A v (over_parts b qs v)
node_by es A qs false v e f h m = let p = f h m in absurd (let no : true ≡ false = sym p.1 ∙ e in cc)
node_by es A qs true (has u) e f h m =
    let s = all_split (λ w. IsTrue (list_any (is_met w) es)) (all_types qs) (u ∷ []) m in
    let p = f h s.0 in
    record { parts = p.0; ty = u; v_is = refl; there = refl; type_is = refl; is_met = s.1.0 }
node_by es A qs true (lacks g) e f h m = absurd (let p = both_none (first_of qs) (Some g) h in let no : Some g ≡ None = p.1 in cc)

pub node_of : (es : List Event) (A : Type 0) (qs : List Judged) (v : Verdict) → GivesParts es A qs → (judged qs v).fault ≡ None → AllMet es (judged qs v).types → IsNode es A v (judged qs v)
node_of es A qs v f h m = node_by es A qs (have_types qs) v refl f h m

pub parts_sound : (es : List Event) (order : List NamedType) (all : Declarations) (sig : Signature) (ps : List Read) → AllByRecursion (SoundIf es order all sig) ps → GivesParts es (AllSound order all sig ps) (map judged_of ps)
parts_sound es order all sig [] g h m = (tt, refl)
parts_sound es order all sig (p ∷ ps) g h m =
    let e = both_none p.judged.fault (first_of (map judged_of ps)) h in
    let s = all_split (λ w. IsTrue (list_any (is_met w) es)) p.judged.types (all_types (map judged_of ps)) m in
    let own = g.0 e.0 s.0 in
    let rest = parts_sound es order all sig ps g.1 e.1 s.1 in
    ((own, rest.0), both_true (is_some p.judged.ty) (have_types (map judged_of ps)) own.there rest.1)

-- ---- trees and forms of parts

pub terms_typed : (sig : Signature) (ts : List Term) (us : List Ty) → ListHasTypes sig ts us → HaveTypes sig (terms ts) us
terms_typed sig [] [] h = tt
terms_typed sig [] (u ∷ us) h = absurd h
terms_typed sig (a ∷ ts) [] h = absurd h
terms_typed sig (a ∷ ts) (u ∷ us) h = (h.0, terms_typed sig ts us h.1)

pub each_typed : (order : List NamedType) (all : Declarations) (sig : Signature) (ps : List Read) → AllSound order all sig ps → (k : ℕ) → ListHasTypes sig (terms_from k ps) (map (own_ty order) ps)
each_typed order all sig [] h k = tt
each_typed order all sig (p ∷ ps) h k = (h.0.typed k, each_typed order all sig ps h.1 (k + p.count))

pub forms_good : (order : List NamedType) (all : Declarations) (sig : Signature) (ps : List Read) → AllSound order all sig ps → (k : ℕ) → AllByRecursion (IsGoodLib sig) (forms_from k ps)
forms_good order all sig [] h k = tt
forms_good order all sig (p ∷ ps) h k = all_join (IsGoodLib sig) (p.forms k) (forms_from (k + p.count) ps) (h.0.libs k) (forms_good order all sig ps h.1 (k + p.count))

append_length : {X : Type 0} (xs ys : List X) → length (xs ++ ys) ≡ length xs + length ys
append_length [] ys = omega arith
append_length (x ∷ xs) ys = let e : length (xs ++ ys) ≡ length xs + length ys = append_length xs ys in omega (arith, e)

pub forms_counted : (order : List NamedType) (all : Declarations) (sig : Signature) (ps : List Read) → AllSound order all sig ps → (k : ℕ) → length (forms_from k ps) ≡ counts ps
forms_counted order all sig [] h k = refl
forms_counted order all sig (p ∷ ps) h k =
    append_length (p.forms k) (forms_from (k + p.count) ps)
    ∙ ap (λ n. n + length (forms_from (k + p.count) ps)) (h.0.counted k)
    ∙ ap (λ n. p.count + n) (forms_counted order all sig ps h.1 (k + p.count))

-- ---- sound nodes

-- what an expression that is no form gives, over its operands' trees
abbrev pub Gives : List NamedType → Declarations → Signature → NamedType → Term → Type 0
Gives order all sig u e = WellNamed all u × HasType sig e (ty_of order u)

pub sound_plain : (numbers : Numbers) (scope : Scope) (es : List Event) (sig : Signature) → IsPlace numbers scope es sig → (A : Type 0) (v : Verdict) (j : Judged) (ps : List Read) (make : List Term → Term) (n : IsNode es A v j)
    → AllSound numbers.order scope.all sig ps → ((k : ℕ) → Gives numbers.order scope.all sig n.ty (make (terms_from k ps))) → IsSound numbers.order scope.all sig (plain j ps make)
sound_plain numbers scope es sig here A v j ps make n h g = record {
  there = n.there;
  well = subst (WellNamed scope.all) (sym n.type_is) (g 0).0;
  entered = subst (IsEntered scope.all numbers.order sig.types) (sym n.type_is) (here.entered n.ty (g 0).0 n.is_met);
  typed = λ k. subst (λ u. HasType sig (make (terms_from k ps)) (ty_of numbers.order u)) (sym n.type_is) (g k).1;
  libs = λ k. forms_good numbers.order scope.all sig ps h k;
  counted = λ k. forms_counted numbers.order scope.all sig ps h k;
}

-- what a form gives, over its operands' trees
abbrev pub GivesForm : List NamedType → Declarations → Signature → LibForm → NamedType → List Term → Type 0
GivesForm order all sig form u ts = WellNamed all u × IsGoodForm form × ListHasTypes sig ts (operand_types form) × (ty_of order u ≡ form_gives form)

pub sound_library : (numbers : Numbers) (scope : Scope) (es : List Event) (sig : Signature) → IsPlace numbers scope es sig → (A : Type 0) (v : Verdict) (j : Judged) (ps : List Read) (at : ℕ) (form : LibForm) (n : IsNode es A v j)
    → AllSound numbers.order scope.all sig ps → ((k : ℕ) → GivesForm numbers.order scope.all sig form n.ty (terms_from k ps)) → IsSound numbers.order scope.all sig (library j at form ps)
sound_library numbers scope es sig here A v j ps at form n h g = record {
  there = n.there;
  well = subst (WellNamed scope.all) (sym n.type_is) (g 0).0;
  entered = subst (IsEntered scope.all numbers.order sig.types) (sym n.type_is) (here.entered n.ty (g 0).0 n.is_met);
  typed = λ k. ((g (suc k)).1, terms_typed sig (terms_from (suc k) ps) (operand_types form) (g (suc k)).2, ap (ty_of numbers.order) n.type_is ∙ (g (suc k)).3);
  libs = λ k. (record { form = (g (suc k)).1; args = (g (suc k)).2 }, forms_good numbers.order scope.all sig ps h (suc k));
  counted = λ k. ap suc (forms_counted numbers.order scope.all sig ps h (suc k));
}
