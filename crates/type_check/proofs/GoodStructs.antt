-- The structs of a text without a fault: how many fields they have, and how many words.
use Rattle.std.proofs.Common.{◌≡◌, ◌≤◌, ◌+◌, ◌*◌, ℕ, Bool, true, false, nat_lt, List, [], ◌∷◌, map, length, refl, sym, ap, ◌∙◌, subst, arith}
use Rattle.std.specs.Prelude.{◌&&◌, if◌then◌else◌, is_some, bytes_eq, Option, Some, None}
use Rattle.std.specs.Option.{option_map_or}
use Rattle.std.specs.Cmp.Lexicographic.{nat_list_eq_equiv}
use Rattle.std.proofs.lemmas.Bool.Decides.{nat_tests}
use Rattle.std.proofs.lemmas.List.Sums.{sum_by-cons}
use Rattle.spec_text.specs.declared.surface.NameAt.{NameAt}
use Rattle.spec_text.specs.declared.surface.FieldForm.{FieldForm}
use Rattle.spec_text.specs.declared.surface.TypeForm.{TypeForm, map-TypeForm, roll-TypeForm}
use Rattle.spec_text.specs.declared.surface.TypeForm.TheOpen.{TypeForm-F}
use Rattle.spec_text.specs.declared.surface.TypeForm.TheFolds.{fold-roll-TypeForm, ind-TypeForm}
use Rattle.spec_text.specs.declared.surface.Decl.{Decl}
use Rattle.spec_text.specs.declared.surface.Decl.TheVariants as d
use Rattle.spec_text.specs.KeepsTable.{between, all_kept, kept_from, keeps_name, keeps_type, keeps_field, keeps_decl}
use Rattle.type_check.specs.declared.fault.TypeFault.{TypeFault}
use Rattle.type_check.specs.declared.fault.TypeFault.TheVariants.{Unknown, NestedArray, TypeTooWide}
use Rattle.type_check.specs.NamedType.{NamedType, scalar, struct, array, bool, is_array, Declarations, Struct, struct_in, declares_struct, words_step, form_words, struct_words, words, most_words}
use Rattle.type_check.specs.Judged.{Verdict, has, lacks, if_so, Judged, or_else, first_of, have_types, over_parts, judged, type_of, judge_form, form_step, on_elements, is_too_wide}
use Rattle.type_check.specs.Untyped.{reversed, judge_fields, struct_width, judge_decl, first_untyped}
use Rattle.type_check.specs.Standing.{IsDistinct}
use Rattle.type_check.specs.Table.{struct_names}
use Rattle.type_check.proofs.SameNames.{left_true, right_true, list_same}
use Rattle.type_check.proofs.SoundTypes.{IsBehind, words_on}
use Rattle.type_check.proofs.SoundForms.{between_low, between_high, map_count, form_sound}
use Rattle.type_check.proofs.SoundTexts.{struct_kept}
use Rattle.type_check.proofs.Behind.{behind}

-- ---- nodes without a fault

never_none : (o : Option TypeFault) (x : TypeFault) → or_else o (Some x) ≡ None → ⊥
never_none None x e = cc
never_none (Some y) x e = cc

front_if : (ps : List Judged) (v : Verdict) (b : Bool) → (over_parts b ps v).fault ≡ None → first_of ps ≡ None
front_if ps v false e = e
front_if ps (has t) true e = e
front_if ps (lacks x) true e = absurd (never_none (first_of ps) x e)

judged_front : (ps : List Judged) (v : Verdict) → (judged ps v).fault ≡ None → first_of ps ≡ None
judged_front ps v e = front_if ps v (have_types ps) e

typed_if : (ps : List Judged) (v : Verdict) (b : Bool) → b ≡ true → (over_parts b ps v).fault ≡ None → (t : NamedType) × (v ≡ has t) × ((over_parts b ps v).ty ≡ Some t)
typed_if ps v false h e = absurd (cc)
typed_if ps (has t) true h e = (t, refl, refl)
typed_if ps (lacks x) true h e = absurd (never_none (first_of ps) x e)

-- a node has a type where its parts do
judged_typed : (ps : List Judged) (v : Verdict) → have_types ps ≡ true → (judged ps v).fault ≡ None → (t : NamedType) × (v ≡ has t) × ((judged ps v).ty ≡ Some t)
judged_typed ps v h e = typed_if ps v (have_types ps) h e

first_none : (o p : Option TypeFault) → or_else o p ≡ None → (o ≡ None) × (p ≡ None)
first_none None p e = (refl, e)
first_none (Some x) p e = absurd (cc)

-- ---- written types without a fault

record IsTypedForm (before : Declarations) (j : Judged) (n : ℕ) : Type 0 where
  ty : NamedType
  ty_is : j.ty ≡ Some ty
  words_are : words before ty ≡ n

abbrev FormTyped : Declarations → TypeForm → Type 0
FormTyped before ty = (judge_form before ty).fault ≡ None → IsTypedForm before (judge_form before ty) (form_words (struct_words before) ty)

abbrev KnownForm : Declarations → Type 0
KnownForm before = (t : TypeForm) × FormTyped before t

if_has : (b : Bool) (t u : NamedType) (e : TypeFault) → if_so b t e ≡ has u → t ≡ u
if_has true t u e h = cc
if_has false t u e h = absurd (cc)

elements_has : (ds : Declarations) (at n : ℕ) (t u : NamedType) (a w : Bool) → (if a then lacks (NestedArray at) else if w then lacks (TypeTooWide at) else has (array t n)) ≡ has u → array t n ≡ u
elements_has ds at n t u true w h = absurd (cc)
elements_has ds at n t u false true h = absurd (cc)
elements_has ds at n t u false false h = cc

typed-step : (before : Declarations) (y : TypeForm-F (KnownForm before)) → let x = map-TypeForm (KnownForm before) TypeForm (λ e. e.0) y in
    (form_step before (map-TypeForm TypeForm Judged (judge_form before) x)).fault ≡ None → IsTypedForm before (form_step before (map-TypeForm TypeForm Judged (judge_form before) x)) (words_step (struct_words before) (map-TypeForm TypeForm ℕ (form_words (struct_words before)) x))
typed-step before (TypeForm-F.Scalar at s) e = record { ty = scalar s; ty_is = refl; words_are = refl }
typed-step before (TypeForm-F.Named x) e =
    let r = judged_typed [] (if_so (declares_struct before x.name) (struct x.name) (Unknown x.at)) refl e in
    record { ty = r.0; ty_is = r.2; words_are = ap (words before) (sym (if_has (declares_struct before x.name) (struct x.name) r.0 (Unknown x.at) r.1)) }
typed-step before (TypeForm-F.Array at elem n) e =
    let j = judge_form before elem.0 in
    let f = first_none j.fault None (judged_front (j ∷ []) (on_elements before at n (type_of j)) e) in
    let k = elem.1 f.0 in
    let r = judged_typed (j ∷ []) (on_elements before at n (type_of j)) (ap (λ (o : Option NamedType). is_some o && true) k.ty_is) e in
    let g = elements_has before at n (type_of j) r.0 (is_array (type_of j)) (is_too_wide before n (type_of j)) r.1 in
    record {
      ty = r.0;
      ty_is = r.2;
      words_are = ap (words before) (sym g) ∙ ap (λ (o : Option NamedType). n * words before (option_map_or (λ t. t) o bool)) k.ty_is ∙ ap (λ m. n * m) k.words_are;
    }

typed-rolled : (before : Declarations) (x : TypeForm-F TypeForm)
    → ((form_step before (map-TypeForm TypeForm Judged (judge_form before) x)).fault ≡ None → IsTypedForm before (form_step before (map-TypeForm TypeForm Judged (judge_form before) x)) (words_step (struct_words before) (map-TypeForm TypeForm ℕ (form_words (struct_words before)) x)))
    → FormTyped before (roll-TypeForm x)
unfolding judge_form form_words
typed-rolled before x f e =
    let a = fold-roll-TypeForm Judged (form_step before) x in
    let b = fold-roll-TypeForm ℕ (words_step (struct_words before)) x in
    let r = f (ap (λ (j : Judged). j.fault) (sym a) ∙ e) in
    record { ty = r.ty; ty_is = ap (λ (j : Judged). j.ty) a ∙ r.ty_is; words_are = r.words_are ∙ sym b }

form_typed : (before : Declarations) (ty : TypeForm) → FormTyped before ty
form_typed before = ind-TypeForm (FormTyped before) (λ x y is. subst (λ z. FormTyped before (roll-TypeForm z)) is (typed-rolled before (map-TypeForm _ TypeForm (λ e. e.0) y) (typed-step before y)))

-- ---- fields

-- the words of the fields' types
abbrev pub type_words : Declarations → Declarations → List FieldForm → ℕ
type_words ds before [] = 0
type_words ds before (f ∷ fs) = words ds (type_of (judge_form before f.ty)) + type_words ds before fs

fields_typed : (before : Declarations) (fs : List FieldForm) → first_of (judge_fields before fs) ≡ None → have_types (judge_fields before fs) ≡ true
fields_typed before [] e = refl
fields_typed before (f ∷ fs) e =
    let j = judge_form before f.ty in
    let p = first_none j.fault (first_of (judge_fields before fs)) e in
    ap (λ (o : Option NamedType). is_some o && have_types (judge_fields before fs)) (form_typed before f.ty p.0).ty_is ∙ fields_typed before fs p.1

fields_wide : (before : Declarations) (fs : List FieldForm) → first_of (judge_fields before fs) ≡ None → type_words before before fs ≡ struct_width before fs
fields_wide before [] e = refl
fields_wide before (f ∷ fs) e =
    let j = judge_form before f.ty in
    let p = first_none j.fault (first_of (judge_fields before fs)) e in
    let k = form_typed before f.ty p.0 in
    let w : words before (type_of j) ≡ form_words (struct_words before) f.ty = ap (λ (o : Option NamedType). words before (option_map_or (λ t. t) o bool)) k.ty_is ∙ k.words_are in
    ap (λ n. n + type_words before before fs) w ∙ ap (λ n. form_words (struct_words before) f.ty + n) (fields_wide before fs p.1)
    ∙ sym (sum_by-cons (λ n. n) (form_words (struct_words before) f.ty) (map (λ (g : FieldForm). form_words (struct_words before) g.ty) fs))

type_words_on : (before all : Declarations) (fs : List FieldForm) → IsBehind before all → all_kept (map keeps_field fs) ≡ true → type_words all before fs ≡ type_words before before fs
type_words_on before all [] b k = refl
type_words_on before all (f ∷ fs) b k =
    let s = form_sound before f.ty (right_true (keeps_name f.name) (keeps_type f.ty) (left_true (keeps_field f) (all_kept (map keeps_field fs)) k)) in
    ap (λ n. n + type_words all before fs) (words_on before all b (type_of (judge_form before f.ty)) s.ty_is)
    ∙ ap (λ n. words before (type_of (judge_form before f.ty)) + n) (type_words_on before all fs b (right_true (keeps_field f) (all_kept (map keeps_field fs)) k))

-- ---- structs

pub record IsGoodStruct (all : Declarations) (x : List ℕ) (s : Struct) : Type 0 where
  pub least : 1 ≤ length s.fields
  pub most : length s.fields ≤ 64
  pub words_are : type_words all s.before s.fields ≡ struct_words all x
  pub narrow : struct_words all x ≤ 1024

not_wide : (n : ℕ) (x : List ℕ) (t : NamedType) (e : TypeFault) (b : Bool) → nat_lt most_words n ≡ b → (if b then lacks e else has (struct x)) ≡ has t → n ≤ 1024
not_wide n x t e true h g = absurd (cc)
not_wide n x t e false h g = grind (arith, nat_tests, h)

struct_is_good : (v : ℕ) (all before : Declarations) (at : ℕ) (x : NameAt) (fs : List FieldForm) → IsBehind before all → IsBehind (d.Struct at x fs ∷ before) all → keeps_decl v (d.Struct at x fs) ≡ true → (judge_decl all before (d.Struct at x fs)).fault ≡ None
    → IsGoodStruct all x.name (record { fields = fs; before = before })
struct_is_good v all before at x fs b c k e =
    let own : Struct = record { fields = fs; before = before } in
    let verdict = if nat_lt most_words (struct_width before fs) then lacks (TypeTooWide at) else has (struct x.name) in
    let none = judged_front (judge_fields before fs) verdict e in
    let r = judged_typed (judge_fields before fs) verdict (fields_typed before fs none) e in
    let narrow = not_wide (struct_width before fs) x.name r.0 (TypeTooWide at) (nat_lt most_words (struct_width before fs)) refl r.1 in
    let here : struct_in (d.Struct at x fs ∷ before) x.name ≡ Some own = ap (λ b. if b then Some own else struct_in before x.name) (nat_list_eq_equiv.refl x.name) in
    let wide : struct_words all x.name ≡ struct_width before fs = (c.alike x.name (ap is_some here)).words_are ∙ ap (λ b. if b then struct_width before fs else struct_words before x.name) (nat_list_eq_equiv.refl x.name) in
    let within = left_true (between 1 64 (length (map keeps_field fs))) (all_kept (map keeps_field fs)) (right_true (keeps_name x) (kept_from 1 64 (map keeps_field fs)) k) in
    let count = map_count keeps_field fs in
    record {
      least = subst (λ n. 1 ≤ n) count (between_low 1 64 (length (map keeps_field fs)) within);
      most = subst (λ n. n ≤ 64) count (between_high 1 64 (length (map keeps_field fs)) within);
      words_are = type_words_on before all fs b (struct_kept v at x fs k) ∙ fields_wide before fs none ∙ sym wide;
      narrow = subst (λ n. n ≤ 1024) (sym wide) narrow;
    }

pub record AreGoodStructs (all ds : Declarations) : Type 0 where
  pub good : (x : List ℕ) (s : Struct) → struct_in ds x ≡ Some s → IsGoodStruct all x s

good_if : (all ds : Declarations) (y : List ℕ) (x : List ℕ) (own s : Struct) (b : Bool) → bytes_eq y x ≡ b → IsGoodStruct all y own → AreGoodStructs all ds → (if b then Some own else struct_in ds x) ≡ Some s → IsGoodStruct all x s
good_if all ds y x own s true e h g f = let q : own ≡ s = cc in subst (λ z. IsGoodStruct all z s) (list_same y x e) (subst (λ (r : Struct). IsGoodStruct all y r) q h)
good_if all ds y x own s false e h g f = g.good x s f

structs_from : (v : ℕ) (names : List (List ℕ)) → IsDistinct names → (ds : Declarations) (xs : List Decl) → names ≡ struct_names (reversed ds xs) → all_kept (map (keeps_decl v) xs) ≡ true → first_untyped (reversed ds xs) ds xs ≡ None → AreGoodStructs (reversed ds xs) ds
    → AreGoodStructs (reversed ds xs) (reversed ds xs)
structs_from v names n ds [] e k f g = g
structs_from v names n ds (d.Struct at x fs ∷ xs) e k f g =
    let all = reversed ds (d.Struct at x fs ∷ xs) in
    let kept = left_true (keeps_decl v (d.Struct at x fs)) (all_kept (map (keeps_decl v) xs)) k in
    let p = first_none (judge_decl all ds (d.Struct at x fs)).fault (first_untyped all (d.Struct at x fs ∷ ds) xs) f in
    let own = struct_is_good v all ds at x fs (behind names n ds (d.Struct at x fs ∷ xs) e) (behind names n (d.Struct at x fs ∷ ds) xs e) kept p.0 in
    structs_from v names n (d.Struct at x fs ∷ ds) xs e (right_true (keeps_decl v (d.Struct at x fs)) (all_kept (map (keeps_decl v) xs)) k) p.1
    (record { good = λ q s h. good_if all ds x.name q (record { fields = fs; before = ds }) s (bytes_eq x.name q) refl own g h })
structs_from v names n ds (d.Extern at x ty ∷ xs) e k f g =
    let all = reversed ds (d.Extern at x ty ∷ xs) in
    structs_from v names n (d.Extern at x ty ∷ ds) xs e (right_true (keeps_decl v (d.Extern at x ty)) (all_kept (map (keeps_decl v) xs)) k) (first_none (judge_decl all ds (d.Extern at x ty)).fault (first_untyped all (d.Extern at x ty ∷ ds) xs) f).1
    (record { good = λ q s h. g.good q s h })
structs_from v names n ds (d.Stream at x ty init e1 ∷ xs) e k f g =
    let all = reversed ds (d.Stream at x ty init e1 ∷ xs) in
    structs_from v names n (d.Stream at x ty init e1 ∷ ds) xs e (right_true (keeps_decl v (d.Stream at x ty init e1)) (all_kept (map (keeps_decl v) xs)) k) (first_none (judge_decl all ds (d.Stream at x ty init e1)).fault (first_untyped all (d.Stream at x ty init e1 ∷ ds) xs) f).1
    (record { good = λ q s h. g.good q s h })
structs_from v names n ds (d.Def at x ty e1 ∷ xs) e k f g =
    let all = reversed ds (d.Def at x ty e1 ∷ xs) in
    structs_from v names n (d.Def at x ty e1 ∷ ds) xs e (right_true (keeps_decl v (d.Def at x ty e1)) (all_kept (map (keeps_decl v) xs)) k) (first_none (judge_decl all ds (d.Def at x ty e1)).fault (first_untyped all (d.Def at x ty e1 ∷ ds) xs) f).1
    (record { good = λ q s h. g.good q s h })
structs_from v names n ds (d.Trigger at x guard args ∷ xs) e k f g =
    let all = reversed ds (d.Trigger at x guard args ∷ xs) in
    structs_from v names n (d.Trigger at x guard args ∷ ds) xs e (right_true (keeps_decl v (d.Trigger at x guard args)) (all_kept (map (keeps_decl v) xs)) k) (first_none (judge_decl all ds (d.Trigger at x guard args)).fault (first_untyped all (d.Trigger at x guard args ∷ ds) xs) f).1
    (record { good = λ q s h. g.good q s h })
structs_from v names n ds (d.Observer at x e1 ∷ xs) e k f g =
    let all = reversed ds (d.Observer at x e1 ∷ xs) in
    structs_from v names n (d.Observer at x e1 ∷ ds) xs e (right_true (keeps_decl v (d.Observer at x e1)) (all_kept (map (keeps_decl v) xs)) k) (first_none (judge_decl all ds (d.Observer at x e1)).fault (first_untyped all (d.Observer at x e1 ∷ ds) xs) f).1
    (record { good = λ q s h. g.good q s h })

-- In a text without a fault of types each struct has 1 to 64 fields, and no more than 1,024 words.
pub good_structs : (v : ℕ) (names : List (List ℕ)) → IsDistinct names → (xs : List Decl) → names ≡ struct_names (reversed [] xs) → all_kept (map (keeps_decl v) xs) ≡ true → first_untyped (reversed [] xs) [] xs ≡ None → AreGoodStructs (reversed [] xs) (reversed [] xs)
good_structs v names n xs e k f = structs_from v names n [] xs e k f (record { good = λ x s h. absurd (cc) })
