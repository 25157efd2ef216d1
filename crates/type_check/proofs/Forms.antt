-- Written types.
use Rattle.std.proofs.Common.{◌≡◌, ℕ, ◌*◌, Bool, true, false, nat_lt, List, [], ◌∷◌, ◌++◌, refl, sym, ap, ◌∙◌, subst, append-nil}
use Rattle.std.specs.Prelude.{◌&&◌, ◌||◌, if◌then◌else◌, is_some, slice_get, Option, Some, None, Result, Ok, Err}
use Rattle.std.specs.List.{list_any}
use Rattle.std.specs.Option.{option_map, option_map_or}
use Rattle.std.proofs.lemmas.List.Concat.{flat_map-cons}
use Rattle.std.proofs.lemmas.List.Folds.{list_any-append}
use Rattle.stream_types.specs.declared.scalar.Scalar.{Scalar}
use Rattle.spec_text.specs.declared.surface.NameAt.{NameAt}
use Rattle.type_check.specs.declared.fault.TypeFault.{TypeFault}
use Rattle.type_check.specs.declared.fault.TypeFault.TheVariants.{Unknown, NestedArray, TypeTooWide}
use Rattle.type_check.specs.declared.known.Known.{Known}
use Rattle.type_check.specs.declared.known.Known.TheVariants as known
use Rattle.type_check.specs.declared.known.Element.TheVariants as element
use Rattle.type_check.specs.declared.structs.Struct.{Struct as CodeStruct}
use Rattle.type_check.specs.NamedType.{NamedType, scalar, struct, array, bool, is_array, Declarations, declares_struct, struct_in, words}
use Rattle.type_check.specs.Judged.{Verdict, has, lacks, Judged, or_else, have_types, all_types, over_parts, judged, type_of, if_so, on_elements}
use Rattle.type_check.specs.Standing.{Means, IsVerdict, is_type, is_fault, HasWords, IsWritten, GivesForm, IsStructAt, capped}
use Rattle.type_check.proofs.Meaning.{some_struct}

one_word : (before : Declarations) (s : Scalar) (t : NamedType) → Some (scalar s) ≡ Some t → 1 ≡ capped (words before t)
one_word before s t e = let f : scalar s ≡ t = cc in ap (λ u. capped (words before u)) f

pub scalar_form : (names : List (List ℕ)) (all : List CodeStruct) (before : Declarations) (s : Scalar) → GivesForm names all before (judged [] (has (scalar s))) (Ok (known.Element (element.Scalar s)))
scalar_form names all before s = (
  record { faultless = refl; ty = scalar s; ty_is = refl; means = record { is = refl }; inner = []; types_are = refl; plain = refl },
  λ t e. one_word before s t e,
)

some_is : (s t : NamedType) → Some s ≡ Some t → s ≡ t
some_is s t e = cc

pub named_form : (names : List (List ℕ)) (all : List CodeStruct) (before : Declarations) (x : NameAt) (i : ℕ) → IsStructAt names before all x.name i → GivesForm names all before (judged [] (if_so (declares_struct before x.name) (struct x.name) (Unknown x.at))) (Ok (known.Element (element.Struct i)))
named_form names all before x i h =
    subst (λ (b : Bool). GivesForm names all before (judged [] (if_so b (struct x.name) (Unknown x.at))) (Ok (known.Element (element.Struct i)))) (sym (ap is_some h.is)) (
      record { faultless = refl; ty = struct x.name; ty_is = refl; means = record { is = ap (option_map struct) h.name_is }; inner = []; types_are = refl; plain = refl },
      λ t e. ap (λ (o : Option CodeStruct). option_map_or (λ (s : CodeStruct). s.words) o 0) h.kept_is ∙ h.words ∙ ap (λ u. capped (words before u)) (some_is (struct x.name) t e),
    )

pub named_none : (names : List (List ℕ)) (all : List CodeStruct) (before : Declarations) (x : NameAt) → struct_in before x.name ≡ None → GivesForm names all before (judged [] (if_so (declares_struct before x.name) (struct x.name) (Unknown x.at))) (Err (Unknown x.at))
named_none names all before x e =
    subst (λ (b : Bool). GivesForm names all before (judged [] (if_so b (struct x.name) (Unknown x.at))) (Err (Unknown x.at))) (sym (ap is_some e)) (refl, refl)

-- ---- arrays

record IsArrayOf (u t : NamedType) (n : ℕ) : Type 0 where
  pub plain : is_array u ≡ false
  pub is : t ≡ array u n

has_is : (s t : NamedType) → has s ≡ has t → t ≡ s
has_is s t e = cc

array_if : (at n : ℕ) (u t : NamedType) (a w : Bool) → is_array u ≡ a → (if a then lacks (NestedArray at) else if w then lacks (TypeTooWide at) else has (array u n)) ≡ has t → IsArrayOf u t n
array_if at n u t true w f e = absurd (cc)
array_if at n u t false true f e = absurd (cc)
array_if at n u t false false f e = record { plain = f; is = has_is (array u n) t e }

array_of : (before : Declarations) (at n : ℕ) (u t : NamedType) → on_elements before at n u ≡ has t → IsArrayOf u t n
array_of before at n u t e = array_if at n u t (is_array u) (nat_lt 1024 (n * words before u)) refl e

array_words : (names : List (List ℕ)) (all : List CodeStruct) (before : Declarations) (k : Known) (u : NamedType) (n : ℕ) (t : NamedType) → Means names k (array u n) → HasWords all k before t
array_words names all before (known.Element (element.Scalar s)) u n t m = absurd (let q = m.is in cc)
array_words names all before (known.Element (element.Struct i)) u n t m = let p = some_struct (slice_get names i) (array u n) m.is in absurd (let q = p.2 in cc)
array_words names all before (known.Array e l) u n t m = tt

plain_more : (us : List NamedType) (t : NamedType) → list_any is_array us ≡ false → is_array t ≡ false → list_any is_array (us ++ t ∷ []) ≡ false
plain_more us t p q = list_any-append is_array us (t ∷ []) ∙ ap (λ b. b || (is_array t || false)) p ∙ ap (λ b. b || false) q

elem_have : (je : Judged) (t : NamedType) → je.ty ≡ Some t → have_types (je ∷ []) ≡ true
elem_have je t e = ap (λ (o : Option NamedType). is_some o && true) e

one_types : (je : Judged) → all_types (je ∷ []) ≡ je.types
one_types je = flat_map-cons (λ (p : Judged). p.types) je [] ∙ append-nil je.types

array_by : (names : List (List ℕ)) (all : List CodeStruct) (before : Declarations) (at n : ℕ) (je : Judged) (k : Known) (w : IsWritten names je k) (v : Verdict) (r : Result Known TypeFault) → on_elements before at n w.ty ≡ v → IsVerdict names v r → GivesForm names all before (over_parts true (je ∷ []) v) r
array_by names all before at n je k w (has t) (Ok l) e (is_type m) =
    let a = array_of before at n w.ty t e in (
      record {
        faultless = ap (λ o. or_else o None) w.faultless;
        ty = t;
        ty_is = refl;
        means = m;
        inner = all_types (je ∷ []);
        types_are = refl;
        plain = ap (list_any is_array) (one_types je ∙ w.types_are) ∙ plain_more w.inner w.ty w.plain a.plain;
      },
      λ u f. array_words names all before l w.ty n u (subst (λ x. Means names l x) a.is m),
    )
array_by names all before at n je k w (has t) (Err e) f h = elim h [ ]
array_by names all before at n je k w (lacks x) (Ok l) f h = elim h [ ]
array_by names all before at n je k w (lacks x) (Err e) f is_fault = (ap (λ o. or_else (or_else o None) (Some e)) w.faultless, refl)

pub array_form : (names : List (List ℕ)) (all : List CodeStruct) (before : Declarations) (at n : ℕ) (je : Judged) (k : Known) (w : IsWritten names je k) (r : Result Known TypeFault) → IsVerdict names (on_elements before at n w.ty) r → GivesForm names all before (judged (je ∷ []) (on_elements before at n (type_of je))) r
array_form names all before at n je k w r h =
    let e : type_of je ≡ w.ty = ap (λ (o : Option NamedType). option_map_or (λ t. t) o bool) w.ty_is in
    subst (λ (u : NamedType). GivesForm names all before (judged (je ∷ []) (on_elements before at n u)) r) (sym e)
    (subst (λ (b : Bool). GivesForm names all before (over_parts b (je ∷ []) (on_elements before at n w.ty)) r) (sym (elem_have je w.ty w.ty_is))
    (array_by names all before at n je k w (on_elements before at n w.ty) r refl h))

pub array_none : (names : List (List ℕ)) (all : List CodeStruct) (before : Declarations) (je : Judged) (v : Verdict) (e : TypeFault) → GivesForm names all before je (Err e) → GivesForm names all before (judged (je ∷ []) v) (Err e)
array_none names all before je v e h =
    let f : have_types (je ∷ []) ≡ false = ap (λ (o : Option NamedType). is_some o && true) h.1 in
    subst (λ (b : Bool). GivesForm names all before (over_parts b (je ∷ []) v) (Err e)) (sym f) (ap (λ o. or_else o None) h.0, refl)
