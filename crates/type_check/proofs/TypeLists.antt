-- The types of a text without a fault are a type list, and each may be added behind those before it.
use Rattle.std.proofs.Common.{◌≡◌, ◌≤◌, ℕ, suc, Bool, true, false, List, [], ◌∷◌, ◌++◌, map, length, refl, sym, ap, ◌∙◌, subst, arith}
use Rattle.std.specs.Prelude.{◌==◌, ◌&&◌, ◌||◌, not, if◌then◌else◌, Option, Some, None}
use Rattle.std.specs.List.{list_any}
use Rattle.std.specs.Option.{option_map}
use Rattle.std.proofs.lemmas.List.Folds.{list_any-append}
use Rattle.sm_io.specs.Words.{is_name}
use Rattle.stream_types.specs.TypeList.{IsTypeList}
use Rattle.spec_text.specs.declared.surface.Surface.{Surface}
use Rattle.spec_text.specs.Form.{form_of}
use Rattle.spec_text.specs.Extent.{item_count}
use Rattle.spec_text.specs.KeepsTable.{KeepsTable, keeps_table, keeps_decl, all_kept}
use Rattle.type_check.specs.declared.fault.TypeFault.{TypeFault}
use Rattle.type_check.specs.declared.fault.TypeFault.TheVariants.{Redeclared}
use Rattle.type_check.specs.NamedType.{NamedType, scalar, struct, array, same_type, Declarations}
use Rattle.type_check.specs.Names.{name_fault}
use Rattle.type_check.specs.Judged.{or_else}
use Rattle.type_check.specs.Untyped.{untyped, all_of, first_untyped}
use Rattle.type_check.specs.TypeOrder.{Event, met, ends, is_met, is_closed, waits, events, listed, type_order, types_of_text}
use Rattle.type_check.specs.Table.{struct_names}
use Rattle.type_check.specs.Checked.{type_fault}
use Rattle.type_check.specs.NextEntries.{IsListable}
use Rattle.type_check.proofs.SameNames.{left_true, right_true}
use Rattle.type_check.proofs.Meaning.{same_true}
use Rattle.type_check.proofs.Distinct.{distinct_structs, distinct_fields}
use Rattle.type_check.proofs.SoundTypes.{same_refl}
use Rattle.type_check.proofs.SoundForms.{map_count}
use Rattle.type_check.proofs.SoundTexts.{sound_text}
use Rattle.type_check.proofs.TextEvents.{text_events}
use Rattle.type_check.proofs.GoodStructs.{good_structs}
use Rattle.type_check.proofs.Placing.{or_right, among, placed, MayStand, Steps, IsPlacing, placing}
use Rattle.type_check.proofs.ListedTypes.{AreKnown}
use Rattle.type_check.proofs.ListedMore.{IsWhole, whole_order}

-- ---- a list of different types is no longer than one that has them all

abbrev without : NamedType → List NamedType → List NamedType
without t [] = []
without t (u ∷ us) = if same_type t u then us else u ∷ without t us

count_if : (t u : NamedType) (us : List NamedType) (b : Bool) → same_type t u ≡ b → (same_type t u || among t us) ≡ true → (among t us ≡ true → suc (length (without t us)) ≡ length us) → suc (length (if same_type t u then us else u ∷ without t us)) ≡ suc (length us)
count_if t u us true e h f = ap (λ b. suc (length (if b then us else u ∷ without t us))) e
count_if t u us false e h f = ap (λ b. suc (length (if b then us else u ∷ without t us))) e ∙ ap suc (f (sym (ap (λ b. b || among t us) e) ∙ h))

without_count : (t : NamedType) (us : List NamedType) → among t us ≡ true → suc (length (without t us)) ≡ length us
without_count t [] h = absurd (cc)
without_count t (u ∷ us) h = count_if t u us (same_type t u) refl h (λ g. without_count t us g)

without_if : (t v u : NamedType) (us : List NamedType) (b : Bool) → same_type t v ≡ b → same_type u t ≡ false → (same_type u v || among u us) ≡ true → (among u us ≡ true → among u (without t us) ≡ true)
    → among u (if b then us else v ∷ without t us) ≡ true
without_if t v u us true e n h f =
    let q : same_type u v ≡ false = subst (λ w. same_type u w ≡ false) (same_true t v e) n in
    sym (ap (λ b. b || among u us) q) ∙ h
without_if t v u us false e n h f = by (same_type u v) refl
  where
    by : (b : Bool) → same_type u v ≡ b → (same_type u v || among u (without t us)) ≡ true
    by true g = ap (λ b. b || among u (without t us)) g
    by false g = ap (λ b. b || among u (without t us)) g ∙ f (sym (ap (λ b. b || among u us) g) ∙ h)

without_among : (t u : NamedType) (us : List NamedType) → same_type u t ≡ false → among u us ≡ true → among u (without t us) ≡ true
without_among t u [] n h = absurd (cc)
without_among t u (v ∷ us) n h = without_if t v u us (same_type t v) refl n h (λ g. without_among t u us n g)

-- what may stand is new
fresh_of : (all : Declarations) (before : List NamedType) (t : NamedType) → MayStand all before t → among t before ≡ false
fresh_of all before (scalar s) m = elim m [ ]
fresh_of all before (struct x) m = m.fresh
fresh_of all before (array t n) m = m.fresh

apart_if : (all : Declarations) (before : List NamedType) (t u : NamedType) (b : Bool) → same_type t u ≡ b → among t before ≡ true → among u before ≡ false → same_type t u ≡ false
apart_if all before t u true e h n = absurd (let f : among u before ≡ true = subst (λ v. among v before ≡ true) (same_true t u e) h in let no : true ≡ false = sym f ∙ n in cc)
apart_if all before t u false e h n = e

-- none of the types comes again
not_again : (all : Declarations) (before ts : List NamedType) (t : NamedType) → Steps all before ts → among t before ≡ true → among t ts ≡ false
not_again all before [] t s h = refl
not_again all before (u ∷ ts) t s h =
    ap (λ b. b || among t ts) (apart_if all before t u (same_type t u) refl h (fresh_of all before u s.0))
    ∙ not_again all (before ++ u ∷ []) ts t s.1 (list_any-append (same_type t) before (u ∷ []) ∙ ap (λ b. b || among t (u ∷ [])) h)

last_among : (t : NamedType) (before : List NamedType) → among t (before ++ t ∷ []) ≡ true
last_among t before = list_any-append (same_type t) before (t ∷ []) ∙ or_right (among t before) (among t (t ∷ [])) (ap (λ b. b || false) (same_refl t))

other_type : (t u : NamedType) (ts : List NamedType) (b : Bool) → same_type u t ≡ b → among t ts ≡ false → among u ts ≡ true → same_type u t ≡ false
other_type t u ts true e n h = absurd (let f : among t ts ≡ true = subst (λ v. among v ts ≡ true) (same_true u t e) h in let no : true ≡ false = sym f ∙ n in cc)
other_type t u ts false e n h = e

pub no_more : (all : Declarations) (before ts us : List NamedType) → Steps all before ts → ((t : NamedType) → among t ts ≡ true → among t us ≡ true) → length ts ≤ length us
no_more all before [] us s f = omega arith
no_more all before (t ∷ ts) us s f =
    let own : among t us ≡ true = f t (ap (λ b. b || among t ts) (same_refl t)) in
    let away = not_again all (before ++ t ∷ []) ts t s.1 (last_among t before) in
    let rest = no_more all (before ++ t ∷ []) ts (without t us) s.1 (λ u h. without_among t u us (other_type t u ts (same_type u t) refl away h) (f u (or_right (same_type u t) (among u ts) h))) in
    let count = without_count t us own in
    omega (arith, rest, count)

-- ---- as many types as events, at the most

of_event : Event → NamedType
of_event (met t) = t
of_event (ends x) = struct x

event_if : (p : Event → Bool) (t : NamedType) (e : Event) (es : List Event) (b : Bool) → p e ≡ b → (p e ≡ true → same_type t (of_event e) ≡ true) → (list_any p es ≡ true → among t (map of_event es) ≡ true) → (p e || list_any p es) ≡ true → (same_type t (of_event e) || among t (map of_event es)) ≡ true
event_if p t e es true g f k h = ap (λ b. b || among t (map of_event es)) (f g)
event_if p t e es false g f k h = or_right (same_type t (of_event e)) (among t (map of_event es)) (k (sym (ap (λ b. b || list_any p es) g) ∙ h))

event_among : (p : Event → Bool) (t : NamedType) (es : List Event) → ((e : Event) → p e ≡ true → same_type t (of_event e) ≡ true) → list_any p es ≡ true → among t (map of_event es) ≡ true
event_among p t [] f h = absurd (cc)
event_among p t (e ∷ es) f h = event_if p t e es (p e) refl (f e) (λ g. event_among p t es f g) h

placed_among : (es : List Event) (t : NamedType) → placed es t ≡ true → among t (map of_event es) ≡ true
unfolding of_event
placed_among es (scalar s) h = absurd (cc)
placed_among es (struct x) h = event_among (is_closed x) (struct x) es closes h
  where
    closes : (e : Event) → is_closed x e ≡ true → same_type (struct x) (of_event e) ≡ true
    closes (met t) g = absurd (cc)
    closes (ends y) g = g
placed_among es (array t n) h = event_among (is_met (array t n)) (array t n) es meets (left_true (list_any (is_met (array t n)) es) (not (waits es t)) h)
  where
    meets : (e : Event) → is_met (array t n) e ≡ true → same_type (array t n) (of_event e) ≡ true
    meets (met u) g = g
    meets (ends y) g = absurd (cc)

few_types : (all : Declarations) (es : List Event) → IsPlacing all es → length (listed [] es) ≤ length es
few_types all es p = subst (λ n. length (listed [] es) ≤ n) (map_count of_event es) (no_more all [] (listed [] es) (map of_event es) p.steps (λ t h. placed_among es t (sym (p.among_are t) ∙ h)))

-- ---- the text

no_fault : (o : Option ℕ) (u : Option TypeFault) → or_else (option_map (λ at. Redeclared at) o) u ≡ None → (o ≡ None) × (u ≡ None)
no_fault None u e = (refl, e)
no_fault (Some at) u e = absurd (cc)

kept_decls : (s : Surface) → KeepsTable s → all_kept (map (keeps_decl s.version) s.decls) ≡ true
unfolding keeps_table
kept_decls s k = right_true ((s.version == 1 || s.version == 2) && is_name s.name) (all_kept (map (keeps_decl s.version) s.decls)) k

untyped_none : (s : Surface) → untyped s ≡ None → first_untyped (all_of s) [] s.decls ≡ None
unfolding untyped
untyped_none s e = e

whole : (s : Surface) → KeepsTable s → item_count (form_of s) ≤ 1048576 → type_fault s ≡ None → IsWhole (all_of s) (listed [] (events s))
whole s k few f =
    let all = all_of s in
    let p = no_fault (name_fault s) (untyped s) f in
    let kept = kept_decls s k in
    let names = distinct_structs s p.0 in
    let g = text_events s.version (struct_names all) names s.decls refl kept (sound_text s.version (struct_names all) names s.decls refl kept) in
    let placings = placing all (events s) g.good in
    let known : AreKnown all = record {
      good = good_structs s.version (struct_names all) names s.decls refl kept (untyped_none s p.1);
      apart = λ x t e. distinct_fields s p.0 x t e;
    } in
    let count = few_types all (events s) placings in
    whole_order all (listed [] (events s)) known placings.steps (omega (arith, count, g.few, few))

-- In a text without a fault each type of its order may be added.
pub listable : (s : Surface) → KeepsTable s → item_count (form_of s) ≤ 1048576 → type_fault s ≡ None → IsListable (all_of s) (type_order s)
unfolding type_order
listable s k few f = (whole s k few f).listable

-- The types of a text without a fault are a type list.
pub types_are_a_list : (s : Surface) → KeepsTable s → item_count (form_of s) ≤ 1048576 → type_fault s ≡ None → IsTypeList (types_of_text s)
unfolding type_order
types_are_a_list s k few f = (whole s k few f).types
