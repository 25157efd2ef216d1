-- The events of a text keep the order: each struct ends once, behind its parts.
use Rattle.std.proofs.Common.{◌≡◌, ◌≤◌, ℕ, Bool, true, false, List, [], ◌∷◌, ◌++◌, map, length, length-append, refl, sym, ap, ◌∙◌, subst, append-nil, append_assoc, arith}
use Rattle.std.specs.Prelude.{◌&&◌, ◌||◌, not, if◌then◌else◌, is_some, bytes_eq, nat_lt, Option, Some, None}
use Rattle.std.specs.List.{list_any}
use Rattle.std.specs.Option.{option_map_or}
use Rattle.std.specs.Cmp.Lexicographic.{nat_list_eq_equiv}
use Rattle.std.proofs.lemmas.List.Concat.{flat_map-cons}
use Rattle.std.proofs.lemmas.List.Folds.{list_any-append}
use Rattle.spec_text.specs.declared.surface.NameAt.{NameAt}
use Rattle.spec_text.specs.declared.surface.FieldForm.{FieldForm}
use Rattle.spec_text.specs.declared.surface.TypeForm.{TypeForm, map-TypeForm, roll-TypeForm}
use Rattle.spec_text.specs.declared.surface.TypeForm.TheOpen.{TypeForm-F}
use Rattle.spec_text.specs.declared.surface.TypeForm.TheFolds.{fold-roll-TypeForm, ind-TypeForm}
use Rattle.spec_text.specs.declared.surface.Decl.{Decl}
use Rattle.spec_text.specs.declared.surface.Decl.TheVariants as d
use Rattle.spec_text.specs.Form.{forms, form_of_decl}
use Rattle.spec_text.specs.Extent.{item_count, item_counts}
use Rattle.spec_text.specs.KeepsTable.{all_kept, keeps_name, keeps_type, keeps_field, keeps_decl}
use Rattle.type_check.specs.declared.fault.TypeFault.TheVariants.{Unknown, TypeTooWide}
use Rattle.type_check.specs.NamedType.{NamedType, scalar, struct, array, bool, same_type, Declarations, Struct, struct_in, declares_struct, most_words}
use Rattle.type_check.specs.Judged.{Verdict, has, lacks, if_so, Judged, have_types, all_types, over_parts, judged, type_of, judge_form, form_step, on_elements}
use Rattle.type_check.specs.Untyped.{reversed, judge_fields, struct_width, judge_decl}
use Rattle.type_check.specs.TypeOrder.{Event, met, ends, closings, events_from, is_met, is_closed, waits}
use Rattle.type_check.specs.Standing.{IsDistinct}
use Rattle.type_check.specs.Table.{struct_names}
use Rattle.type_check.proofs.SameNames.{left_true, right_true}
use Rattle.type_check.proofs.Meeting.{any_last}
use Rattle.type_check.proofs.SoundTypes.{Sound, AllSound, IsBehind, same_refl}
use Rattle.type_check.proofs.SoundForms.{map_count, form_sound}
use Rattle.type_check.proofs.SoundExprs.{IsSoundText}
use Rattle.type_check.proofs.SoundTexts.{struct_kept}
use Rattle.type_check.proofs.SoundDecls.{IsSoundDecl, decl_sound, text_struct}
use Rattle.type_check.proofs.Behind.{behind, new_name}
use Rattle.type_check.proofs.Placing.{or_left, or_right, or_none, among, Ready, AllReady, IsEnd, GoodEvents, good_append}

-- ---- the types of a node

among_append : (t : NamedType) (xs ys : List NamedType) → among t (xs ++ ys) ≡ (among t xs || among t ys)
among_append t xs ys = list_any-append (same_type t) xs ys

own_if : (ps : List Judged) (v : Verdict) (t : NamedType) (b : Bool) → (over_parts b ps v).ty ≡ Some t → among t (over_parts b ps v).types ≡ true
own_if ps v t false e = absurd (cc)
own_if ps (lacks x) t true e = absurd (cc)
own_if ps (has u) t true e =
    let f : t ≡ u = cc in
    among_append t (all_types ps) (u ∷ []) ∙ or_right (among t (all_types ps)) (among t (u ∷ [])) (ap (λ v. same_type t v || false) (sym f) ∙ ap (λ b. b || false) (same_refl t))

-- a node's own type is one of its types
judged_own : (ps : List Judged) (v : Verdict) (t : NamedType) → (judged ps v).ty ≡ Some t → among t (judged ps v).types ≡ true
judged_own ps v t e = own_if ps v t (have_types ps) e

part_if : (ps : List Judged) (v : Verdict) (t : NamedType) (b : Bool) → among t (all_types ps) ≡ true → among t (over_parts b ps v).types ≡ true
part_if ps v t false h = h
part_if ps (lacks x) t true h = h
part_if ps (has u) t true h = among_append t (all_types ps) (u ∷ []) ∙ or_left (among t (all_types ps)) (among t (u ∷ [])) h

judged_part : (ps : List Judged) (v : Verdict) (t : NamedType) → among t (all_types ps) ≡ true → among t (judged ps v).types ≡ true
judged_part ps v t h = part_if ps v t (have_types ps) h

abbrev FormOwn : Declarations → TypeForm → Type 0
FormOwn before ty = (t : NamedType) → (judge_form before ty).ty ≡ Some t → among t (judge_form before ty).types ≡ true

form-own-step : (before : Declarations) (y : TypeForm-F Judged) (t : NamedType) → (form_step before y).ty ≡ Some t → among t (form_step before y).types ≡ true
form-own-step before (TypeForm-F.Scalar at s) t e = judged_own [] (has (scalar s)) t e
form-own-step before (TypeForm-F.Named x) t e = judged_own [] (if_so (declares_struct before x.name) (struct x.name) (Unknown x.at)) t e
form-own-step before (TypeForm-F.Array at elem n) t e = judged_own (elem ∷ []) (on_elements before at n (type_of elem)) t e

form-own-rolled : (before : Declarations) (x : TypeForm-F TypeForm) → FormOwn before (roll-TypeForm x)
unfolding judge_form
form-own-rolled before x t e =
    let f = fold-roll-TypeForm Judged (form_step before) x in
    ap (λ (j : Judged). among t j.types) f ∙ form-own-step before (map-TypeForm TypeForm Judged (judge_form before) x) t (sym (ap (λ (j : Judged). j.ty) f) ∙ e)

form_own : (before : Declarations) (ty : TypeForm) → FormOwn before ty
form_own before = ind-TypeForm (FormOwn before) (λ x y is. subst (λ z. FormOwn before (roll-TypeForm z)) is (form-own-rolled before (map-TypeForm _ TypeForm (λ e. e.0) y)))

-- ---- fields whose types stand

-- what has come behind some declarations
record HasCome (es : List Event) (before : Declarations) (ts : List NamedType) : Type 0 where
  closed : (y : List ℕ) → declares_struct before y ≡ true → list_any (is_closed y) es ≡ true
  come : (t : NamedType) → among t ts ≡ true → list_any (is_met t) es ≡ true

no_wait : (es : List Event) (before : Declarations) (ts : List NamedType) (t : NamedType) (n : ℕ) → HasCome es before ts → Sound before (array t n) → waits es t ≡ false
no_wait es before ts (scalar s) n h s_ = refl
no_wait es before ts (struct x) n h s_ = ap not (h.closed x s_.1)
no_wait es before ts (array u m) n h s_ = absurd (let e = s_.0 in cc)

ready_if : (es : List Event) (before : Declarations) (ts : List NamedType) (o : Option NamedType) → HasCome es before ts → Sound before (option_map_or (λ t. t) o bool) → ((t : NamedType) → o ≡ Some t → among t ts ≡ true) → Ready es (option_map_or (λ t. t) o bool)
ready_if es before ts None h s f = tt
ready_if es before ts (Some (scalar c)) h s f = tt
ready_if es before ts (Some (struct x)) h s f = h.closed x s
ready_if es before ts (Some (array t n)) h s f = both (list_any (is_met (array t n)) es) (waits es t) (h.come (array t n) (f (array t n) refl)) (no_wait es before ts t n h s)
  where
    both : (a w : Bool) → a ≡ true → w ≡ false → (a && not w) ≡ true
    both true false p q = refl
    both true true p q = absurd (cc)
    both false w p q = absurd (cc)

all_ready : (es : List Event) (before : Declarations) (ts : List NamedType) (fs : List FieldForm) → HasCome es before ts → all_kept (map keeps_field fs) ≡ true → ((t : NamedType) → among t (all_types (judge_fields before fs)) ≡ true → among t ts ≡ true) → AllReady es before fs
all_ready es before ts [] h k f = tt
all_ready es before ts (g ∷ fs) h k f =
    let j = judge_form before g.ty in
    let split = λ (t : NamedType). ap (among t) (flat_map-cons (λ (p : Judged). p.types) j (judge_fields before fs)) ∙ among_append t j.types (all_types (judge_fields before fs)) in (
      ready_if es before ts j.ty h (form_sound before g.ty (right_true (keeps_name g.name) (keeps_type g.ty) (left_true (keeps_field g) (all_kept (map keeps_field fs)) k))).ty_is
          (λ t e. f t (split t ∙ or_left (among t j.types) (among t (all_types (judge_fields before fs))) (form_own before g.ty t e))),
      all_ready es before ts fs h (right_true (keeps_field g) (all_kept (map keeps_field fs)) k) (λ t e. f t (split t ∙ or_right (among t j.types) (among t (all_types (judge_fields before fs))) e)),
    )

-- ---- types that are met

types_good : (all : Declarations) (es : List Event) (ts : List NamedType) → AllSound all ts → GoodEvents all es (map met ts)
types_good all es [] h = tt
types_good all es (t ∷ ts) h = (h.0, types_good all (es ++ met t ∷ []) ts h.1)

met_none : (y : List ℕ) (ts : List NamedType) → list_any (is_closed y) (map met ts) ≡ false
met_none y [] = refl
met_none y (t ∷ ts) = met_none y ts

met_among : (t : NamedType) (ts : List NamedType) → list_any (is_met t) (map met ts) ≡ among t ts
met_among t [] = refl
met_among t (u ∷ ts) = ap (λ b. same_type t u || b) (met_among t ts)

-- the structs that have ended are those that are declared
record HasEnded (es : List Event) (before : Declarations) : Type 0 where
  ended : (y : List ℕ) → list_any (is_closed y) es ≡ declares_struct before y

ended_met : (es : List Event) (before : Declarations) (ts : List NamedType) → HasEnded es before → HasEnded (es ++ map met ts) before
ended_met es before ts h = record {
  ended = λ y. list_any-append (is_closed y) es (map met ts) ∙ ap (λ b. list_any (is_closed y) es || b) (met_none y ts) ∙ or_none (list_any (is_closed y) es) ∙ h.ended y;
}

-- ---- a declaration

-- what is told of a declaration's events
record IsGoodDecl (all before : Declarations) (es : List Event) (x : Decl) : Type 0 where
  events : GoodEvents all es (map met (judge_decl all before x).types ++ closings x)
  ended : HasEnded (es ++ (map met (judge_decl all before x).types ++ closings x)) (x ∷ before)
  few : length (map met (judge_decl all before x).types ++ closings x) ≤ item_count (form_of_decl x)

few_events : (all before : Declarations) (x : Decl) → IsSoundDecl all (judge_decl all before x) x → length (map met (judge_decl all before x).types ++ closings x) ≤ item_count (form_of_decl x)
few_events all before x s = let ts = (judge_decl all before x).types in let e = length-append (map met ts) (closings x) in let f = map_count met ts in omega (arith, e, f, s.few)

plain_good : (all before : Declarations) (es : List Event) (x : Decl) → closings x ≡ [] → ((y : List ℕ) → declares_struct (x ∷ before) y ≡ declares_struct before y) → IsSoundDecl all (judge_decl all before x) x → HasEnded es before → IsGoodDecl all before es x
plain_good all before es x n same s h =
    let ts = (judge_decl all before x).types in
    let e : map met ts ++ closings x ≡ map met ts = ap (λ l. map met ts ++ l) n ∙ append-nil (map met ts) in
    record {
      events = subst (GoodEvents all es) (sym e) (types_good all es ts s.types_are);
      ended = record { ended = λ y. ap (λ l. list_any (is_closed y) (es ++ l)) e ∙ (ended_met es before ts h).ended y ∙ sym (same y) };
      few = few_events all before x s;
    }

ended_if : (before : Declarations) (y : List ℕ) (own : Struct) (c b : Bool) → c ≡ declares_struct before y → (c || (b || false)) ≡ is_some (if b then Some own else struct_in before y)
ended_if before y own true true e = refl
ended_if before y own false true e = refl
ended_if before y own true false e = e
ended_if before y own false false e = e

struct_good : (v : ℕ) (all before : Declarations) (es : List Event) (at : ℕ) (x : NameAt) (fs : List FieldForm) → struct_in before x.name ≡ None → IsBehind (d.Struct at x fs ∷ before) all → keeps_decl v (d.Struct at x fs) ≡ true
    → IsSoundDecl all (judge_decl all before (d.Struct at x fs)) (d.Struct at x fs) → HasEnded es before → IsGoodDecl all before es (d.Struct at x fs)
struct_good v all before es at x fs n c k s h =
    let j = judge_decl all before (d.Struct at x fs) in
    let verdict = if nat_lt most_words (struct_width before fs) then lacks (TypeTooWide at) else has (struct x.name) in
    let es2 = es ++ map met j.types in
    let h2 = ended_met es before j.types h in
    let come : HasCome es2 before j.types = record {
      closed = λ y e. h2.ended y ∙ e;
      come = λ t e. list_any-append (is_met t) es (map met j.types) ∙ or_right (list_any (is_met t) es) (list_any (is_met t) (map met j.types)) (met_among t j.types ∙ e);
    } in
    let own : Struct = record { fields = fs; before = before } in
    let ending : IsEnd all es2 x.name = record {
      open_yet = h2.ended x.name ∙ ap is_some n;
      found = own;
      is = text_struct all before at x fs c;
      parts = all_ready es2 before j.types fs come (struct_kept v at x fs k) (λ t e. judged_part (judge_fields before fs) verdict t e);
    } in
    record {
      events = good_append all es (map met j.types) (ends x.name ∷ []) (types_good all es j.types s.types_are) (ending, tt);
      ended = record {
        ended = λ y. ap (list_any (is_closed y)) (sym (append_assoc es (map met j.types) (ends x.name ∷ []))) ∙ any_last (is_closed y) es2 (ends x.name)
            ∙ ap (λ b. list_any (is_closed y) es2 || (b || false)) (nat_list_eq_equiv.symm y x.name)
            ∙ ended_if before y own (list_any (is_closed y) es2) (bytes_eq x.name y) (h2.ended y);
      };
      few = few_events all before (d.Struct at x fs) s;
    }

good_decl : (v : ℕ) (all before : Declarations) (es : List Event) (x : Decl) → IsBehind before all → IsBehind (x ∷ before) all → ((at : ℕ) (y : NameAt) (fs : List FieldForm) → x ≡ d.Struct at y fs → struct_in before y.name ≡ None) → IsSoundText all → keeps_decl v x ≡ true
    → HasEnded es before → IsGoodDecl all before es x
good_decl v all before es (d.Struct at x fs) b c n g k h = struct_good v all before es at x fs (n at x fs refl) c k (decl_sound v all before (d.Struct at x fs) b c g k) h
good_decl v all before es (d.Extern at x ty) b c n g k h = plain_good all before es (d.Extern at x ty) refl (λ y. refl) (decl_sound v all before (d.Extern at x ty) b c g k) h
good_decl v all before es (d.Stream at x ty init e) b c n g k h = plain_good all before es (d.Stream at x ty init e) refl (λ y. refl) (decl_sound v all before (d.Stream at x ty init e) b c g k) h
good_decl v all before es (d.Def at x ty e) b c n g k h = plain_good all before es (d.Def at x ty e) refl (λ y. refl) (decl_sound v all before (d.Def at x ty e) b c g k) h
good_decl v all before es (d.Trigger at x guard args) b c n g k h = plain_good all before es (d.Trigger at x guard args) refl (λ y. refl) (decl_sound v all before (d.Trigger at x guard args) b c g k) h
good_decl v all before es (d.Observer at x e) b c n g k h = plain_good all before es (d.Observer at x e) refl (λ y. refl) (decl_sound v all before (d.Observer at x e) b c g k) h

-- ---- the whole text

-- what is told of a text's events
pub record AreGoodEvents (all : Declarations) (es more : List Event) (n : ℕ) : Type 0 where
  pub good : GoodEvents all es more
  pub few : length more ≤ n

events_good : (v : ℕ) (names : List (List ℕ)) → IsDistinct names → (before : Declarations) (xs : List Decl) → names ≡ struct_names (reversed before xs) → all_kept (map (keeps_decl v) xs) ≡ true → IsSoundText (reversed before xs)
    → (es : List Event) → HasEnded es before → AreGoodEvents (reversed before xs) es (events_from (reversed before xs) before xs) (item_counts (forms (map form_of_decl xs)))
events_good v names n before [] e k g es h = record { good = tt; few = omega arith }
events_good v names n before (x ∷ xs) e k g es h =
    let all = reversed before (x ∷ xs) in
    let own = map met (judge_decl all before x).types ++ closings x in
    let rest = events_from all (x ∷ before) xs in
    let fresh : (at : ℕ) (y : NameAt) (fs : List FieldForm) → x ≡ d.Struct at y fs → struct_in before y.name ≡ None =
    λ at y fs q. new_name names n before at y fs xs (subst (λ (z : Decl). names ≡ struct_names (reversed before (z ∷ xs))) q e) in
    let one = good_decl v all before es x (behind names n before (x ∷ xs) e) (behind names n (x ∷ before) xs e) fresh g (left_true (keeps_decl v x) (all_kept (map (keeps_decl v) xs)) k) h in
    let more = events_good v names n (x ∷ before) xs e (right_true (keeps_decl v x) (all_kept (map (keeps_decl v) xs)) k) g (es ++ own) one.ended in
    record {
      good = good_append all es own rest one.events more.good;
      few = let l = length-append own rest in omega (arith, l, one.few, more.few);
    }

pub text_events : (v : ℕ) (names : List (List ℕ)) → IsDistinct names → (xs : List Decl) → names ≡ struct_names (reversed [] xs) → all_kept (map (keeps_decl v) xs) ≡ true → IsSoundText (reversed [] xs)
    → AreGoodEvents (reversed [] xs) [] (events_from (reversed [] xs) [] xs) (item_counts (forms (map form_of_decl xs)))
text_events v names n xs e k g = events_good v names n [] xs e k g [] (record { ended = λ y. refl })
