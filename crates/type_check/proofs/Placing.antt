-- Which types stand in the list after some events: each comes once, behind its parts.
use Rattle.std.proofs.Common.{◌≡◌, ℕ, Bool, true, false, List, [], ◌∷◌, ◌++◌, refl, sym, ap, ◌∙◌, subst, append-nil, append_assoc}
use Rattle.std.specs.Prelude.{◌&&◌, ◌||◌, not, if◌then◌else◌, bytes_eq, Some}
use Rattle.std.specs.List.{list_any}
use Rattle.std.specs.Cmp.Lexicographic.{nat_list_eq_equiv}
use Rattle.std.proofs.lemmas.List.Folds.{list_any-append}
use Rattle.spec_text.specs.declared.surface.FieldForm.{FieldForm}
use Rattle.type_check.specs.NamedType.{NamedType, scalar, struct, array, same_type, Declarations, Struct, struct_in}
use Rattle.type_check.specs.Judged.{judge_form, type_of}
use Rattle.type_check.specs.TypeOrder.{Event, met, ends, is_met, is_closed, is_array_of, waits, waiting, added, listed}
use Rattle.type_check.proofs.SameNames.{list_same}
use Rattle.type_check.proofs.Meaning.{same_true}
use Rattle.type_check.proofs.Meeting.{listed_last, any_last}
use Rattle.type_check.proofs.SoundTypes.{Sound, same_refl}

pub or_left : (a b : Bool) → a ≡ true → (a || b) ≡ true
or_left true b h = refl
or_left false b h = absurd (cc)

pub or_right : (a b : Bool) → b ≡ true → (a || b) ≡ true
or_right true b h = refl
or_right false b h = h

pub or_none : (a : Bool) → (a || false) ≡ a
or_none true = refl
or_none false = refl

-- ---- what stands after some events

abbrev pub among : NamedType → List NamedType → Bool
among t ts = list_any (same_type t) ts

abbrev pub placed : List Event → NamedType → Bool
placed es (scalar s) = false
placed es (struct x) = list_any (is_closed x) es
placed es (array t n) = list_any (is_met (array t n)) es && not (waits es t)

if_added : (b : Bool) (t u : NamedType) → among t (if b then [] else u ∷ []) ≡ (not b && same_type t u)
if_added true t u = refl
if_added false t u = or_none (same_type t u)

if_kept : (b : Bool) (t u : NamedType) → among t (if b then u ∷ [] else []) ≡ (b && same_type t u)
if_kept false t u = refl
if_kept true t u = or_none (same_type t u)

-- ---- what waits

waits_other : (a e r : Bool) (c : Bool) → ((c && false) || (a && (r && not (e || (false || false))))) ≡ (a && ((false || r) && not e))
waits_other true true true true = refl
waits_other true true true false = refl
waits_other true true false true = refl
waits_other true true false false = refl
waits_other true false true true = refl
waits_other true false true false = refl
waits_other true false false true = refl
waits_other true false false false = refl
waits_other false e r true = refl
waits_other false e r false = refl

waits_own : (a e r : Bool) → (((a && not e) && true) || (a && (r && not (e || (true || false))))) ≡ (a && ((true || r) && not e))
waits_own true true true = refl
waits_own true true false = refl
waits_own true false true = refl
waits_own true false false = refl
waits_own false e r = refl

waits_end : (a e r : Bool) → (a && (r && not (e || (false || false)))) ≡ (a && ((false || r) && not e))
waits_end true true true = refl
waits_end true true false = refl
waits_end true false true = refl
waits_end true false false = refl
waits_end false e r = refl

-- a type waits if it is an array of the struct that is met here first
waiting_has : (x : List ℕ) (earlier rest : List Event) (t : NamedType) → among t (waiting x earlier rest) ≡ (is_array_of x t && (list_any (is_met t) rest && not (list_any (is_met t) earlier)))
waiting_has x earlier [] t = nothing (is_array_of x t)
  where
    nothing : (a : Bool) → false ≡ (a && false)
    nothing true = refl
    nothing false = refl
waiting_has x earlier (ends y ∷ rest) t =
    waiting_has x (earlier ++ ends y ∷ []) rest t
    ∙ ap (λ b. is_array_of x t && (list_any (is_met t) rest && not b)) (any_last (is_met t) earlier (ends y))
    ∙ waits_end (is_array_of x t) (list_any (is_met t) earlier) (list_any (is_met t) rest)
waiting_has x earlier (met u ∷ rest) t =
    list_any-append (same_type t) (if is_array_of x u && not (list_any (is_met u) earlier) then u ∷ [] else []) (waiting x (earlier ++ met u ∷ []) rest)
    ∙ ap (λ b. b || among t (waiting x (earlier ++ met u ∷ []) rest)) (if_kept (is_array_of x u && not (list_any (is_met u) earlier)) t u)
    ∙ ap (λ b. ((is_array_of x u && not (list_any (is_met u) earlier)) && same_type t u) || b) (waiting_has x (earlier ++ met u ∷ []) rest t)
    ∙ ap (λ b. ((is_array_of x u && not (list_any (is_met u) earlier)) && same_type t u) || (is_array_of x t && (list_any (is_met t) rest && not b))) (any_last (is_met t) earlier (met u))
    ∙ by (same_type t u) refl
  where
    by : (b : Bool) → same_type t u ≡ b
        → (((is_array_of x u && not (list_any (is_met u) earlier)) && same_type t u) || (is_array_of x t && (list_any (is_met t) rest && not (list_any (is_met t) earlier || (same_type t u || false)))))
        ≡ (is_array_of x t && ((same_type t u || list_any (is_met t) rest) && not (list_any (is_met t) earlier)))
    by true e =
        ap (λ b. ((is_array_of x u && not (list_any (is_met u) earlier)) && b) || (is_array_of x t && (list_any (is_met t) rest && not (list_any (is_met t) earlier || (b || false))))) e
        ∙ ap (λ v. ((is_array_of x v && not (list_any (is_met v) earlier)) && true) || (is_array_of x t && (list_any (is_met t) rest && not (list_any (is_met t) earlier || (true || false))))) (sym (same_true t u e))
        ∙ waits_own (is_array_of x t) (list_any (is_met t) earlier) (list_any (is_met t) rest)
        ∙ ap (λ b. is_array_of x t && ((b || list_any (is_met t) rest) && not (list_any (is_met t) earlier))) (sym e)
    by false e =
        ap (λ b. ((is_array_of x u && not (list_any (is_met u) earlier)) && b) || (is_array_of x t && (list_any (is_met t) rest && not (list_any (is_met t) earlier || (b || false))))) e
        ∙ waits_other (is_array_of x t) (list_any (is_met t) earlier) (list_any (is_met t) rest) (is_array_of x u && not (list_any (is_met u) earlier))
        ∙ ap (λ b. is_array_of x t && ((b || list_any (is_met t) rest) && not (list_any (is_met t) earlier))) (sym e)

-- ---- one event more

or_nothing : (a : Bool) → (a || (false || false)) ≡ a
or_nothing true = refl
or_nothing false = refl

waits_met : (es : List Event) (u v : NamedType) → waits (es ++ met u ∷ []) v ≡ waits es v
waits_met es u (scalar s) = refl
waits_met es u (struct x) = ap not (any_last (is_closed x) es (met u) ∙ or_nothing (list_any (is_closed x) es))
waits_met es u (array t n) = refl

-- what is no array is not added by a type that is met
no_array : (es : List Event) (t u : NamedType) → ((v : NamedType) (n : ℕ) → same_type t (array v n) ≡ false) → among t (added es (met u)) ≡ false
no_array es t (scalar s) h = refl
no_array es t (struct x) h = refl
no_array es t (array v n) h =
    if_added (list_any (is_met (array v n)) es || waits es v) t (array v n) ∙ ap (λ b. not (list_any (is_met (array v n)) es || waits es v) && b) (h v n) ∙ never (not (list_any (is_met (array v n)) es || waits es v))
  where
    never : (a : Bool) → (a && false) ≡ false
    never true = refl
    never false = refl

met_other : (a w c : Bool) → ((a && not w) || (c && false)) ≡ ((a || (false || false)) && not w)
met_other true true true = refl
met_other true true false = refl
met_other true false true = refl
met_other true false false = refl
met_other false w true = refl
met_other false w false = refl

met_own : (a w : Bool) → ((a && not w) || (not (a || w) && true)) ≡ ((a || (true || false)) && not w)
met_own true true = refl
met_own true false = refl
met_own false true = refl
met_own false false = refl

array_met : (es : List Event) (v w : NamedType) (m k : ℕ) (b : Bool) → same_type (array v m) (array w k) ≡ b
    → (placed es (array v m) || (not (list_any (is_met (array w k)) es || waits es w) && same_type (array v m) (array w k)))
    ≡ ((list_any (is_met (array v m)) es || (same_type (array v m) (array w k) || false)) && not (waits es v))
array_met es v w m k true e =
    ap (λ b. placed es (array v m) || (not (list_any (is_met (array w k)) es || waits es w) && b)) e
    ∙ ap (λ u. placed es (array v m) || (not (list_any (is_met u) es || waits es (elem u)) && true)) (sym (same_true (array v m) (array w k) e))
    ∙ met_own (list_any (is_met (array v m)) es) (waits es v)
    ∙ ap (λ b. (list_any (is_met (array v m)) es || (b || false)) && not (waits es v)) (sym e)
  where
    elem : NamedType → NamedType
    elem (array u n) = u
    elem t = t
array_met es v w m k false e =
    ap (λ b. placed es (array v m) || (not (list_any (is_met (array w k)) es || waits es w) && b)) e
    ∙ met_other (list_any (is_met (array v m)) es) (waits es v) (not (list_any (is_met (array w k)) es || waits es w))
    ∙ ap (λ b. (list_any (is_met (array v m)) es || (b || false)) && not (waits es v)) (sym e)

met_placed : (es : List Event) (u t : NamedType) → (placed es t || among t (added es (met u))) ≡ placed (es ++ met u ∷ []) t
met_placed es u (scalar s) = no_array es (scalar s) u (λ v n. refl)
met_placed es u (struct x) =
    ap (λ b. list_any (is_closed x) es || b) (no_array es (struct x) u (λ v n. refl) ∙ refl)
    ∙ sym (any_last (is_closed x) es (met u))
met_placed es (scalar s) (array v m) =
    met_other (list_any (is_met (array v m)) es) (waits es v) false
    ∙ ap (λ b. b && not (waits es v)) (sym (any_last (is_met (array v m)) es (met (scalar s))))
    ∙ ap (λ b. list_any (is_met (array v m)) (es ++ met (scalar s) ∷ []) && not b) (sym (waits_met es (scalar s) v))
met_placed es (struct x) (array v m) =
    met_other (list_any (is_met (array v m)) es) (waits es v) false
    ∙ ap (λ b. b && not (waits es v)) (sym (any_last (is_met (array v m)) es (met (struct x))))
    ∙ ap (λ b. list_any (is_met (array v m)) (es ++ met (struct x) ∷ []) && not b) (sym (waits_met es (struct x) v))
met_placed es (array w k) (array v m) =
    ap (λ b. placed es (array v m) || b) (if_added (list_any (is_met (array w k)) es || waits es w) (array v m) (array w k))
    ∙ array_met es v w m k (same_type (array v m) (array w k)) refl
    ∙ ap (λ b. b && not (waits es v)) (sym (any_last (is_met (array v m)) es (met (array w k))))
    ∙ ap (λ b. list_any (is_met (array v m)) (es ++ met (array w k) ∷ []) && not b) (sym (waits_met es (array w k) v))

end_plain : (a c : Bool) → ((a && not false) || (false || (false && c))) ≡ ((a || (false || false)) && not false)
end_plain true c = refl
end_plain false c = refl

end_struct : (a c q : Bool) → ((a && not (not c)) || (false || (q && (a && not false)))) ≡ ((a || (false || false)) && not (not (c || (q || false))))
end_struct true true q = refl
end_struct true false true = refl
end_struct true false false = refl
end_struct false c true = refl
end_struct false c false = refl

ends_placed : (es : List Event) (x : List ℕ) (t : NamedType) → (placed es t || among t (added es (ends x))) ≡ placed (es ++ ends x ∷ []) t
ends_placed es x (scalar s) = waiting_has x [] es (scalar s)
ends_placed es x (struct y) = ap (λ b. list_any (is_closed y) es || (bytes_eq y x || b)) (waiting_has x [] es (struct y)) ∙ sym (any_last (is_closed y) es (ends x))
ends_placed es x (array (scalar s) m) =
    ap (λ b. placed es (array (scalar s) m) || (false || b)) (waiting_has x [] es (array (scalar s) m))
    ∙ end_plain (list_any (is_met (array (scalar s) m)) es) (list_any (is_met (array (scalar s) m)) es && not false)
    ∙ ap (λ b. b && not false) (sym (any_last (is_met (array (scalar s) m)) es (ends x)))
ends_placed es x (array (array t n) m) =
    ap (λ b. placed es (array (array t n) m) || (false || b)) (waiting_has x [] es (array (array t n) m))
    ∙ end_plain (list_any (is_met (array (array t n) m)) es) (list_any (is_met (array (array t n) m)) es && not false)
    ∙ ap (λ b. b && not false) (sym (any_last (is_met (array (array t n) m)) es (ends x)))
ends_placed es x (array (struct y) m) =
    ap (λ b. placed es (array (struct y) m) || (false || b)) (waiting_has x [] es (array (struct y) m))
    ∙ ap (λ b. placed es (array (struct y) m) || (false || (b && (list_any (is_met (array (struct y) m)) es && not false)))) (nat_list_eq_equiv.symm x y)
    ∙ end_struct (list_any (is_met (array (struct y) m)) es) (list_any (is_closed y) es) (bytes_eq y x)
    ∙ ap (λ b. b && not (not (list_any (is_closed y) es || (bytes_eq y x || false)))) (sym (any_last (is_met (array (struct y) m)) es (ends x)))
    ∙ ap (λ b. list_any (is_met (array (struct y) m)) (es ++ ends x ∷ []) && not (not b)) (sym (any_last (is_closed y) es (ends x)))

event_placed : (es : List Event) (e : Event) (t : NamedType) → (placed es t || among t (added es e)) ≡ placed (es ++ e ∷ []) t
event_placed es (met u) t = met_placed es u t
event_placed es (ends x) t = ends_placed es x t

has_more : (es : List Event) (e : Event) → ((t : NamedType) → among t (listed [] es) ≡ placed es t) → (t : NamedType) → among t (listed [] (es ++ e ∷ [])) ≡ placed (es ++ e ∷ []) t
has_more es e h t =
    ap (list_any (same_type t)) (listed_last es e) ∙ list_any-append (same_type t) (listed [] es) (added es e)
    ∙ ap (λ b. b || among t (added es e)) (h t) ∙ event_placed es e t

-- ---- types that may stand behind others

-- a scalar, or one of these
abbrev pub Stood : List NamedType → NamedType → Type 0
Stood before (scalar s) = Unit {0}
Stood before (struct x) = among (struct x) before ≡ true
Stood before (array t n) = among (array t n) before ≡ true

abbrev pub AllStood : List NamedType → Declarations → List FieldForm → Type 0
AllStood before ds [] = Unit {0}
AllStood before ds (f ∷ fs) = Stood before (type_of (judge_form ds f.ty)) × AllStood before ds fs

pub record IsNewStruct (all : Declarations) (before : List NamedType) (x : List ℕ) : Type 0 where
  pub fresh : among (struct x) before ≡ false
  pub found : Struct
  pub is : struct_in all x ≡ Some found
  pub parts : AllStood before found.before found.fields

pub record IsNewArray (all : Declarations) (before : List NamedType) (t : NamedType) (n : ℕ) : Type 0 where
  pub fresh : among (array t n) before ≡ false
  pub part : Stood before t
  pub sound : Sound all (array t n)

abbrev pub MayStand : Declarations → List NamedType → NamedType → Type 0
MayStand all before (scalar s) = ⊥
MayStand all before (struct x) = IsNewStruct all before x
MayStand all before (array t n) = IsNewArray all before t n

-- each behind those before it
abbrev pub Steps : Declarations → List NamedType → List NamedType → Type 0
Steps all before [] = Unit {0}
Steps all before (t ∷ ts) = MayStand all before t × Steps all (before ++ t ∷ []) ts

steps_append : (all : Declarations) (before xs ys : List NamedType) → Steps all before xs → Steps all (before ++ xs) ys → Steps all before (xs ++ ys)
steps_append all before [] ys h g = subst (λ b. Steps all b ys) (append-nil before) g
steps_append all before (x ∷ xs) ys h g = (h.0, steps_append all (before ++ x ∷ []) xs ys h.1 (subst (λ b. Steps all b ys) (sym (append_assoc before (x ∷ []) xs)) g))

-- ---- events that keep the order

abbrev pub Ready : List Event → NamedType → Type 0
Ready es (scalar s) = Unit {0}
Ready es (struct x) = placed es (struct x) ≡ true
Ready es (array t n) = placed es (array t n) ≡ true

abbrev pub AllReady : List Event → Declarations → List FieldForm → Type 0
AllReady es ds [] = Unit {0}
AllReady es ds (f ∷ fs) = Ready es (type_of (judge_form ds f.ty)) × AllReady es ds fs

-- the end of a struct that is declared, has not ended before, and whose fields' types stand
pub record IsEnd (all : Declarations) (es : List Event) (x : List ℕ) : Type 0 where
  pub open_yet : list_any (is_closed x) es ≡ false
  pub found : Struct
  pub is : struct_in all x ≡ Some found
  pub parts : AllReady es found.before found.fields

abbrev pub GoodEvent : Declarations → List Event → Event → Type 0
GoodEvent all es (met t) = Sound all t
GoodEvent all es (ends x) = IsEnd all es x

abbrev pub GoodEvents : Declarations → List Event → List Event → Type 0
GoodEvents all es [] = Unit {0}
GoodEvents all es (e ∷ more) = GoodEvent all es e × GoodEvents all (es ++ e ∷ []) more

pub good_append : (all : Declarations) (es xs ys : List Event) → GoodEvents all es xs → GoodEvents all (es ++ xs) ys → GoodEvents all es (xs ++ ys)
good_append all es [] ys h g = subst (λ b. GoodEvents all b ys) (append-nil es) g
good_append all es (x ∷ xs) ys h g = (h.0, good_append all (es ++ x ∷ []) xs ys h.1 (subst (λ b. GoodEvents all b ys) (sym (append_assoc es (x ∷ []) xs)) g))

-- what is told of some events
pub record IsPlacing (all : Declarations) (es : List Event) : Type 0 where
  pub among_are : (t : NamedType) → among t (listed [] es) ≡ placed es t
  pub steps : Steps all [] (listed [] es)
  pub sounds : (t : NamedType) → list_any (is_met t) es ≡ true → Sound all t

stood_ready : (es : List Event) (t : NamedType) → ((u : NamedType) → among u (listed [] es) ≡ placed es u) → Ready es t → Stood (listed [] es) t
stood_ready es (scalar s) h r = tt
stood_ready es (struct x) h r = h (struct x) ∙ r
stood_ready es (array t n) h r = h (array t n) ∙ r

all_stood : (es : List Event) (ds : Declarations) (fs : List FieldForm) → ((u : NamedType) → among u (listed [] es) ≡ placed es u) → AllReady es ds fs → AllStood (listed [] es) ds fs
all_stood es ds [] h r = tt
all_stood es ds (f ∷ fs) h r = (stood_ready es (type_of (judge_form ds f.ty)) h r.0, all_stood es ds fs h r.1)

-- ---- an array that is met

-- an element that doesn't wait stands
element_stood : (es : List Event) (t : NamedType) (all : Declarations) (n : ℕ) → ((u : NamedType) → among u (listed [] es) ≡ placed es u) → waits es t ≡ false → Sound all (array t n) → Stood (listed [] es) t
element_stood es (scalar s) all n h w s_ = tt
element_stood es (struct x) all n h w s_ = h (struct x) ∙ turned (list_any (is_closed x) es) w
  where
    turned : (b : Bool) → not b ≡ false → b ≡ true
    turned true e = refl
    turned false e = absurd (cc)
element_stood es (array u m) all n h w s_ = absurd (let e = s_.0 in cc)

steps_met : (all : Declarations) (es : List Event) (t : NamedType) (n : ℕ) (a w : Bool) → list_any (is_met (array t n)) es ≡ a → waits es t ≡ w → ((u : NamedType) → among u (listed [] es) ≡ placed es u) → Sound all (array t n)
    → Steps all (listed [] es) (if a || w then [] else array t n ∷ [])
steps_met all es t n true w e f h s = tt
steps_met all es t n false true e f h s = tt
steps_met all es t n false false e f h s = (
  record { fresh = h (array t n) ∙ ap (λ b. b && not (waits es t)) e; part = element_stood es t all n h f s; sound = s },
  tt,
)

-- ---- the arrays that waited

and_split : (a b : Bool) → (a && b) ≡ true → (a ≡ true) × (b ≡ true)
and_split true b h = (refl, h)
and_split false b h = absurd (cc)

not_true : (b : Bool) → not b ≡ true → b ≡ false
not_true true h = absurd (cc)
not_true false h = refl

-- an array of the struct, which is new, behind the struct
waiting_stands : (all : Declarations) (x : List ℕ) (before : List NamedType) (u : NamedType) → is_array_of x u ≡ true → among u before ≡ false → among (struct x) before ≡ true → Sound all u → MayStand all before u
waiting_stands all x before (scalar s) a n p h = absurd (cc)
waiting_stands all x before (struct y) a n p h = absurd (cc)
waiting_stands all x before (array (scalar s) m) a n p h = absurd (cc)
waiting_stands all x before (array (array t k) m) a n p h = absurd (cc)
waiting_stands all x before (array (struct y) m) a n p h = record { fresh = n; part = subst (λ z. among (struct z) before ≡ true) (list_same x y a) p; sound = h }

-- what stands before, of the arrays of the struct
record HasArrays (x : List ℕ) (before : List NamedType) (earlier : List Event) : Type 0 where
  of_struct : among (struct x) before ≡ true
  arrays_are : (t : NamedType) → is_array_of x t ≡ true → among t before ≡ list_any (is_met t) earlier

arrays_end : (x y : List ℕ) (before : List NamedType) (earlier : List Event) → HasArrays x before earlier → HasArrays x before (earlier ++ ends y ∷ [])
arrays_end x y before earlier h = record {
  of_struct = h.of_struct;
  arrays_are = λ t a. h.arrays_are t a ∙ sym (any_last (is_met t) earlier (ends y) ∙ or_nothing (list_any (is_met t) earlier));
}

arrays_added : (x : List ℕ) (before : List NamedType) (earlier : List Event) (u : NamedType) → HasArrays x before earlier → HasArrays x (before ++ u ∷ []) (earlier ++ met u ∷ [])
arrays_added x before earlier u h = record {
  of_struct = list_any-append (same_type (struct x)) before (u ∷ []) ∙ or_left (among (struct x) before) (same_type (struct x) u || false) h.of_struct;
  arrays_are = λ t a. list_any-append (same_type t) before (u ∷ []) ∙ ap (λ b. b || (same_type t u || false)) (h.arrays_are t a) ∙ sym (any_last (is_met t) earlier (met u));
}

again_if : (x : List ℕ) (earlier : List Event) (u t : NamedType) (b : Bool) → same_type t u ≡ b → (is_array_of x u && not (list_any (is_met u) earlier)) ≡ false → is_array_of x t ≡ true → list_any (is_met t) earlier ≡ (list_any (is_met t) earlier || (b || false))
again_if x earlier u t true e n a =
    let f : is_array_of x u ≡ true = subst (λ v. is_array_of x v ≡ true) (same_true t u e) a in
    let g : list_any (is_met u) earlier ≡ true = was_met (is_array_of x u) (list_any (is_met u) earlier) n f in
    let i : list_any (is_met t) earlier ≡ true = subst (λ v. list_any (is_met v) earlier ≡ true) (sym (same_true t u e)) g in
    i ∙ sym (or_right (list_any (is_met t) earlier) true refl)
  where
    was_met : (a b : Bool) → (a && not b) ≡ false → a ≡ true → b ≡ true
    was_met true true n f = refl
    was_met true false n f = absurd (cc)
    was_met false b n f = absurd (cc)
again_if x earlier u t false e n a = sym (or_nothing (list_any (is_met t) earlier))

arrays_same : (x : List ℕ) (before : List NamedType) (earlier : List Event) (u : NamedType) → (is_array_of x u && not (list_any (is_met u) earlier)) ≡ false → HasArrays x before earlier → HasArrays x before (earlier ++ met u ∷ [])
arrays_same x before earlier u n h = record {
  of_struct = h.of_struct;
  arrays_are = λ t a. h.arrays_are t a ∙ again_if x earlier u t (same_type t u) refl n a ∙ sym (any_last (is_met t) earlier (met u));
}

waiting_if : (all : Declarations) (x : List ℕ) (before : List NamedType) (earlier : List Event) (u : NamedType) (more : List NamedType) (b : Bool) → (is_array_of x u && not (list_any (is_met u) earlier)) ≡ b → HasArrays x before earlier → Sound all u
    → ((behind : List NamedType) → HasArrays x behind (earlier ++ met u ∷ []) → Steps all behind more) → Steps all before ((if b then u ∷ [] else []) ++ more)
waiting_if all x before earlier u more true e h s f =
    let p = and_split (is_array_of x u) (not (list_any (is_met u) earlier)) e in (
      waiting_stands all x before u p.0 (h.arrays_are u p.0 ∙ not_true (list_any (is_met u) earlier) p.1) h.of_struct s,
      f (before ++ u ∷ []) (arrays_added x before earlier u h),
    )
waiting_if all x before earlier u more false e h s f = f before (arrays_same x before earlier u e h)

steps_waiting : (all : Declarations) (x : List ℕ) (before : List NamedType) (earlier rest : List Event) → HasArrays x before earlier → ((t : NamedType) → list_any (is_met t) rest ≡ true → Sound all t) → Steps all before (waiting x earlier rest)
steps_waiting all x before earlier [] h s = tt
steps_waiting all x before earlier (ends y ∷ rest) h s = steps_waiting all x before (earlier ++ ends y ∷ []) rest (arrays_end x y before earlier h) s
steps_waiting all x before earlier (met u ∷ rest) h s =
    waiting_if all x before earlier u (waiting x (earlier ++ met u ∷ []) rest) (is_array_of x u && not (list_any (is_met u) earlier)) refl h
    (s u (ap (λ b. b || list_any (is_met u) rest) (same_refl u)))
    (λ behind g. steps_waiting all x behind (earlier ++ met u ∷ []) rest g (λ t m. s t (or_right (same_type t u) (list_any (is_met t) rest) m)))

-- no array of a struct that hasn't ended stands
none_placed : (es : List Event) (x : List ℕ) (t : NamedType) → is_array_of x t ≡ true → list_any (is_closed x) es ≡ false → (placed es t || (same_type t (struct x) || false)) ≡ false
none_placed es x (scalar s) a h = absurd (cc)
none_placed es x (struct y) a h = absurd (cc)
none_placed es x (array (scalar s) m) a h = absurd (cc)
none_placed es x (array (array t k) m) a h = absurd (cc)
none_placed es x (array (struct y) m) a h =
    let f : list_any (is_closed y) es ≡ false = subst (λ z. list_any (is_closed z) es ≡ false) (list_same x y a) h in
    ap (λ b. (list_any (is_met (array (struct y) m)) es && not (not b)) || (false || false)) f ∙ never (list_any (is_met (array (struct y) m)) es)
  where
    never : (c : Bool) → ((c && not (not false)) || (false || false)) ≡ false
    never true = refl
    never false = refl

own_struct : (a : Bool) (x : List ℕ) → (a || (bytes_eq x x || false)) ≡ true
own_struct a x = ap (λ b. a || (b || false)) (nat_list_eq_equiv.refl x) ∙ or_right a true refl

start_arrays : (es : List Event) (x : List ℕ) → ((u : NamedType) → among u (listed [] es) ≡ placed es u) → list_any (is_closed x) es ≡ false → HasArrays x (listed [] es ++ struct x ∷ []) []
start_arrays es x h n = record {
  of_struct = list_any-append (same_type (struct x)) (listed [] es) (struct x ∷ []) ∙ own_struct (among (struct x) (listed [] es)) x;
  arrays_are = λ t a. list_any-append (same_type t) (listed [] es) (struct x ∷ []) ∙ ap (λ b. b || (same_type t (struct x) || false)) (h t) ∙ none_placed es x t a n;
}

-- ---- all events

event_steps : (all : Declarations) (es : List Event) (e : Event) → IsPlacing all es → GoodEvent all es e → Steps all (listed [] es) (added es e)
event_steps all es (met (scalar s)) p g = tt
event_steps all es (met (struct x)) p g = tt
event_steps all es (met (array t n)) p g = steps_met all es t n (list_any (is_met (array t n)) es) (waits es t) refl refl p.among_are g
event_steps all es (ends x) p g = (
  record { fresh = p.among_are (struct x) ∙ g.open_yet; found = g.found; is = g.is; parts = all_stood es g.found.before g.found.fields p.among_are g.parts },
  steps_waiting all x (listed [] es ++ struct x ∷ []) [] es (start_arrays es x p.among_are g.open_yet) p.sounds,
)

sound_if : (all : Declarations) (t u : NamedType) (a b : Bool) → same_type t u ≡ b → (a ≡ true → Sound all t) → Sound all u → (a || (b || false)) ≡ true → Sound all t
sound_if all t u true b e f s h = f refl
sound_if all t u false true e f s h = subst (Sound all) (sym (same_true t u e)) s
sound_if all t u false false e f s h = absurd (cc)

sounds_more : (all : Declarations) (es : List Event) (e : Event) → ((t : NamedType) → list_any (is_met t) es ≡ true → Sound all t) → GoodEvent all es e → (t : NamedType) → list_any (is_met t) (es ++ e ∷ []) ≡ true → Sound all t
sounds_more all es (met u) s g t h = sound_if all t u (list_any (is_met t) es) (same_type t u) refl (s t) g (sym (any_last (is_met t) es (met u)) ∙ h)
sounds_more all es (ends x) s g t h = s t (sym (any_last (is_met t) es (ends x) ∙ or_nothing (list_any (is_met t) es)) ∙ h)

placing_more : (all : Declarations) (es : List Event) (e : Event) → IsPlacing all es → GoodEvent all es e → IsPlacing all (es ++ e ∷ [])
placing_more all es e p g = record {
  among_are = has_more es e p.among_are;
  steps = subst (Steps all []) (sym (listed_last es e)) (steps_append all [] (listed [] es) (added es e) p.steps (event_steps all es e p g));
  sounds = sounds_more all es e p.sounds g;
}

placing_on : (all : Declarations) (es more : List Event) → IsPlacing all es → GoodEvents all es more → IsPlacing all (es ++ more)
placing_on all es [] p g = subst (IsPlacing all) (sym (append-nil es)) p
placing_on all es (e ∷ more) p g = subst (IsPlacing all) (append_assoc es (e ∷ []) more) (placing_on all (es ++ e ∷ []) more (placing_more all es e p g.0) g.1)

nothing_placed : (t : NamedType) → among t [] ≡ placed [] t
nothing_placed (scalar s) = refl
nothing_placed (struct x) = refl
nothing_placed (array t n) = refl

pub placing : (all : Declarations) (es : List Event) → GoodEvents all [] es → IsPlacing all es
placing all es g = placing_on all [] es (record { among_are = nothing_placed; steps = tt; sounds = λ t h. absurd (cc) }) g
