-- Nodes make no arrays but those that their lists make: each array among a node's types is made below it, or is known.
use Rattle.std.proofs.Common.{◌≡◌, ◌≤◌, ◌+◌, ℕ, suc, Bool, true, false, List, [], ◌∷◌, ◌++◌, length, length-append, refl, sym, ap, ◌∙◌, arith}
use Rattle.std.specs.Prelude.{◌&&◌, ◌||◌, nat_lt, if◌then◌else◌, Option, Some, None}
use Rattle.std.specs.List.{list_all, list_any}
use Rattle.std.proofs.lemmas.List.Folds.{list_any-append}
use Rattle.stream_types.specs.declared.scalar.Op1.{Op1}
use Rattle.stream_types.specs.declared.scalar.Op2.{Op2}
use Rattle.stream_types.specs.Scalars.{op1_fits, op2_fits, shift_fits, cast_fits, op2_gives}
use Rattle.spec_text.specs.declared.surface.NameAt.{NameAt}
use Rattle.type_check.specs.declared.fault.TypeFault.{TypeFault}
use Rattle.type_check.specs.declared.fault.TypeFault.TheVariants.{NestedArray, TypeTooWide, TypeClash, DropTooFar}
use Rattle.type_check.specs.NamedType.{NamedType, scalar, struct, array, bool, word32, same_type, is_array, Declarations, Struct}
use Rattle.type_check.specs.Judged.{Verdict, has, lacks, if_so, Judged, all_types, have_types, over_parts, judged, type_of, types_of, on_one, on_two}
use Rattle.type_check.specs.Judged.{on_shift, on_cast, is_too_wide, on_elements, on_items, on_index, on_record, are_fields, Named, extern_of, stream_of}
use Rattle.type_check.specs.Judged.{def_of, on_drop, is_bool, on_truths, on_choice, integral, on_integer, is_scalar_that, any_scalar, on_votes}
use Rattle.type_check.proofs.SoundTypes.{same_refl}
use Rattle.type_check.proofs.Placing.{among, or_right}

-- ---- types that are kept

-- an array stands among these, and is none of arrays
abbrev pub Kept : List NamedType → NamedType → Type 0
Kept us (scalar s) = Unit {0}
Kept us (struct x) = Unit {0}
Kept us (array t n) = (among (array t n) us ≡ true) × (is_array t ≡ false)

abbrev pub AllKept : List NamedType → List NamedType → Type 0
AllKept us [] = Unit {0}
AllKept us (t ∷ ts) = Kept us t × AllKept us ts

pub record IsWithin (us vs : List NamedType) : Type 0 where
  pub within : (t : NamedType) → among t us ≡ true → among t vs ≡ true

pub kept_on : (us vs : List NamedType) → IsWithin us vs → (t : NamedType) → Kept us t → Kept vs t
kept_on us vs w (scalar s) h = tt
kept_on us vs w (struct x) h = tt
kept_on us vs w (array t n) h = (w.within (array t n) h.0, h.1)

pub all_on : (us vs : List NamedType) → IsWithin us vs → (ts : List NamedType) → AllKept us ts → AllKept vs ts
all_on us vs w [] h = tt
all_on us vs w (t ∷ ts) h = (kept_on us vs w t h.0, all_on us vs w ts h.1)

pub all_kept_append : (us ts vs : List NamedType) → AllKept us ts → AllKept us vs → AllKept us (ts ++ vs)
all_kept_append us [] vs h g = g
all_kept_append us (t ∷ ts) vs h g = (h.0, all_kept_append us ts vs h.1 g)

left_in : (x y z : Bool) → (x || z) ≡ true → ((x || y) || z) ≡ true
left_in true y z h = refl
left_in false true z h = refl
left_in false false z h = h

right_in : (x y z : Bool) → (y || z) ≡ true → ((x || y) || z) ≡ true
right_in true y z h = refl
right_in false y z h = h

among_three : (t : NamedType) (a b k : List NamedType) → among t ((a ++ b) ++ k) ≡ ((among t a || among t b) || among t k)
among_three t a b k = list_any-append (same_type t) (a ++ b) k ∙ ap (λ x. x || among t k) (list_any-append (same_type t) a b)

pub within_left : (a b k : List NamedType) → IsWithin (a ++ k) ((a ++ b) ++ k)
within_left a b k =
    record { within = λ t h. among_three t a b k ∙ left_in (among t a) (among t b) (among t k) (sym (list_any-append (same_type t) a k) ∙ h) }

pub within_right : (a b k : List NamedType) → IsWithin (b ++ k) ((a ++ b) ++ k)
within_right a b k =
    record { within = λ t h. among_three t a b k ∙ right_in (among t a) (among t b) (among t k) (sym (list_any-append (same_type t) b k) ∙ h) }

pub within_cons : (u : NamedType) (us : List NamedType) → IsWithin us (u ∷ us)
within_cons u us = record { within = λ t h. or_right (same_type t u) (among t us) h }

-- ---- nodes

-- The arrays that a node makes, no more than so many: its type and those that it adds are among them and the known ones.
pub record IsMade (known : List NamedType) (j : Judged) (n : ℕ) : Type 0 where
  pub made : List NamedType
  pub few : length made ≤ n
  pub ty_is : Kept (made ++ known) (type_of j)
  pub types_are : AllKept (made ++ known) j.types

pub record AreMade (known : List NamedType) (ps : List Judged) (n : ℕ) : Type 0 where
  pub made : List NamedType
  pub few : length made ≤ n
  pub tys_are : AllKept (made ++ known) (types_of ps)
  pub types_are : AllKept (made ++ known) (all_types ps)

pub no_parts : (known : List NamedType) → AreMade known [] 0
no_parts known = record { made = []; few = omega arith; tys_are = tt; types_are = tt }

pub more_parts : (known : List NamedType) (p : Judged) (ps : List Judged) (m n : ℕ) → IsMade known p m → AreMade known ps n → AreMade known (p ∷ ps) (m + n)
more_parts known p ps m n h g =
    let l = within_left h.made g.made known in
    let r = within_right h.made g.made known in
    let us = (h.made ++ g.made) ++ known in
    record {
      made = h.made ++ g.made;
      few = let e = length-append h.made g.made in omega (arith, e, h.few, g.few);
      tys_are = (kept_on (h.made ++ known) us l (type_of p) h.ty_is, all_on (g.made ++ known) us r (types_of ps) g.tys_are);
      types_are = all_kept_append us p.types (all_types ps) (all_on (h.made ++ known) us l p.types h.types_are)
          (all_on (g.made ++ known) us r (all_types ps) g.types_are);
    }

abbrev pub Fits : List NamedType → Verdict → Type 0
Fits us (has t) = Kept us t
Fits us (lacks e) = Unit {0}

node_if : (known : List NamedType) (ps : List Judged) (v : Verdict) (n k : ℕ) (b : Bool) → AreMade known ps n
    → ((us : List NamedType) → AllKept us (types_of ps) → Fits us v) → n ≤ k → IsMade known (over_parts b ps v) k
node_if known ps v n k false h f e = record { made = h.made; few = omega (arith, h.few, e); ty_is = tt; types_are = h.types_are }
node_if known ps (has t) n k true h f e =
    let us = h.made ++ known in
    let own = f us h.tys_are in
    record { made = h.made; few = omega (arith, h.few, e); ty_is = own; types_are = all_kept_append us (all_types ps) (t ∷ []) h.types_are (own, tt) }
node_if known ps (lacks x) n k true h f e = record { made = h.made; few = omega (arith, h.few, e); ty_is = tt; types_are = h.types_are }

-- a node whose type comes from its parts
pub node_made : (known : List NamedType) (ps : List Judged) (v : Verdict) (n k : ℕ) → AreMade known ps n
    → ((us : List NamedType) → AllKept us (types_of ps) → Fits us v) → n ≤ k → IsMade known (judged ps v) k
node_made known ps v n k h f e = node_if known ps v n k (have_types ps) h f e

-- an array of what is no array
abbrev pub IsNew : Verdict → Type 0
IsNew (has (scalar s)) = ⊥
IsNew (has (struct x)) = ⊥
IsNew (has (array t n)) = is_array t ≡ false
IsNew (lacks e) = Unit {0}

array_if : (known : List NamedType) (ps : List Judged) (v : Verdict) (n k : ℕ) (b : Bool) → AreMade known ps n → IsNew v → n + 1 ≤ k
    → IsMade known (over_parts b ps v) k
array_if known ps v n k false h f e = record { made = h.made; few = omega (arith, h.few, e); ty_is = tt; types_are = h.types_are }
array_if known ps (has (scalar s)) n k true h f e = absurd f
array_if known ps (has (struct x)) n k true h f e = absurd f
array_if known ps (has (array t m)) n k true h f e =
    let us = h.made ++ known in
    let own : Kept (array t m ∷ us) (array t m) = (ap (λ b. b || among (array t m) us) (same_refl (array t m)), f) in
    record {
      made = array t m ∷ h.made;
      few = omega (arith, h.few, e);
      ty_is = own;
      types_are = all_kept_append (array t m ∷ us) (all_types ps) (array t m ∷ [])
          (all_on us (array t m ∷ us) (within_cons (array t m) us) (all_types ps) h.types_are) (own, tt);
    }
array_if known ps (lacks x) n k true h f e = record { made = h.made; few = omega (arith, h.few, e); ty_is = tt; types_are = h.types_are }

-- a list that makes an array
pub array_made : (known : List NamedType) (ps : List Judged) (v : Verdict) (n k : ℕ) → AreMade known ps n → IsNew v → n + 1 ≤ k
    → IsMade known (judged ps v) k
array_made known ps v n k h f e = array_if known ps v n k (have_types ps) h f e

pub leaf_made : (known : List NamedType) (v : Verdict) (k : ℕ) → ((us : List NamedType) → Fits us v) → IsMade known (judged [] v) k
leaf_made known v k f = node_made known [] v 0 k (no_parts known) (λ us h. f us) (omega arith)

pub over_one : (known : List NamedType) (a : Judged) (v : Verdict) (m k : ℕ) → IsMade known a m → ((us : List NamedType) → Kept us (type_of a) → Fits us v)
    → m ≤ k → IsMade known (judged (a ∷ []) v) k
over_one known a v m k h f e = node_made known (a ∷ []) v (m + 0) k (more_parts known a [] m 0 h (no_parts known)) (λ us q. f us q.0) (omega (arith, e))

pub over_two : (known : List NamedType) (a b : Judged) (v : Verdict) (m n k : ℕ) → IsMade known a m → IsMade known b n
    → ((us : List NamedType) → Kept us (type_of a) → Kept us (type_of b) → Fits us v) → m + n ≤ k → IsMade known (judged (a ∷ b ∷ []) v) k
over_two known a b v m n k h g f e =
    node_made known (a ∷ b ∷ []) v (m + (n + 0)) k (more_parts known a (b ∷ []) m (n + 0) h (more_parts known b [] n 0 g (no_parts known)))
    (λ us q. f us q.0 q.1.0) (omega (arith, e))

pub over_three : (known : List NamedType) (a b c : Judged) (v : Verdict) (m n l k : ℕ) → IsMade known a m → IsMade known b n → IsMade known c l
    → ((us : List NamedType) → Kept us (type_of b) → Fits us v) → m + n + l ≤ k
    → IsMade known (judged (a ∷ b ∷ c ∷ []) v) k
over_three known a b c v m n l k h g i f e =
    node_made known (a ∷ b ∷ c ∷ []) v (m + (n + (l + 0))) k
    (more_parts known a (b ∷ c ∷ []) m (n + (l + 0)) h (more_parts known b (c ∷ []) n (l + 0) g (more_parts known c [] l 0 i (no_parts known))))
    (λ us q. f us q.1.0) (omega (arith, e))

-- what is made here is known elsewhere
pub made_elsewhere : (known : List NamedType) (j : Judged) (n : ℕ) (h : IsMade known j n) → IsMade (h.made ++ known) j 0
made_elsewhere known j n h = record { made = []; few = omega arith; ty_is = h.ty_is; types_are = h.types_are }

pub made_within : (known : List NamedType) (j : Judged) (n m : ℕ) → n ≤ m → IsMade known j n → IsMade known j m
made_within known j n m e h = record { made = h.made; few = omega (arith, e, h.few); ty_is = h.ty_is; types_are = h.types_are }

-- ---- verdicts

pub if_fits : (us : List NamedType) (b : Bool) (t : NamedType) (e : TypeFault) → Kept us t → Fits us (if_so b t e)
if_fits us true t e h = h
if_fits us false t e h = tt

pub one_fits : (us : List NamedType) (at : ℕ) (op : Op1) (t : NamedType) → Fits us (on_one at op t)
one_fits us at op (scalar s) = if_fits us (op1_fits op s) (scalar s) (TypeClash at) tt
one_fits us at op (struct x) = tt
one_fits us at op (array t n) = tt

pub two_fits : (us : List NamedType) (at : ℕ) (op : Op2) (t u : NamedType) → Fits us (on_two at op t u)
two_fits us at op (scalar s) u = if_fits us (op2_fits op s && same_type (scalar s) u) (scalar (op2_gives op s)) (TypeClash at) tt
two_fits us at op (struct x) u = tt
two_fits us at op (array t n) u = tt

pub shift_is_fit : (us : List NamedType) (at : ℕ) (t u : NamedType) → Fits us (on_shift at t u)
shift_is_fit us at (scalar s) (scalar c) = if_fits us (shift_fits s c) (scalar s) (TypeClash at) tt
shift_is_fit us at (scalar s) (struct x) = tt
shift_is_fit us at (scalar s) (array t n) = tt
shift_is_fit us at (struct x) u = tt
shift_is_fit us at (array t n) u = tt

pub cast_is_fit : (us : List NamedType) (at : ℕ) (t u : NamedType) → Fits us (on_cast at t u)
cast_is_fit us at (scalar s) (scalar c) = if_fits us (cast_fits c s) (scalar s) (TypeClash at) tt
cast_is_fit us at (scalar s) (struct x) = tt
cast_is_fit us at (scalar s) (array t n) = tt
cast_is_fit us at (struct x) u = tt
cast_is_fit us at (array t n) u = tt

-- the element of an array is no array
flat_kept : (us : List NamedType) (t : NamedType) → is_array t ≡ false → Kept us t
flat_kept us (scalar s) h = tt
flat_kept us (struct x) h = tt
flat_kept us (array t n) h = absurd (cc)

pub index_fits : (us : List NamedType) (at : ℕ) (t i : NamedType) → Kept us t → Fits us (on_index at t i)
index_fits us at (scalar s) i h = tt
index_fits us at (struct x) i h = tt
index_fits us at (array t n) i h = if_fits us (same_type i word32) t (TypeClash at) (flat_kept us t h.1)

pub record_fits : (us : List NamedType) (o : Option Struct) (at : ℕ) (x : NameAt) (ts : List NamedType) → Fits us (on_record o at x ts)
record_fits us None at x ts = tt
record_fits us (Some s) at x ts = if_fits us (are_fields s.before s.fields ts) (struct x.name) (TypeClash at) tt

pub drop_fits : (us : List NamedType) (at k : ℕ) (n : Named) (t : NamedType) → Kept us t → Fits us (on_drop at k n t)
drop_fits us at k (extern_of es ty) t h = tt
drop_fits us at k (stream_of es ty n) t h = if_fits us (nat_lt k n) t (DropTooFar at) h
drop_fits us at k (def_of es ty) t h = tt

pub truths_fit : (us : List NamedType) (at : ℕ) (ts : List NamedType) → Fits us (on_truths at ts)
truths_fit us at ts = if_fits us (list_all is_bool ts) bool (TypeClash at) tt

pub choice_fits : (us : List NamedType) (at : ℕ) (c a b : NamedType) → Kept us a → Fits us (on_choice at c a b)
choice_fits us at c a b h = if_fits us (is_bool c && same_type a b) a (TypeClash at) h

pub integer_fits : (us : List NamedType) (at : ℕ) (t : NamedType) → Kept us t → Fits us (on_integer at t)
integer_fits us at t h = if_fits us (integral t) t (TypeClash at) h

pub votes_fit : (us : List NamedType) (at : ℕ) (gives : NamedType → NamedType) (ts : List NamedType) → ((t : NamedType) → Kept us t → Kept us (gives t))
    → AllKept us ts → Fits us (on_votes at gives ts)
votes_fit us at gives [] g h = tt
votes_fit us at gives (t ∷ ts) g h = if_fits us (is_scalar_that any_scalar t && list_all (same_type t) ts) (gives t) (TypeClash at) (g t h.0)

-- ---- arrays

elements_if : (at n : ℕ) (t : NamedType) (a w : Bool) → is_array t ≡ a
    → IsNew (if a then lacks (NestedArray at) else if w then lacks (TypeTooWide at) else has (array t n))
elements_if at n t true w e = tt
elements_if at n t false true e = tt
elements_if at n t false false e = e

pub elements_new : (ds : Declarations) (at n : ℕ) (t : NamedType) → IsNew (on_elements ds at n t)
elements_new ds at n t = elements_if at n t (is_array t) (is_too_wide ds n t) refl

items_if : (at : ℕ) (a s : Bool) (v : Verdict) → IsNew v → IsNew (if a then lacks (NestedArray at) else if s then v else lacks (TypeClash at))
items_if at true s v h = tt
items_if at false true v h = h
items_if at false false v h = tt

pub items_new : (ds : Declarations) (at : ℕ) (ts : List NamedType) → IsNew (on_items ds at ts)
items_new ds at [] = tt
items_new ds at (t ∷ ts) =
    items_if at (list_any is_array (t ∷ ts)) (list_all (same_type t) ts) (on_elements ds at (suc (length ts)) t) (elements_new ds at (suc (length ts)) t)
