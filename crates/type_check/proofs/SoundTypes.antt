-- Types that are sound in some declarations: their structs are declared there, and their arrays are narrow.
use Rattle.std.proofs.Common.{◌≡◌, ◌≤◌, ◌*◌, ℕ, suc, Bool, true, false, nat_eq, nat_lt, List, [], ◌∷◌, length, refl, sym, ap, ◌∙◌, subst, arith}
use Rattle.std.specs.Prelude.{◌&&◌, if◌then◌else◌, is_some, Option, Some, None}
use Rattle.std.specs.List.{list_all, list_any}
use Rattle.std.proofs.lemmas.Bool.Decides.{nat_tests}
use Rattle.std.specs.Cmp.Lexicographic.{nat_list_eq_equiv}
use Rattle.stream_types.specs.declared.scalar.Op1.{Op1}
use Rattle.stream_types.specs.declared.scalar.Op2.{Op2}
use Rattle.stream_types.specs.Scalars.{op1_fits, op2_fits, shift_fits, cast_fits, op2_gives}
use Rattle.spec_text.specs.declared.surface.NameAt.{NameAt}
use Rattle.type_check.specs.declared.fault.TypeFault.{TypeFault}
use Rattle.type_check.specs.declared.fault.TypeFault.TheVariants.{NestedArray, TypeTooWide, TypeClash, DropTooFar}
use Rattle.type_check.specs.NamedType.{NamedType, scalar, struct, array, bool, word32, same_type, is_array, Declarations, Struct, declares_struct, words, most_words}
use Rattle.type_check.specs.Judged.{Verdict, has, lacks, if_so, on_one, on_two, on_shift, on_cast, is_too_wide, on_elements, on_items, on_index, on_record, are_fields, Named, extern_of, stream_of, def_of, on_drop, is_bool, on_truths, on_choice, integral, on_integer, is_scalar_that, any_scalar, on_votes}
use Rattle.type_check.proofs.Meaning.{same_scalar_refl}
use Rattle.type_check.proofs.Tables.{IsAlike}

pub same_refl : (t : NamedType) → same_type t t ≡ true
same_refl (scalar s) = same_scalar_refl s
same_refl (struct x) = nat_list_eq_equiv.refl x
same_refl (array t n) = ap (λ b. b && nat_eq n n) (same_refl t) ∙ (grind (arith, nat_tests))

abbrev pub Sound : Declarations → NamedType → Type 0
Sound ds (scalar s) = Unit {0}
Sound ds (struct x) = declares_struct ds x ≡ true
Sound ds (array t n) = (is_array t ≡ false) × Sound ds t × (1 ≤ n) × (n ≤ 1024) × (n * words ds t ≤ 1024)

abbrev pub AllSound : Declarations → List NamedType → Type 0
AllSound ds [] = Unit {0}
AllSound ds (t ∷ ts) = Sound ds t × AllSound ds ts

-- ---- declarations behind others

-- a struct of these is the same in those
pub record IsBehind (ds all : Declarations) : Type 0 where
  pub alike : (x : List ℕ) → declares_struct ds x ≡ true → IsAlike ds all x

pub words_on : (ds all : Declarations) → IsBehind ds all → (t : NamedType) → Sound ds t → words all t ≡ words ds t
words_on ds all b (scalar s) h = refl
words_on ds all b (struct x) h = (b.alike x h).words_are
words_on ds all b (array t n) h = ap (λ k. n * k) (words_on ds all b t h.1)

pub sound_on : (ds all : Declarations) → IsBehind ds all → (t : NamedType) → Sound ds t → Sound all t
sound_on ds all b (scalar s) h = tt
sound_on ds all b (struct x) h = ap is_some (b.alike x h).struct_is ∙ h
sound_on ds all b (array t n) h = (h.0, sound_on ds all b t h.1, h.2, h.3, subst (λ k. n * k ≤ 1024) (sym (words_on ds all b t h.1)) h.4)

pub all_sound_on : (ds all : Declarations) → IsBehind ds all → (ts : List NamedType) → AllSound ds ts → AllSound all ts
all_sound_on ds all b [] h = tt
all_sound_on ds all b (t ∷ ts) h = (sound_on ds all b t h.0, all_sound_on ds all b ts h.1)

-- ---- verdicts

abbrev pub Fits : Declarations → Verdict → Type 0
Fits ds (has t) = Sound ds t
Fits ds (lacks e) = Unit {0}

pub if_fits : (ds : Declarations) (b : Bool) (t : NamedType) (e : TypeFault) → Sound ds t → Fits ds (if_so b t e)
if_fits ds true t e h = h
if_fits ds false t e h = tt

pub one_fits : (ds : Declarations) (at : ℕ) (op : Op1) (t : NamedType) → Fits ds (on_one at op t)
one_fits ds at op (scalar s) = if_fits ds (op1_fits op s) (scalar s) (TypeClash at) tt
one_fits ds at op (struct x) = tt
one_fits ds at op (array t n) = tt

pub two_fits : (ds : Declarations) (at : ℕ) (op : Op2) (t u : NamedType) → Fits ds (on_two at op t u)
two_fits ds at op (scalar s) u = if_fits ds (op2_fits op s && same_type (scalar s) u) (scalar (op2_gives op s)) (TypeClash at) tt
two_fits ds at op (struct x) u = tt
two_fits ds at op (array t n) u = tt

pub shift_is_fit : (ds : Declarations) (at : ℕ) (t u : NamedType) → Fits ds (on_shift at t u)
shift_is_fit ds at (scalar s) (scalar c) = if_fits ds (shift_fits s c) (scalar s) (TypeClash at) tt
shift_is_fit ds at (scalar s) (struct x) = tt
shift_is_fit ds at (scalar s) (array t n) = tt
shift_is_fit ds at (struct x) u = tt
shift_is_fit ds at (array t n) u = tt

pub cast_is_fit : (ds : Declarations) (at : ℕ) (t u : NamedType) → Fits ds (on_cast at t u)
cast_is_fit ds at (scalar s) (scalar c) = if_fits ds (cast_fits c s) (scalar s) (TypeClash at) tt
cast_is_fit ds at (scalar s) (struct x) = tt
cast_is_fit ds at (scalar s) (array t n) = tt
cast_is_fit ds at (struct x) u = tt
cast_is_fit ds at (array t n) u = tt

-- ---- arrays

elements_if : (ds : Declarations) (at n : ℕ) (t : NamedType) (a w : Bool) → is_array t ≡ a → nat_lt most_words (n * words ds t) ≡ w → Sound ds t → 1 ≤ n → n ≤ 1024
    → Fits ds (if a then lacks (NestedArray at) else if w then lacks (TypeTooWide at) else has (array t n))
elements_if ds at n t true w e f h low high = tt
elements_if ds at n t false true e f h low high = tt
elements_if ds at n t false false e f h low high = (e, h, low, high, grind (arith, nat_tests, f))

pub elements_fit : (ds : Declarations) (at n : ℕ) (t : NamedType) → Sound ds t → 1 ≤ n → n ≤ 1024 → Fits ds (on_elements ds at n t)
elements_fit ds at n t h low high = elements_if ds at n t (is_array t) (is_too_wide ds n t) refl refl h low high

items_if : (ds : Declarations) (at : ℕ) (a s : Bool) (v : Verdict) → Fits ds v → Fits ds (if a then lacks (NestedArray at) else if s then v else lacks (TypeClash at))
items_if ds at true s v h = tt
items_if ds at false true v h = h
items_if ds at false false v h = tt

pub items_fit : (ds : Declarations) (at : ℕ) (ts : List NamedType) → AllSound ds ts → length ts ≤ 1024 → Fits ds (on_items ds at ts)
items_fit ds at [] h high = tt
items_fit ds at (t ∷ ts) h high =
    items_if ds at (list_any is_array (t ∷ ts)) (list_all (same_type t) ts) (on_elements ds at (suc (length ts)) t) (elements_fit ds at (suc (length ts)) t h.0 (omega arith) high)

pub index_fits : (ds : Declarations) (at : ℕ) (t i : NamedType) → Sound ds t → Fits ds (on_index at t i)
index_fits ds at (scalar s) i h = tt
index_fits ds at (struct x) i h = tt
index_fits ds at (array t n) i h = if_fits ds (same_type i word32) t (TypeClash at) h.1

-- ---- names, truth values and votes

pub record_fits : (ds : Declarations) (o : Option Struct) (at : ℕ) (x : NameAt) (ts : List NamedType) → (is_some o ≡ true → declares_struct ds x.name ≡ true) → Fits ds (on_record o at x ts)
record_fits ds None at x ts h = tt
record_fits ds (Some s) at x ts h = if_fits ds (are_fields s.before s.fields ts) (struct x.name) (TypeClash at) (h refl)

pub drop_fits : (ds : Declarations) (at k : ℕ) (n : Named) (t : NamedType) → Sound ds t → Fits ds (on_drop at k n t)
drop_fits ds at k (extern_of es ty) t h = tt
drop_fits ds at k (stream_of es ty n) t h = if_fits ds (nat_lt k n) t (DropTooFar at) h
drop_fits ds at k (def_of es ty) t h = tt

pub truths_fit : (ds : Declarations) (at : ℕ) (ts : List NamedType) → Fits ds (on_truths at ts)
truths_fit ds at ts = if_fits ds (list_all is_bool ts) bool (TypeClash at) tt

pub choice_fits : (ds : Declarations) (at : ℕ) (c a b : NamedType) → Sound ds a → Fits ds (on_choice at c a b)
choice_fits ds at c a b h = if_fits ds (is_bool c && same_type a b) a (TypeClash at) h

pub integer_fits : (ds : Declarations) (at : ℕ) (t : NamedType) → Sound ds t → Fits ds (on_integer at t)
integer_fits ds at t h = if_fits ds (integral t) t (TypeClash at) h

pub votes_fit : (ds : Declarations) (at : ℕ) (gives : NamedType → NamedType) (ts : List NamedType) → ((t : NamedType) → Sound ds t → Sound ds (gives t)) → AllSound ds ts → Fits ds (on_votes at gives ts)
votes_fit ds at gives [] g h = tt
votes_fit ds at gives (t ∷ ts) g h = if_fits ds (is_scalar_that any_scalar t && list_all (same_type t) ts) (gives t) (TypeClash at) (g t h.0)
