-- Types of an order by their numbers, and the entries of the types so far.
use Rattle.std.proofs.Common.{◌≡◌, ◌≤◌, ◌+◌, ℕ, zero, suc, Bool, true, false, cond, not, List, [], ◌∷◌, ◌++◌, length, take, refl, sym, ap, ◌∙◌, append-nil, append_assoc, length-append, arith}
use Rattle.std.specs.Prelude.{◌||◌, slice_get, Some}
use Rattle.stream_types.specs.declared.scalar.Ty.TheVariants as ty
use Rattle.stream_types.specs.declared.types.TypeEntry.{TypeEntry}
use Rattle.stream_types.specs.declared.types.TypeEntry.TheVariants as entry
use Rattle.type_check.specs.NamedType.{NamedType, scalar, struct, array, same_type, Declarations, struct_in}
use Rattle.type_check.specs.TypeOrder.{number_of, ty_of, fields_of, entry_of, entries}
use Rattle.type_check.proofs.Meaning.{same_true}
use Rattle.type_check.proofs.SoundTypes.{same_refl}
use Rattle.type_check.proofs.Placing.{among, MayStand, Steps}

-- ---- entries

-- the entry of a type that is no scalar
abbrev pub one_entry : Declarations → List NamedType → NamedType → TypeEntry
one_entry all order (scalar s) = entry.Array (ty.Scalar s) 0
one_entry all order (struct x) = entry.Struct x (fields_of order (struct_in all x))
one_entry all order (array t n) = entry.Array (ty_of order t) n

pub entries_one : (all : Declarations) (order before : List NamedType) (t : NamedType) → MayStand all before t → entry_of all order t ≡ one_entry all order t ∷ []
entries_one all order before (scalar s) m = elim m [ ]
entries_one all order before (struct x) m = refl
entries_one all order before (array t n) m = refl

entries_append : (all : Declarations) (order xs ys : List NamedType) → entries all order (xs ++ ys) ≡ entries all order xs ++ entries all order ys
entries_append all order [] ys = refl
entries_append all order (x ∷ xs) ys = ap (λ l. entry_of all order x ++ l) (entries_append all order xs ys) ∙ sym (append_assoc (entry_of all order x) (entries all order xs) (entries all order ys))

pub entries_more : (all : Declarations) (order before : List NamedType) (t : NamedType) → MayStand all before t → entries all order (before ++ t ∷ []) ≡ entries all order before ++ one_entry all order t ∷ []
entries_more all order before t m = entries_append all order before (t ∷ []) ∙ ap (λ l. entries all order before ++ l) (append-nil (entry_of all order t) ∙ entries_one all order before t m)

-- each type has one entry
pub entries_count : (all : Declarations) (order before ts : List NamedType) (i : ℕ) → Steps all before ts → i ≤ length ts → length (entries all order (take i ts)) ≡ i
entries_count all order before ts zero s l = refl
entries_count all order before [] (suc i) s l = absurd (omega arith)
entries_count all order before (t ∷ ts) (suc i) s l =
    let r = entries_count all order (before ++ t ∷ []) ts i s.1 (omega arith) in
    let e = length-append (entry_of all order t) (entries all order (take i ts)) in
    let f = ap length (entries_one all order before t s.0) in
    omega (arith, r, e, f)

-- ---- numbers

after_first : (u : NamedType) (ts : List NamedType) (p : ℕ) → slice_get (u ∷ ts) (1 + p) ≡ slice_get ts p
after_first u ts p = let e : 1 + p ≡ suc p = omega arith in ap (slice_get (u ∷ ts)) e

number_if : (u t : NamedType) (before post : List NamedType) (b : Bool) → same_type t u ≡ b → (same_type t u || among t before) ≡ true → (among t before ≡ true → slice_get before (number_of (before ++ post) t) ≡ Some t)
    → slice_get (u ∷ before) (cond (not (same_type t u)) (1 + number_of (before ++ post) t) 0) ≡ Some t
number_if u t before post true e h f = ap (λ b. slice_get (u ∷ before) (cond (not b) (1 + number_of (before ++ post) t) 0)) e ∙ ap Some (sym (same_true t u e))
number_if u t before post false e h f =
    ap (λ b. slice_get (u ∷ before) (cond (not b) (1 + number_of (before ++ post) t) 0)) e ∙ after_first u before (number_of (before ++ post) t)
    ∙ f (sym (ap (λ b. b || among t before) e) ∙ h)

-- a type that is among the first is at the place of its number
pub number_at : (before post : List NamedType) (t : NamedType) → among t before ≡ true → slice_get before (number_of (before ++ post) t) ≡ Some t
number_at [] post t h = absurd (cc)
number_at (u ∷ before) post t h = number_if u t before post (same_type t u) refl h (λ g. number_at before post t g)

pub among_at : (ts : List NamedType) (i : ℕ) (t : NamedType) → slice_get ts i ≡ Some t → among t ts ≡ true
among_at [] i t h = absurd (cc)
among_at (u ∷ ts) zero t h = let e : t ≡ u = cc in ap (λ v. same_type t v || among t ts) (sym e) ∙ ap (λ b. b || among t ts) (same_refl t)
among_at (u ∷ ts) (suc i) t h = right (same_type t u) (among t ts) (among_at ts i t h)
  where
    right : (a b : Bool) → b ≡ true → (a || b) ≡ true
    right true b e = refl
    right false b e = e
