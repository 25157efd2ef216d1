-- How wide the parts of arrays and structs are.
use Rattle.std.proofs.Common.{◌≡◌, ℕ, zero, suc, ◌+◌, ◌*◌, ◌<◌, ◌≤◌, List, [], ◌∷◌, length, take, drop, replicate, Option, Some, None, Ok, Err, ◌⊎◌, inl, inr, refl, sym, ap, ◌∙◌, subst, arith, All}
use Rattle.std.specs.Prelude.{slice_get}
use Rattle.std.proofs.lemmas.Bool.Decides.{nat_tests}
use Rattle.std.proofs.Common.{Fits, w64}
use Rattle.std.proofs.Math.Facts.{Fits-below}
use native.Mathlib.Nat.{mul-le-mul_right}
use Rattle.std.proofs.lemmas.List.{get_or-take, length-drop, length-take}
use Rattle.std.proofs.lemmas.Option.{slice_get_within}
use Rattle.stream_types.specs.declared.scalar.Hazard.TheVariants.{BadIndex}
use Rattle.stream_types.specs.declared.scalar.Ty.{Ty}
use Rattle.stream_types.specs.declared.scalar.Ty.TheVariants as ty
use Rattle.stream_types.specs.declared.types.Field.{Field}
use Rattle.stream_types.specs.declared.types.TypeEntry.{TypeEntry}
use Rattle.stream_types.specs.declared.types.TypeEntry.TheVariants as entry
use Rattle.stream_types.specs.Types.{elem_count, elem_words, entry_of, field_first, field_words, fields_of, fields_words, words, words_of}
use Rattle.stream_types.specs.TypeList.{IsArrayEntry, IsStructEntry, IsTypeList, Stands}
use Rattle.stream_types.proofs.TypeLists.{Stands-take, words-le}
use Rattle.stream_types.proofs.Widths.{Stands-element, words-array, words-entry, words-struct}
use Rattle.stream_core.specs.Eval.{element, member}
use Rattle.stream_core.specs.WellTyped.{HasMember, IsArrayOf, IsStructOf, field_types}
use Rattle.stream_interp.specs.Reading.{entry_parts, part_types, types_words}

pub entry_read : (types : List TypeEntry) (of : Ty) (i : ℕ) (e : TypeEntry) → (of ≡ ty.Array i) ⊎ (of ≡ ty.Struct i) → slice_get types i ≡ Some e → entry_of types of ≡ Some e
entry_read types of i e (inl is) at = ap (entry_of types) is ∙ at
entry_read types of i e (inr is) at = ap (entry_of types) is ∙ at

-- ---- arrays

pub array_entry : (types : List TypeEntry) (of elem : Ty) (n : ℕ) → IsArrayOf types of elem n → entry_of types of ≡ Some (entry.Array elem n)
array_entry types (ty.Scalar s) elem n h = absurd h
array_entry types (ty.Array i) elem n h = h
array_entry types (ty.Struct i) elem n h = absurd h

pub array_stands : (types : List TypeEntry) (of elem : Ty) (n : ℕ) → IsArrayOf types of elem n → Stands types of
array_stands types (ty.Scalar s) elem n h = absurd h
array_stands types (ty.Array i) elem n h = subst IsArrayEntry (sym h) tt
array_stands types (ty.Struct i) elem n h = absurd h

-- an array's elements are of a type of the list, and at most 1,024
elements_good : (types : List TypeEntry) (i : ℕ) (elem : Ty) (n : ℕ) → IsTypeList types → slice_get types i ≡ Some (entry.Array elem n) → Stands types elem × (n ≤ 1024)
elements_good types i elem n list e =
    let good = list.each i (entry.Array elem n) e in
    (Stands-take types i elem (Stands-element (take i types) elem good.0), good.2)

pub elements_stand : (types : List TypeEntry) (of elem : Ty) (n : ℕ) → IsTypeList types → entry_of types of ≡ Some (entry.Array elem n) → Stands types elem × (n ≤ 1024)
elements_stand types (ty.Scalar s) elem n list e = absurd (cc)
elements_stand types (ty.Array i) elem n list e = elements_good types i elem n list e
elements_stand types (ty.Struct i) elem n list e = elements_good types i elem n list e

replicated : (types : List TypeEntry) (n : ℕ) (t : Ty) → types_words types (replicate n t) ≡ n * words types t
replicated types zero t = omega arith
replicated types (suc n) t = let h = replicated types n t in omega (arith, h)

pub array_parts : (types : List TypeEntry) (of elem : Ty) (n : ℕ) → IsTypeList types → IsArrayOf types of elem n
    → (part_types types of ≡ replicate n elem) × (types_words types (part_types types of) ≡ words types of) × (n ≤ 1024)
array_parts types (ty.Scalar s) elem n list h = absurd h
array_parts types (ty.Struct i) elem n list h = absurd h
array_parts types (ty.Array i) elem n list h =
    let is : part_types types (ty.Array i) ≡ replicate n elem = rw h refl in
    (is, ap (types_words types) is ∙ replicated types n elem ∙ sym (words-array types i elem n list h), (elements_good types i elem n list h).1)

pub element_not : (types : List TypeEntry) (e : Option TypeEntry) (v : List ℕ) (k : ℕ) → elem_count e ≤ k → element types e v k ≡ Err BadIndex
element_not types e v k h = grind (arith, nat_tests)

pub element_is : (types : List TypeEntry) (e : Option TypeEntry) (v : List ℕ) (k w : ℕ) → k < elem_count e → elem_words types e ≡ w → element types e v k ≡ Ok (take w (drop (k * w) v))
element_is types e v k w h is = grind (arith, nat_tests)

-- ---- structs

pub struct_entry : (types : List TypeEntry) (of : Ty) (fields : List Field) → IsStructOf types of fields → fields_of (entry_of types of) ≡ fields
struct_entry types (ty.Scalar s) fields h = absurd h
struct_entry types (ty.Array i) fields h = absurd h
struct_entry types (ty.Struct i) fields h = ap fields_of h.1

pub struct_stands : (types : List TypeEntry) (of : Ty) (fields : List Field) → IsStructOf types of fields → Stands types of
struct_stands types (ty.Scalar s) fields h = absurd h
struct_stands types (ty.Array i) fields h = absurd h
struct_stands types (ty.Struct i) fields h = subst IsStructEntry (sym h.1) tt

fields_good : (types : List TypeEntry) (i : ℕ) (name : List ℕ) (fields : List Field) → IsTypeList types → slice_get types i ≡ Some (entry.Struct name fields)
    → All (λ (f : Field). Stands types f.ty) fields × (length fields ≤ 64)
fields_good types i name fields list e =
    let good = list.each i (entry.Struct name fields) e in
    ((λ k d h. Stands-take types i _ (good.0 k d h)), good.2)

pub members_good : (types : List TypeEntry) (of : Ty) (name : List ℕ) (fields : List Field) → IsTypeList types → entry_of types of ≡ Some (entry.Struct name fields)
    → All (λ (f : Field). Stands types f.ty) fields × (length fields ≤ 64)
members_good types (ty.Scalar s) name fields list e = absurd (cc)
members_good types (ty.Array i) name fields list e = fields_good types i name fields list e
members_good types (ty.Struct i) name fields list e = fields_good types i name fields list e

-- the members of any type, which are none but of a struct
pub all_members_good : (types : List TypeEntry) (of : Ty) (o : Option TypeEntry) → IsTypeList types → entry_of types of ≡ o
    → All (λ (f : Field). Stands types f.ty) (fields_of o) × (length (fields_of o) ≤ 64)
all_members_good types of None list e = ((λ k d h. absurd (omega (arith, h))), omega arith)
all_members_good types of (Some (entry.Array elem n)) list e = ((λ k d h. absurd (omega (arith, h))), omega arith)
all_members_good types of (Some (entry.Struct name fields)) list e = members_good types of name fields list e

of_fields : (types : List TypeEntry) (fields : List Field) → types_words types (field_types fields) ≡ fields_words types fields
of_fields types [] = refl
of_fields types (f ∷ fs) = ap (λ n. words types f.ty + n) (of_fields types fs)

pub struct_parts : (types : List TypeEntry) (of : Ty) (fields : List Field) → IsTypeList types → IsStructOf types of fields
    → (part_types types of ≡ field_types fields) × (types_words types (part_types types of) ≡ words types of) × (length fields ≤ 1024)
struct_parts types (ty.Scalar s) fields list h = absurd h
struct_parts types (ty.Array i) fields list h = absurd h
struct_parts types (ty.Struct i) fields list h =
    let e = h.1 in
    let is : part_types types (ty.Struct i) ≡ field_types fields = rw e refl in
    let few = (fields_good types i h.0 fields list e).1 in
    (is, ap (types_words types) is ∙ of_fields types fields ∙ sym (words-struct types i h.0 fields list e), omega (arith, few))

-- the words of member k
pub member_wide : (types : List TypeEntry) (fields : List Field) (k : ℕ) (f : Field) → slice_get fields k ≡ Some f → field_words types fields k ≡ words types f.ty
member_wide types [] k f e = absurd (cc)
member_wide types (g ∷ fs) zero f e = let is : g ≡ f = cc in ap (λ (x : Field). words types x.ty) is
member_wide types (g ∷ fs) (suc k) f e = member_wide types fs k f e

-- a member lies at its words
pub member_is : (types : List TypeEntry) (of t : Ty) (k : ℕ) (h : HasMember types of k t) (v : List ℕ) (w first : ℕ) → words types t ≡ w → first ≡ field_first types (fields_of (entry_of types of)) k
    → member types (entry_of types of) v k ≡ take w (drop first v)
member_is types of t k h v w first wide is =
    let fs = struct_entry types of h.fields h.struct_is in
    let e : field_words types (fields_of (entry_of types of)) k ≡ w = ap (λ xs. field_words types xs k) fs ∙ member_wide types h.fields k h.member h.is ∙ ap (words types) h.type_is ∙ wide in
    ap (λ n. take n (drop (field_first types (fields_of (entry_of types of)) k) v)) e ∙ ap (λ n. take w (drop n v)) (sym is)

-- ---- a member lies within its struct

fields_inside : (types : List TypeEntry) (fields : List Field) (k : ℕ) → k < length fields → field_first types fields k + field_words types fields k ≤ fields_words types fields
fields_inside types [] k h = absurd (omega (arith, h))
fields_inside types (f ∷ fs) zero h = omega arith
fields_inside types (f ∷ fs) (suc k) h = let r = fields_inside types fs k (omega (arith, h)) in omega (arith, r)

struct_words : (types : List TypeEntry) (of : Ty) (fields : List Field) → IsTypeList types → IsStructOf types of fields → words types of ≡ fields_words types fields
struct_words types (ty.Scalar s) fields list h = absurd h
struct_words types (ty.Array i) fields list h = absurd h
struct_words types (ty.Struct i) fields list h = words-struct types i h.0 fields list h.1

pub member_inside : (types : List TypeEntry) (of t : Ty) (k : ℕ) → IsTypeList types → (h : HasMember types of k t) (v : List ℕ) (w first : ℕ) → words types t ≡ w → first ≡ field_first types (fields_of (entry_of types of)) k
    → length v ≡ words types of → length (take w (drop first v)) ≡ w
member_inside types of t k list h v w first wide is long =
    let fit = fields_inside types h.fields k (slice_get_within h.fields k h.member h.is) in
    let own : field_words types h.fields k ≡ w = member_wide types h.fields k h.member h.is ∙ ap (words types) h.type_is ∙ wide in
    let at : first ≡ field_first types h.fields k = is ∙ ap (λ xs. field_first types xs k) (struct_entry types of h.fields h.struct_is) in
    let whole : words types of ≡ fields_words types h.fields = struct_words types of h.fields list h.struct_is in
    let a = length-take w (drop first v) in
    let b = length-drop first v in
    omega (arith, a, b, fit, own, at, whole, long)

pub member_there : (types : List TypeEntry) (of t : Ty) (k : ℕ) → HasMember types of k t → k < length (fields_of (entry_of types of))
member_there types of t k h = let e = ap length (struct_entry types of h.fields h.struct_is) in let b = slice_get_within h.fields k h.member h.is in omega (arith, e, b)

pub all_taken : {X : Type 0} (P : X → Type 0) (xs : List X) (m : ℕ) → All P xs → All P (take m xs)
all_taken P xs m all k d h =
    let l = length-take m xs in
    let below : k < m = omega (arith, l, h) in
    subst P (sym (get_or-take m xs k d below)) (all k d (omega (arith, l, h)))

-- ---- parts by their numbers

replicate_at : (n k : ℕ) (t u : Ty) → slice_get (replicate n t) k ≡ Some u → t ≡ u
replicate_at zero k t u e = absurd (cc)
replicate_at (suc n) zero t u e = cc
replicate_at (suc n) (suc k) t u e = replicate_at n k t u e

pub array_part : (types : List TypeEntry) (of elem : Ty) (n k : ℕ) (t : Ty) → entry_of types of ≡ Some (entry.Array elem n) → slice_get (part_types types of) k ≡ Some t → elem ≡ t
array_part types of elem n k t e at = replicate_at n k elem t (sym (ap (λ o. slice_get (entry_parts o) k) e) ∙ at)

field_at : (fields : List Field) (k : ℕ) (f : Field) (t : Ty) → slice_get fields k ≡ Some f → slice_get (field_types fields) k ≡ Some t → f.ty ≡ t
field_at [] k f t e at = absurd (cc)
field_at (g ∷ fs) zero f t e at = let is : g ≡ f = cc in let u : g.ty ≡ t = cc in sym (ap (λ (x : Field). x.ty) is) ∙ u
field_at (g ∷ fs) (suc k) f t e at = field_at fs k f t e at

pub struct_part : (types : List TypeEntry) (of : Ty) (name : List ℕ) (fields : List Field) (k : ℕ) (f : Field) (t : Ty) → entry_of types of ≡ Some (entry.Struct name fields) → slice_get fields k ≡ Some f
    → slice_get (part_types types of) k ≡ Some t → f.ty ≡ t
struct_part types of name fields k f t e is at = field_at fields k f t is (sym (ap (λ o. slice_get (entry_parts o) k) e) ∙ at)

-- ---- elements

-- k elements of a type of the list, below how many there are, fit
least_product : (k n w : ℕ) → k < n → k * w + w ≤ n * w
least_product k n w h = let a = mul-le-mul_right w (let b : k + 1 ≤ n = omega arith in b) in omega (arith, a)

counted : (types : List TypeEntry) (of : Ty) (o : Option TypeEntry) (k w : ℕ) → IsTypeList types → Stands types of → entry_of types of ≡ o → k < elem_count o → elem_words types o ≡ w
    → (k * w + w ≤ words types of) × (words types of ≤ 1024)
counted types of None k w list stands e h is = absurd (omega (arith, h))
counted types of (Some (entry.Struct name fields)) k w list stands e h is = absurd (omega (arith, h))
counted types of (Some (entry.Array elem n)) k w list stands e h is =
    let a = words-entry types of list stands ∙ ap (words_of types) e in
    let b = least_product k n w h in
    let d : n * words types elem ≡ n * w = ap (λ v. n * v) is in
    let f = words-le types of list in
    (omega (arith, a, b, d), f)

pub from_fits : (types : List TypeEntry) (of : Ty) (k w : ℕ) → IsTypeList types → Stands types of → k < elem_count (entry_of types of) → elem_words types (entry_of types of) ≡ w → Fits w64 (k * w)
from_fits types of k w list stands h is =
    let r = counted types of (entry_of types of) k w list stands refl h is in
    let a = r.0 in
    let b = r.1 in
    Fits-below tt (let d : k * w ≤ 1024 = omega (arith, a, b) in d)

pub element_inside : (types : List TypeEntry) (of : Ty) (v : List ℕ) (k w : ℕ) → IsTypeList types → Stands types of → length v ≡ words types of → k < elem_count (entry_of types of)
    → elem_words types (entry_of types of) ≡ w → length (take w (drop (k * w) v)) ≡ w
element_inside types of v k w list stands long h is =
    let r = (counted types of (entry_of types of) k w list stands refl h is).0 in
    let a = length-take w (drop (k * w) v) in
    let b = length-drop (k * w) v in
    omega (arith, r, a, b, long)
