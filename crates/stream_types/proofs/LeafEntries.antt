-- The scalars of a type, by the entry that it stands for.
use Rattle.std.proofs.Common.{◌≡◌, ℕ, zero, suc, ◌+◌, ◌<◌, List, [], ◌∷◌, ◌++◌, length, take, drop, refl, arith, ap, sym, ◌∙◌, length-append, unwrap_or}
use Rattle.std.specs.Prelude.{slice_get, Some, All}
use Rattle.std.specs.List.{flat_map}
use Rattle.std.proofs.lemmas.List.{take-append-drop}
use Rattle.stream_types.specs.declared.scalar.Scalar.{Scalar}
use Rattle.stream_types.specs.declared.scalar.Ty.{Ty}
use Rattle.stream_types.specs.declared.scalar.Ty.TheVariants as ty
use Rattle.stream_types.specs.declared.types.Field.{Field}
use Rattle.stream_types.specs.declared.types.TypeEntry.{TypeEntry}
use Rattle.stream_types.specs.declared.types.TypeEntry.TheVariants as entry
use Rattle.stream_types.specs.Types.{repeated, leaves_of_fields, leaves_of_entry, all_leaves, leaves}
use Rattle.stream_types.specs.TypeList.{IsArrayEntry, IsStructEntry, Stands, IsGoodEntry, IsTypeList}
use Rattle.stream_types.proofs.GrownLists.{within}
use Rattle.stream_types.proofs.Widths.{Stands-element}

-- ---- places

get-append : {X : Type 0} (xs ys : List X) (i : ℕ) → i < length xs → slice_get (xs ++ ys) i ≡ slice_get xs i
get-append [] ys i h = absurd (omega arith)
get-append (x ∷ xs) ys zero h = refl
get-append (x ∷ xs) ys (suc i) h = get-append xs ys i (omega arith)

get-last : {X : Type 0} (xs : List X) (x : X) (i : ℕ) → i ≡ length xs → slice_get (xs ++ x ∷ []) i ≡ Some x
get-last [] x zero h = refl
get-last [] x (suc i) h = absurd (omega arith)
get-last (y ∷ xs) x zero h = absurd (omega arith)
get-last (y ∷ xs) x (suc i) h = get-last xs x i (omega arith)

-- ---- the scalars of an entry come from those before it

all_leaves-append : (before : List (List Scalar)) (es more : List TypeEntry) → all_leaves before (es ++ more) ≡ all_leaves (all_leaves before es) more
all_leaves-append before [] more = refl
all_leaves-append before (x ∷ es) more = all_leaves-append (before ++ leaves_of_entry before x ∷ []) es more

length-all_leaves : (before : List (List Scalar)) (es : List TypeEntry) → length (all_leaves before es) ≡ length before + length es
length-all_leaves before [] = omega arith
length-all_leaves before (x ∷ es) = omega (arith, length-all_leaves (before ++ leaves_of_entry before x ∷ []) es, length-append before (leaves_of_entry before x ∷ []))

-- what was found stays
leaves_keep : (before : List (List Scalar)) (es : List TypeEntry) (i : ℕ) → i < length before → slice_get (all_leaves before es) i ≡ slice_get before i
leaves_keep before [] i h = refl
leaves_keep before (x ∷ es) i h =
    leaves_keep (before ++ leaves_of_entry before x ∷ []) es i (omega (arith, length-append before (leaves_of_entry before x ∷ [])))
    ∙ get-append before (leaves_of_entry before x ∷ []) i h

found_at : (before : List (List Scalar)) (es : List TypeEntry) (i j : ℕ) (e : TypeEntry) → slice_get es i ≡ Some e → j ≡ length before + i → slice_get (all_leaves before es) j ≡ Some (leaves_of_entry (all_leaves before (take i es)) e)
found_at before [] i j e h p = absurd (cc)
found_at before (x ∷ es) zero j e h p =
    leaves_keep (before ++ leaves_of_entry before x ∷ []) es j (omega (arith, length-append before (leaves_of_entry before x ∷ [])))
    ∙ get-last before (leaves_of_entry before x) j (omega arith)
    ∙ let q : x ≡ e = cc in ap (λ (y : TypeEntry). Some (leaves_of_entry before y)) q
found_at before (x ∷ es) (suc i) j e h p = found_at (before ++ leaves_of_entry before x ∷ []) es i j e h (omega (arith, length-append before (leaves_of_entry before x ∷ [])))

-- ---- a longer list changes no type that stands

at_place : (types more : List TypeEntry) (i : ℕ) → i < length types → unwrap_or (slice_get (all_leaves [] (types ++ more)) i) [] ≡ unwrap_or (slice_get (all_leaves [] types) i) []
at_place types more i h =
    ap (λ before. unwrap_or (slice_get before i) []) (all_leaves-append [] types more)
    ∙ ap (λ o. unwrap_or o []) (leaves_keep (all_leaves [] types) more i (omega (arith, h, length-all_leaves [] types)))

pub leaves-append : (types more : List TypeEntry) (t : Ty) → Stands types t → leaves (types ++ more) t ≡ leaves types t
leaves-append types more (ty.Scalar s) h = refl
leaves-append types more (ty.Array i) h = at_place types more i (within types i IsArrayEntry (λ n. n) h)
leaves-append types more (ty.Struct i) h = at_place types more i (within types i IsStructEntry (λ n. n) h)

fields-append : (types more : List TypeEntry) (fs : List Field) → All (λ (x : Field). Stands types x.ty) fs → leaves_of_fields (all_leaves [] (types ++ more)) fs ≡ leaves_of_fields (all_leaves [] types) fs
fields-append types more [] h = refl
fields-append types more (x ∷ fs) h =
    let a = leaves-append types more x.ty (h 0 x (omega arith)) in
    let b = fields-append types more fs (λ k d p. h (suc k) d (omega arith)) in
    cc

entry-append : (types more : List TypeEntry) (e : TypeEntry) → IsGoodEntry types e → leaves_of_entry (all_leaves [] (types ++ more)) e ≡ leaves_of_entry (all_leaves [] types) e
entry-append types more (entry.Array elem n) h = ap (repeated n) (leaves-append types more elem (Stands-element types elem h.0))
entry-append types more (entry.Struct name fields) h = fields-append types more fields h.0

-- ---- a type's scalars are those of its entry

entry_is : (types : List TypeEntry) (i : ℕ) (e : TypeEntry) → IsTypeList types → slice_get types i ≡ Some e → unwrap_or (slice_get (all_leaves [] types) i) [] ≡ leaves_of_entry (all_leaves [] types) e
entry_is types i e h p =
    ap (λ o. unwrap_or o []) (found_at [] types i i e p (omega arith))
    ∙ sym (entry-append (take i types) (drop i types) e (h.each i e p))
    ∙ ap (λ ts. leaves_of_entry (all_leaves [] ts) e) (take-append-drop i types)

-- n times those of an element
pub leaves-array : (types : List TypeEntry) (i n : ℕ) (elem : Ty) → IsTypeList types → slice_get types i ≡ Some (entry.Array elem n) → leaves types (ty.Array i) ≡ repeated n (leaves types elem)
leaves-array types i n elem h p = entry_is types i (entry.Array elem n) h p

fields_are : (types : List TypeEntry) (fs : List Field) → leaves_of_fields (all_leaves [] types) fs ≡ flat_map (λ (f : Field). leaves types f.ty) fs
fields_are types [] = refl
fields_are types (f ∷ fs) = ap (λ ss. leaves types f.ty ++ ss) (fields_are types fs)

-- those of the members, one after another
pub leaves-struct : (types : List TypeEntry) (i : ℕ) (name : List ℕ) (fields : List Field) → IsTypeList types → slice_get types i ≡ Some (entry.Struct name fields) → leaves types (ty.Struct i) ≡ flat_map (λ (f : Field). leaves types f.ty) fields
leaves-struct types i name fields h p = entry_is types i (entry.Struct name fields) h p ∙ fields_are types fields
