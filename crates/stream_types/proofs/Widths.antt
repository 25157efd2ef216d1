-- How wide the types of a list are, by the entry that each stands for.
use Rattle.std.proofs.Common.{◌≡◌, ℕ, zero, suc, ◌+◌, ◌*◌, ◌<◌, ◌≤◌, List, [], ◌∷◌, ◌++◌, length, take, drop, refl, arith, ap, sym, ◌∙◌, length-append}
use Rattle.std.specs.Prelude.{slice_index_or, Option, None, IsSome, slice_get, slice_index, Some, All}
use Rattle.stream_types.specs.declared.scalar.Scalar.{Scalar}
use Rattle.stream_types.specs.declared.scalar.Ty.{Ty}
use Rattle.stream_types.specs.declared.scalar.Ty.TheVariants as ty
use Rattle.stream_types.specs.declared.types.Field.{Field}
use Rattle.stream_types.specs.declared.types.FieldAt.{FieldAt}
use Rattle.stream_types.specs.declared.types.TypeEntry.{TypeEntry}
use Rattle.stream_types.specs.declared.types.TypeEntry.TheVariants as entry
use Rattle.stream_types.specs.Types.{entry_words, words_of, entry_of, fields_of, at_type, at_fields, at_entry, measures, one_word, scalar_bytes, words, size, fields_words}
use Rattle.stream_types.specs.TypeList.{IsArrayEntry, IsStructEntry, Stands, IsElement, IsGoodEntry, IsMember, IsNamedAt, IsTypeList}
use Rattle.std.proofs.lemmas.List.{take-append-drop}
use Rattle.std.proofs.lemmas.Option.{get_or_from_slice_get, slice_get_within}
use Rattle.stream_types.proofs.GrownLists.{within}
use Rattle.stream_types.proofs.TypeLists.{struct_stands}

measures-append : (f : Scalar → ℕ) (before : List ℕ) (es more : List TypeEntry) → measures f before (es ++ more) ≡ measures f (measures f before es) more
measures-append f before [] more = refl
measures-append f before (x ∷ es) more = measures-append f (before ++ at_entry f before x ∷ []) es more

length-measures : (f : Scalar → ℕ) (before : List ℕ) (es : List TypeEntry) → length (measures f before es) ≡ length before + length es
length-measures f before [] = omega arith
length-measures f before (x ∷ es) = omega (arith, length-measures f (before ++ at_entry f before x ∷ []) es, length-append before (at_entry f before x ∷ []))

slice_index-append : (xs ys : List ℕ) (i : ℕ) → i < length xs → slice_index (xs ++ ys) i ≡ slice_index xs i
slice_index-append [] ys i h = absurd (omega arith)
slice_index-append (x ∷ xs) ys zero h = refl
slice_index-append (x ∷ xs) ys (suc i) h = slice_index-append xs ys i (omega arith)

slice_index-last : (xs : List ℕ) (x i : ℕ) → i ≡ length xs → slice_index (xs ++ x ∷ []) i ≡ x
slice_index-last [] x zero h = refl
slice_index-last [] x (suc i) h = absurd (omega arith)
slice_index-last (y ∷ xs) x zero h = absurd (omega arith)
slice_index-last (y ∷ xs) x (suc i) h = slice_index-last xs x i (omega arith)

-- what was found stays
measures_keep : (f : Scalar → ℕ) (before : List ℕ) (es : List TypeEntry) (i : ℕ) → i < length before → slice_index (measures f before es) i ≡ slice_index before i
measures_keep f before [] i h = refl
measures_keep f before (x ∷ es) i h =
    measures_keep f (before ++ at_entry f before x ∷ []) es i (omega (arith, length-append before (at_entry f before x ∷ [])))
    ∙ slice_index-append before (at_entry f before x ∷ []) i h

-- an entry is measured by those before it
measure_at : (f : Scalar → ℕ) (before : List ℕ) (es : List TypeEntry) (i j : ℕ) (e : TypeEntry) → slice_get es i ≡ Some e → j ≡ length before + i → slice_index (measures f before es) j ≡ at_entry f (measures f before (take i es)) e
measure_at f before [] i j e h p = absurd (cc)
measure_at f before (x ∷ es) zero j e h p =
    measures_keep f (before ++ at_entry f before x ∷ []) es j (omega (arith, length-append before (at_entry f before x ∷ [])))
    ∙ slice_index-last before (at_entry f before x) j (omega arith)
    ∙ let q : x ≡ e = cc in ap (λ y. at_entry f before y) q
measure_at f before (x ∷ es) (suc i) j e h p = measure_at f (before ++ at_entry f before x ∷ []) es i j e h (omega (arith, length-append before (at_entry f before x ∷ [])))

-- ---- a longer list changes no type that stands

pub at_type-append : (f : Scalar → ℕ) (types more : List TypeEntry) (t : Ty) → Stands types t → at_type f (measures f [] (types ++ more)) t ≡ at_type f (measures f [] types) t
at_type-append f types more (ty.Scalar s) h = refl
at_type-append f types more (ty.Array j) h = rw (measures-append f [] types more) (measures_keep f (measures f [] types) more j (omega (arith, length-measures f [] types, within types j IsArrayEntry (λ n. n) h)))
at_type-append f types more (ty.Struct j) h = rw (measures-append f [] types more) (measures_keep f (measures f [] types) more j (omega (arith, length-measures f [] types, within types j IsStructEntry (λ n. n) h)))

pub words-append : (types more : List TypeEntry) (t : Ty) → Stands types t → words (types ++ more) t ≡ words types t
words-append types more t h = at_type-append one_word types more t h

pub size-append : (types more : List TypeEntry) (t : Ty) → Stands types t → size (types ++ more) t ≡ size types t
size-append types more t h = at_type-append scalar_bytes types more t h

pub Stands-element : (types : List TypeEntry) (t : Ty) → IsElement types t → Stands types t
Stands-element types (ty.Scalar s) h = tt
Stands-element types (ty.Array i) h = absurd h
Stands-element types (ty.Struct i) h = h

at_fields-append : (f : Scalar → ℕ) (types more : List TypeEntry) (fs : List Field) → All (λ (x : Field). Stands types x.ty) fs → at_fields f (measures f [] (types ++ more)) fs ≡ at_fields f (measures f [] types) fs
at_fields-append f types more [] h = refl
at_fields-append f types more (x ∷ fs) h =
    let a = at_type-append f types more x.ty (h 0 x (omega arith)) in
    let b = at_fields-append f types more fs (λ k d p. h (suc k) d (omega arith)) in
    omega arith

at_entry-append : (f : Scalar → ℕ) (types more : List TypeEntry) (e : TypeEntry) → IsGoodEntry types e → at_entry f (measures f [] (types ++ more)) e ≡ at_entry f (measures f [] types) e
at_entry-append f types more (entry.Array elem n) h = ap (λ k. n * k) (at_type-append f types more elem (Stands-element types elem h.0))
at_entry-append f types more (entry.Struct name fields) h = at_fields-append f types more fields h.0

-- ---- a type's width is that of its entry

pub measure_is : (f : Scalar → ℕ) (types : List TypeEntry) (i : ℕ) (e : TypeEntry) → IsTypeList types → slice_get types i ≡ Some e → slice_index (measures f [] types) i ≡ at_entry f (measures f [] types) e
measure_is f types i e h p =
    measure_at f [] types i i e p (omega arith)
    ∙ sym (at_entry-append f (take i types) (drop i types) e (h.each i e p))
    ∙ ap (λ ts. at_entry f (measures f [] ts) e) (take-append-drop i types)

pub words-array : (types : List TypeEntry) (i : ℕ) (elem : Ty) (n : ℕ) → IsTypeList types → slice_get types i ≡ Some (entry.Array elem n) → words types (ty.Array i) ≡ n * words types elem
words-array types i elem n h p = measure_is one_word types i (entry.Array elem n) h p

pub words-struct : (types : List TypeEntry) (i : ℕ) (name : List ℕ) (fields : List Field) → IsTypeList types → slice_get types i ≡ Some (entry.Struct name fields) → words types (ty.Struct i) ≡ fields_words types fields
words-struct types i name fields h p = measure_is one_word types i (entry.Struct name fields) h p

at_some : (o : Option TypeEntry) (P : Option TypeEntry → Type 0) → ¬ P None → P o → IsSome o
at_some None P n h = absurd (n h)
at_some (Some e) P n h = refl

by_entry : (types : List TypeEntry) (i : ℕ) (o : Option TypeEntry) → IsTypeList types → slice_get types i ≡ o → IsSome o → slice_index (entry_words types) i ≡ words_of types o
by_entry types i None h p s = absurd (cc)
by_entry types i (Some (entry.Array elem n)) h p s = measure_is one_word types i (entry.Array elem n) h p
by_entry types i (Some (entry.Struct name fields)) h p s = measure_is one_word types i (entry.Struct name fields) h p

-- a type's words by its entry
pub words-entry : (types : List TypeEntry) (t : Ty) → IsTypeList types → Stands types t → words types t ≡ words_of types (entry_of types t)
words-entry types (ty.Scalar s) h p = refl
words-entry types (ty.Array i) h p = by_entry types i (slice_get types i) h refl (at_some _ IsArrayEntry (λ n. n) p)
words-entry types (ty.Struct i) h p = by_entry types i (slice_get types i) h refl (at_some _ IsStructEntry (λ n. n) p)

-- ---- members

at_fields-member : (f : Scalar → ℕ) (ws : List ℕ) (fs : List Field) (i : ℕ) (x : Field) → slice_get fs i ≡ Some x → at_fields f ws (take i fs) + at_type f ws x.ty ≤ at_fields f ws fs
at_fields-member f ws [] i x h = absurd (cc)
at_fields-member f ws (y ∷ fs) zero x h = let e : x ≡ y = cc in rw e (omega arith)
at_fields-member f ws (y ∷ fs) (suc i) x h = omega (arith, at_fields-member f ws fs i x h)

member_of : (types : List TypeEntry) (i : ℕ) (o : Option TypeEntry) (name : List ℕ) (at : FieldAt) → IsTypeList types → slice_get types i ≡ o → IsMember types (fields_of o) name at → Stands types at.ty × (at.first + words types at.ty ≤ slice_index (entry_words types) i)
member_of types i None name at h p m = absurd (let q = m.is in cc)
member_of types i (Some (entry.Array elem n)) name at h p m = absurd (let q = m.is in cc)
member_of types i (Some (entry.Struct of fields)) name at h p m =
    let stands : Stands types (slice_index_or fields m.place m.member).ty = struct_stands types i of fields h p m.place m.member (slice_get_within fields m.place m.member m.is) in
    let read : slice_index_or fields m.place m.member ≡ m.member = get_or_from_slice_get fields m.place m.member m.member m.is in
    let width = at_fields-member one_word (entry_words types) fields m.place m.member m.is in
    let whole = measure_is one_word types i (entry.Struct of fields) h p in
    (rw (m.type_is, ← read) stands, rw (m.type_is, m.first_is, whole) width)

-- a member's type stands in the list, and its words lie within the struct's
pub IsMember-within : (types : List TypeEntry) (t : Ty) (name : List ℕ) (at : FieldAt) → IsTypeList types → IsMember types (fields_of (entry_of types t)) name at → Stands types at.ty × (at.first + words types at.ty ≤ words types t)
IsMember-within types (ty.Scalar s) name at h m = absurd (let q = m.is in cc)
IsMember-within types (ty.Array i) name at h m = member_of types i (slice_get types i) name at h refl m
IsMember-within types (ty.Struct i) name at h m = member_of types i (slice_get types i) name at h refl m

-- what a search by name finds stands in the list, and lies within its struct
pub found_within : (types : List TypeEntry) (t : Ty) (fields : List Field) (name : List ℕ) (place : ℕ) (x : Field) (first : ℕ) → IsTypeList types → fields ≡ fields_of (entry_of types t) → IsNamedAt fields name place → first ≡ fields_words types (take place fields) → Stands types (slice_index_or fields place x).ty × (first + words types (slice_index_or fields place x).ty ≤ words types t)
found_within types t fields name place x first h e n q =
    let read : slice_index_or fields place x ≡ n.field = get_or_from_slice_get fields place n.field x n.is in
    let at : FieldAt = record { first = first; ty = (slice_index_or fields place x).ty } in
    let m : IsMember types fields name at = record { place = place; member = n.field; is = n.is; named = n.named; type_is = ap (λ (f : Field). f.ty) read; first_is = q } in
    IsMember-within types t name at h (rw (← e) m)
