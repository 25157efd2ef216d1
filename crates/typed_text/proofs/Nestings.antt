-- How deep the constants of a type nest, by the entry that it stands for.
use Rattle.std.proofs.Common.{◌≡◌, ℕ, zero, suc, ◌+◌, ◌<◌, ◌≤◌, List, [], ◌∷◌, ◌++◌, length, take, drop, refl, arith, ap, sym, ◌∙◌, length-append}
use Rattle.std.specs.Prelude.{slice_get, slice_index, max, Some, All}
use Rattle.std.proofs.lemmas.List.{take-append-drop}
use Rattle.stream_types.specs.declared.scalar.Ty.{Ty}
use Rattle.stream_types.specs.declared.scalar.Ty.TheVariants as ty
use Rattle.stream_types.specs.declared.types.Field.{Field}
use Rattle.stream_types.specs.declared.types.TypeEntry.{TypeEntry}
use Rattle.stream_types.specs.declared.types.TypeEntry.TheVariants as entry
use Rattle.stream_types.specs.TypeList.{IsArrayEntry, IsStructEntry, Stands, IsGoodEntry, IsTypeList}
use Rattle.stream_types.proofs.GrownLists.{within}
use Rattle.stream_types.proofs.Widths.{Stands-element}
use Rattle.stream_core.specs.WellTyped.{nesting_at, deepest, entry_nesting, nestings, nesting}

nestings-append : (before : List ℕ) (es more : List TypeEntry) → nestings before (es ++ more) ≡ nestings (nestings before es) more
nestings-append before [] more = refl
nestings-append before (x ∷ es) more = nestings-append (before ++ entry_nesting before x ∷ []) es more

length-nestings : (before : List ℕ) (es : List TypeEntry) → length (nestings before es) ≡ length before + length es
length-nestings before [] = omega arith
length-nestings before (x ∷ es) = omega (arith, length-nestings (before ++ entry_nesting before x ∷ []) es, length-append before (entry_nesting before x ∷ []))

index-append : (xs ys : List ℕ) (i : ℕ) → i < length xs → slice_index (xs ++ ys) i ≡ slice_index xs i
index-append [] ys i h = absurd (omega arith)
index-append (x ∷ xs) ys zero h = refl
index-append (x ∷ xs) ys (suc i) h = index-append xs ys i (omega arith)

index-last : (xs : List ℕ) (x i : ℕ) → i ≡ length xs → slice_index (xs ++ x ∷ []) i ≡ x
index-last [] x zero h = refl
index-last [] x (suc i) h = absurd (omega arith)
index-last (y ∷ xs) x zero h = absurd (omega arith)
index-last (y ∷ xs) x (suc i) h = index-last xs x i (omega arith)

-- what was found stays
nestings_keep : (before : List ℕ) (es : List TypeEntry) (i : ℕ) → i < length before → slice_index (nestings before es) i ≡ slice_index before i
nestings_keep before [] i h = refl
nestings_keep before (x ∷ es) i h =
    nestings_keep (before ++ entry_nesting before x ∷ []) es i (omega (arith, length-append before (entry_nesting before x ∷ [])))
    ∙ index-append before (entry_nesting before x ∷ []) i h

nesting_found : (before : List ℕ) (es : List TypeEntry) (i j : ℕ) (e : TypeEntry) → slice_get es i ≡ Some e → j ≡ length before + i → slice_index (nestings before es) j ≡ entry_nesting (nestings before (take i es)) e
nesting_found before [] i j e h p = absurd (cc)
nesting_found before (x ∷ es) zero j e h p =
    nestings_keep (before ++ entry_nesting before x ∷ []) es j (omega (arith, length-append before (entry_nesting before x ∷ [])))
    ∙ index-last before (entry_nesting before x) j (omega arith)
    ∙ let q : x ≡ e = cc in ap (λ (y : TypeEntry). entry_nesting before y) q
nesting_found before (x ∷ es) (suc i) j e h p = nesting_found (before ++ entry_nesting before x ∷ []) es i j e h (omega (arith, length-append before (entry_nesting before x ∷ [])))

-- ---- a longer list changes no type that stands

type-append : (types more : List TypeEntry) (t : Ty) → Stands types t → nesting_at (nestings [] (types ++ more)) t ≡ nesting_at (nestings [] types) t
type-append types more (ty.Scalar s) h = refl
type-append types more (ty.Array j) h = ap (λ ns. slice_index ns j) (nestings-append [] types more) ∙ nestings_keep (nestings [] types) more j (omega (arith, length-nestings [] types, within types j IsArrayEntry (λ n. n) h))
type-append types more (ty.Struct j) h = ap (λ ns. slice_index ns j) (nestings-append [] types more) ∙ nestings_keep (nestings [] types) more j (omega (arith, length-nestings [] types, within types j IsStructEntry (λ n. n) h))

fields-append : (types more : List TypeEntry) (fs : List Field) → All (λ (x : Field). Stands types x.ty) fs → deepest (nestings [] (types ++ more)) fs ≡ deepest (nestings [] types) fs
fields-append types more [] h = refl
fields-append types more (x ∷ fs) h =
    ap (λ n. max n (deepest (nestings [] (types ++ more)) fs)) (type-append types more x.ty (h 0 x (omega arith)))
    ∙ ap (λ n. max (nesting_at (nestings [] types) x.ty) n) (fields-append types more fs (λ k d p. h (suc k) d (omega arith)))

entry-append : (types more : List TypeEntry) (e : TypeEntry) → IsGoodEntry types e → entry_nesting (nestings [] (types ++ more)) e ≡ entry_nesting (nestings [] types) e
entry-append types more (entry.Array elem n) h = ap (λ k. 1 + k) (type-append types more elem (Stands-element types elem h.0))
entry-append types more (entry.Struct name fields) h = ap (λ k. 1 + k) (fields-append types more fields h.0)

-- ---- a type nests as deep as its entry

nesting_is : (types : List TypeEntry) (i : ℕ) (e : TypeEntry) → IsTypeList types → slice_get types i ≡ Some e → slice_index (nestings [] types) i ≡ entry_nesting (nestings [] types) e
nesting_is types i e h p =
    nesting_found [] types i i e p (omega arith)
    ∙ sym (entry-append (take i types) (drop i types) e (h.each i e p))
    ∙ ap (λ ts. entry_nesting (nestings [] ts) e) (take-append-drop i types)

pub nesting-array : (types : List TypeEntry) (i n : ℕ) (elem : Ty) → IsTypeList types → slice_get types i ≡ Some (entry.Array elem n) → nesting types (ty.Array i) ≡ 1 + nesting types elem
nesting-array types i n elem h p = nesting_is types i (entry.Array elem n) h p

pub nesting-struct : (types : List TypeEntry) (i : ℕ) (name : List ℕ) (fields : List Field) → IsTypeList types → slice_get types i ≡ Some (entry.Struct name fields) → nesting types (ty.Struct i) ≡ 1 + deepest (nestings [] types) fields
nesting-struct types i name fields h p = nesting_is types i (entry.Struct name fields) h p
