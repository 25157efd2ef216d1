-- Type lists that grow at their end.
use Rattle.std.proofs.Common.{◌≡◌, ◌≢◌, ℕ, zero, suc, ◌+◌, ◌*◌, ◌<◌, ◌≤◌, List, [], ◌∷◌, ◌++◌, length, take, refl, arith, inl, inr, ap, sym, ◌∙◌, subst, length-append, add-one}
use Rattle.std.specs.Prelude.{slice_get, slice_index, slice_index_or, Some, ◌⊎◌, All}
use Rattle.std.proofs.Math.Nat.{mul-le-mul_left}
use Rattle.std.proofs.lemmas.List.{length-map, map_push}
use Rattle.stream_types.specs.declared.scalar.Scalar.{Scalar}
use Rattle.stream_types.specs.declared.scalar.Scalar.TheVariants as scalar
use Rattle.stream_types.specs.declared.scalar.Ty.{Ty}
use Rattle.stream_types.specs.declared.scalar.Ty.TheVariants as ty
use Rattle.stream_types.specs.declared.types.Field.{Field}
use Rattle.stream_types.specs.declared.types.TypeEntry.{TypeEntry}
use Rattle.stream_types.specs.declared.types.TypeEntry.TheVariants as entry
use Rattle.stream_types.specs.declared.types.Measured.{Measured}
use Rattle.stream_types.specs.Types.{at_type, at_fields, at_entry, measures, one_word, scalar_bytes, entry_words, entry_bytes, words, size}
use Rattle.stream_types.specs.TypeList.{IsArrayEntry, IsStructEntry, Stands, IsNewName, IsNewEntry, IsGoodEntry, IsTypeList}
use Rattle.stream_types.specs.Measures.{IsKept, entries_of}
use Rattle.stream_types.proofs.GrownLists.{at_take, at_append, get_push, take-push, take-length, index_push, within, slice_get-map_read, slice_index-map_read}

-- ---- types stand on in longer lists

pub Stands-take : (types : List TypeEntry) (i : ℕ) (t : Ty) → Stands (take i types) t → Stands types t
Stands-take types i (ty.Scalar s) h = tt
Stands-take types i (ty.Array j) h = at_take types i j IsArrayEntry (λ n. n) h
Stands-take types i (ty.Struct j) h = at_take types i j IsStructEntry (λ n. n) h

pub Stands-append : (types more : List TypeEntry) (t : Ty) → Stands types t → Stands (types ++ more) t
Stands-append types more (ty.Scalar s) h = tt
Stands-append types more (ty.Array j) h = at_append types more j IsArrayEntry (λ n. n) h
Stands-append types more (ty.Struct j) h = at_append types more j IsStructEntry (λ n. n) h

-- ---- one more entry

pub measures-push : (f : Scalar → ℕ) (before : List ℕ) (es : List TypeEntry) (e : TypeEntry) → measures f before (es ++ e ∷ []) ≡ measures f before es ++ at_entry f (measures f before es) e ∷ []
measures-push f before [] e = refl
measures-push f before (x ∷ es) e = measures-push f (before ++ at_entry f before x ∷ []) es e

new_struct : (types : List TypeEntry) (e : TypeEntry) (name : List ℕ) (fields : List Field) → e ≡ entry.Struct name fields → IsNewEntry types e → IsNewName types name
new_struct types e name fields p h = subst (IsNewEntry types) p h

new_array : (types : List TypeEntry) (e : TypeEntry) (elem : Ty) (n : ℕ) → e ≡ entry.Array elem n → IsNewEntry types e → (i : ℕ) → slice_get types i ≢ Some (entry.Array elem n)
new_array types e elem n p h = subst (IsNewEntry types) p h

pub IsTypeList-push : (types : List TypeEntry) (e : TypeEntry) → IsTypeList types → IsGoodEntry types e → IsNewEntry types e → at_entry one_word (entry_words types) e ≤ 1024 → length types < 4294967295 → IsTypeList (types ++ e ∷ [])
IsTypeList-push types e h good new most room = record {
  each = λ i x p. elim (get_push types e x i p) [ inl a ↦ rw (take-push types e i (omega (arith, a.0))) (h.each i x a.1) | inr b ↦ rw (b.0, take-push types e (length types) (omega arith), take-length types, ← b.1) good ];
  narrow = λ i. rw (measures-push one_word [] types e) (index_push (entry_words types) _ 1024 i h.narrow most);
  structs = λ i j name fs gs p q. elim (get_push types e (entry.Struct name fs) i p) [ inl a ↦ elim (get_push types e (entry.Struct name gs) j q) [ inl b ↦ h.structs i j name fs gs a.1 b.1 | inr b ↦ absurd (new_struct types e name gs b.1 new i fs a.1) ] | inr a ↦ elim (get_push types e (entry.Struct name gs) j q) [ inl b ↦ absurd (new_struct types e name fs a.1 new j gs b.1) | inr b ↦ a.0 ∙ sym b.0 ] ];
  arrays = λ i j elem n p q. elim (get_push types e (entry.Array elem n) i p) [ inl a ↦ elim (get_push types e (entry.Array elem n) j q) [ inl b ↦ h.arrays i j elem n a.1 b.1 | inr b ↦ absurd (new_array types e elem n b.1 new i a.1) ] | inr a ↦ elim (get_push types e (entry.Array elem n) j q) [ inl b ↦ absurd (new_array types e elem n a.1 new j b.1) | inr b ↦ a.0 ∙ sym b.0 ] ];
  short = omega (arith, length-append types (e ∷ []));
}

kept_push : (kept : List Measured) (m : Measured) → IsKept kept → IsGoodEntry (entries_of kept) m.entry → IsNewEntry (entries_of kept) m.entry → m.extent.words ≡ at_entry one_word (entry_words (entries_of kept)) m.entry → m.extent.bytes ≡ at_entry scalar_bytes (entry_bytes (entries_of kept)) m.entry → m.extent.words ≤ 1024 → length (entries_of kept) < 4294967295 → IsKept (kept ++ m ∷ [])
kept_push kept m h good new w b most room =
    let e = map_push (λ (k : Measured). k.entry) kept m in
    let p : at_entry one_word (entry_words (entries_of kept)) m.entry ≤ 1024 = omega arith in
    record {
      types = rw e (IsTypeList-push (entries_of kept) m.entry h.types good new p room);
      words_are = rw (e, map_push (λ (k : Measured). k.extent.words) kept m, measures-push one_word [] (entries_of kept) m.entry, h.words_are, w) refl;
      bytes_are = rw (e, map_push (λ (k : Measured). k.extent.bytes) kept m, measures-push scalar_bytes [] (entries_of kept) m.entry, h.bytes_are, b) refl;
    }

pub IsKept-push : (kept : List Measured) (types : List TypeEntry) (m : Measured) → entries_of kept ≡ types → IsKept kept → IsGoodEntry types m.entry → IsNewEntry types m.entry → m.extent.words ≡ at_entry one_word (entry_words types) m.entry → m.extent.bytes ≡ at_entry scalar_bytes (entry_bytes types) m.entry → m.extent.words ≤ 1024 → length types < 4294967295 → IsKept (kept ++ m ∷ [])
IsKept-push kept types m e h good new w b most room = kept_push kept m h (rw e good) (rw e new) (rw e w) (rw e b) most (rw e room)

-- ---- bounds

scalar_bytes-le : (s : Scalar) → scalar_bytes s ≤ 8
scalar_bytes-le scalar.Bool = omega arith
scalar_bytes-le scalar.Int8 = omega arith
scalar_bytes-le scalar.Int16 = omega arith
scalar_bytes-le scalar.Int32 = omega arith
scalar_bytes-le scalar.Int64 = omega arith
scalar_bytes-le scalar.Word8 = omega arith
scalar_bytes-le scalar.Word16 = omega arith
scalar_bytes-le scalar.Word32 = omega arith
scalar_bytes-le scalar.Word64 = omega arith

-- each number is at most eight times the other
abbrev IsWithin : List ℕ → List ℕ → Type 0
IsWithin bs ws = (i : ℕ) → slice_index bs i ≤ 8 * slice_index ws i

at_type-le : (bs ws : List ℕ) (t : Ty) → IsWithin bs ws → at_type scalar_bytes bs t ≤ 8 * at_type one_word ws t
at_type-le bs ws (ty.Scalar s) h = scalar_bytes-le s
at_type-le bs ws (ty.Array i) h = h i
at_type-le bs ws (ty.Struct i) h = h i

at_fields-le : (bs ws : List ℕ) (fs : List Field) → IsWithin bs ws → at_fields scalar_bytes bs fs ≤ 8 * at_fields one_word ws fs
at_fields-le bs ws [] h = omega arith
at_fields-le bs ws (f ∷ fs) h = omega (arith, at_type-le bs ws f.ty h, at_fields-le bs ws fs h)

at_entry-le : (bs ws : List ℕ) (e : TypeEntry) → IsWithin bs ws → at_entry scalar_bytes bs e ≤ 8 * at_entry one_word ws e
at_entry-le bs ws (entry.Array elem n) h = omega (arith, mul-le-mul_left n (at_type-le bs ws elem h))
at_entry-le bs ws (entry.Struct name fields) h = at_fields-le bs ws fields h

within_push : (bs ws : List ℕ) (b w : ℕ) → length bs ≡ length ws → IsWithin bs ws → b ≤ 8 * w → IsWithin (bs ++ b ∷ []) (ws ++ w ∷ [])
within_push [] [] b w e h p zero = p
within_push [] [] b w e h p (suc i) = omega arith
within_push [] (y ∷ ws) b w e h p i = absurd (omega arith)
within_push (x ∷ bs) [] b w e h p i = absurd (omega arith)
within_push (x ∷ bs) (y ∷ ws) b w e h p zero = h 0
within_push (x ∷ bs) (y ∷ ws) b w e h p (suc i) = within_push bs ws b w (omega arith) (λ k. h (suc k)) p i

measures-le : (bs ws : List ℕ) (es : List TypeEntry) → length bs ≡ length ws → IsWithin bs ws → IsWithin (measures scalar_bytes bs es) (measures one_word ws es)
measures-le bs ws [] e h = h
measures-le bs ws (x ∷ es) e h =
    let p : length (bs ++ at_entry scalar_bytes bs x ∷ []) ≡ length (ws ++ at_entry one_word ws x ∷ []) = omega (arith, length-append bs (at_entry scalar_bytes bs x ∷ []), length-append ws (at_entry one_word ws x ∷ [])) in
    measures-le (bs ++ at_entry scalar_bytes bs x ∷ []) (ws ++ at_entry one_word ws x ∷ []) es p (within_push bs ws _ _ e h (at_entry-le bs ws x h))

-- a scalar has at most eight bytes
pub size-le : (types : List TypeEntry) (t : Ty) → size types t ≤ 8 * words types t
size-le types t = at_type-le (entry_bytes types) (entry_words types) t (measures-le [] [] types refl (λ i. omega arith))

-- a type of a list is at most 1,024 words wide
pub words-le : (types : List TypeEntry) (t : Ty) → IsTypeList types → words types t ≤ 1024
words-le types (ty.Scalar s) h = omega arith
words-le types (ty.Array i) h = h.narrow i
words-le types (ty.Struct i) h = h.narrow i

-- ---- sums over the fields

pub at_fields-take : (f : Scalar → ℕ) (ws : List ℕ) (fs : List Field) (i : ℕ) (x : Field) → i < length fs → x ≡ slice_index_or fs i x → at_fields f ws (take (i + 1) fs) ≡ at_fields f ws (take i fs) + at_type f ws x.ty
at_fields-take f ws [] i x h e = absurd (omega arith)
at_fields-take f ws (y ∷ fs) zero x h e = rw e (omega arith)
at_fields-take f ws (y ∷ fs) (suc i) x h e =
    let p = at_fields-take f ws fs i x (omega arith) e in
    let q = rw (add-one i) at p in
    rw (add-one (suc i)) (omega arith)

-- ---- a struct of a type list

pub struct_few : (types : List TypeEntry) (i : ℕ) (name : List ℕ) (fields : List Field) → IsTypeList types → slice_get types i ≡ Some (entry.Struct name fields) → length fields ≤ 64
struct_few types i name fields h e = (h.each i (entry.Struct name fields) e).2

pub struct_stands : (types : List TypeEntry) (i : ℕ) (name : List ℕ) (fields : List Field) → IsTypeList types → slice_get types i ≡ Some (entry.Struct name fields) → All (λ (f : Field). Stands types f.ty) fields
struct_stands types i name fields h e k d p = Stands-take types i (slice_index_or fields k d).ty ((h.each i (entry.Struct name fields) e).0 k d p)

-- ---- what is kept beside an entry

pub entry_read : (kept : List Measured) (types : List TypeEntry) (i : ℕ) (m : Measured) → entries_of kept ≡ types → i < length kept → m ≡ slice_index_or kept i m → slice_get types i ≡ Some m.entry
entry_read kept types i m e h r = rw (← e) (slice_get-map_read (λ (k : Measured). k.entry) kept i m h r)

pub extent_read : (kept : List Measured) (i : ℕ) (m : Measured) → IsKept kept → i < length kept → m ≡ slice_index_or kept i m → (m.extent.words ≡ slice_index (entry_words (entries_of kept)) i) × (m.extent.bytes ≡ slice_index (entry_bytes (entries_of kept)) i)
extent_read kept i m h p r = (
  sym (slice_index-map_read (λ (k : Measured). k.extent.words) kept i m p r) ∙ ap (λ ws. slice_index ws i) h.words_are,
  sym (slice_index-map_read (λ (k : Measured). k.extent.bytes) kept i m p r) ∙ ap (λ bs. slice_index bs i) h.bytes_are,
)

pub Stands-within : (types : List TypeEntry) (t : Ty) (i : ℕ) → (t ≡ ty.Array i) ⊎ (t ≡ ty.Struct i) → Stands types t → i < length types
Stands-within types t i e h = elim e [ inl a ↦ within types i IsArrayEntry (λ n. n) (subst (Stands types) a h) | inr b ↦ within types i IsStructEntry (λ n. n) (subst (Stands types) b h) ]

-- the extent that is kept for a type, and its bounds
pub record IsExtent (types : List TypeEntry) (t : Ty) (m : Measured) : Type 0 where
  pub words_is : m.extent.words ≡ words types t
  pub bytes_is : m.extent.bytes ≡ size types t
  pub most_words : m.extent.words ≤ 1024
  pub most_bytes : m.extent.bytes ≤ 8192

pub extent_is : (kept : List Measured) (types : List TypeEntry) (i : ℕ) (m : Measured) (t : Ty) → entries_of kept ≡ types → IsKept kept → m ≡ slice_index_or kept i m → (t ≡ ty.Array i) ⊎ (t ≡ ty.Struct i) → Stands types t → IsExtent types t m
extent_is kept types i m t e h r a s =
    let inside : i < length kept = omega (arith, Stands-within types t i a s, ap length e, length-map kept (λ (k : Measured). k.entry)) in
    let x = extent_read kept i m h inside r in
    let w : m.extent.words ≡ words types t = elim a [ inl p ↦ rw (p, ← e) x.0 | inr p ↦ rw (p, ← e) x.0 ] in
    let b : m.extent.bytes ≡ size types t = elim a [ inl p ↦ rw (p, ← e) x.1 | inr p ↦ rw (p, ← e) x.1 ] in
    let list : IsTypeList types = rw (← e) h.types in
    record { words_is = w; bytes_is = b; most_words = omega (arith, words-le types t list); most_bytes = omega (arith, words-le types t list, size-le types t) }
