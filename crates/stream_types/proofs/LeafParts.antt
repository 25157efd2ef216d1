-- Parts of lists of words, of elements and members.
use Rattle.std.proofs.Common.{◌≡◌, ℕ, zero, suc, ◌+◌, ◌*◌, ◌<◌, List, [], ◌∷◌, ◌++◌, length, take, drop, refl, arith, ap, sym, ◌∙◌, subst}
use Rattle.std.specs.Prelude.{slice_get, slice_index, Some, IsTrue}
use Rattle.std.specs.List.{flat_map}
use Rattle.stream_types.specs.declared.scalar.Scalar.{Scalar}
use Rattle.stream_types.specs.declared.scalar.Ty.{Ty}
use Rattle.stream_types.specs.declared.scalar.Ty.TheVariants as ty
use Rattle.stream_types.specs.declared.types.Field.{Field}
use Rattle.stream_types.specs.declared.types.TypeEntry.{TypeEntry}
use Rattle.stream_types.specs.declared.types.TypeEntry.TheVariants as entry
use Rattle.stream_types.specs.Numbers.{is_word}
use Rattle.stream_types.specs.Types.{repeated, leaves, AreWords, words, field_first, field_words}
use Rattle.stream_types.specs.TypeList.{IsTypeList}
use Rattle.stream_types.proofs.LeafWords.{length-leaves}
use Rattle.stream_types.proofs.LeafEntries.{leaves-array, leaves-struct}

-- words of one list of scalars, and then those of another
pub AreWords-append : (ss ts : List Scalar) (vs ws : List ℕ) → AreWords ss vs → AreWords ts ws → AreWords (ss ++ ts) (vs ++ ws)
AreWords-append [] ts [] ws h k = k
AreWords-append [] ts (v ∷ vs) ws h k = absurd h
AreWords-append (s ∷ ss) ts [] ws h k = absurd h
AreWords-append (s ∷ ss) ts (v ∷ vs) ws h k = (h.0, AreWords-append ss ts vs ws h.1 k)

pub AreWords-take : (ss ts : List Scalar) (ws : List ℕ) → AreWords (ss ++ ts) ws → AreWords ss (take (length ss) ws)
AreWords-take [] ts ws h = tt
AreWords-take (s ∷ ss) ts [] h = absurd h
AreWords-take (s ∷ ss) ts (w ∷ ws) h = (h.0, AreWords-take ss ts ws h.1)

pub AreWords-drop : (ss ts : List Scalar) (ws : List ℕ) → AreWords (ss ++ ts) ws → AreWords ts (drop (length ss) ws)
AreWords-drop [] ts ws h = h
AreWords-drop (s ∷ ss) ts [] h = absurd h
AreWords-drop (s ∷ ss) ts (w ∷ ws) h = AreWords-drop ss ts ws h.1

-- the word of a scalar
pub AreWords-first : (s : Scalar) (v : List ℕ) → AreWords (s ∷ []) v → IsTrue (is_word s (slice_index v 0))
AreWords-first s [] h = absurd h
AreWords-first s (w ∷ ws) h = h.0

drop_none : (n : ℕ) → drop {A = ℕ} n [] ≡ []
drop_none zero = refl
drop_none (suc n) = refl

drop-drop : (m n : ℕ) (xs : List ℕ) → drop m (drop n xs) ≡ drop (n + m) xs
drop-drop m zero xs = ap (λ k. drop k xs) (let e : m ≡ zero + m = omega arith in e)
drop-drop m (suc n) [] = drop_none m ∙ sym (drop_none (suc n + m))
drop-drop m (suc n) (x ∷ xs) = drop-drop m n xs ∙ ap (λ k. drop k (x ∷ xs)) (let e : suc (n + m) ≡ suc n + m = omega arith in e)

-- an element of so many
pub AreWords-element : (n i : ℕ) (ss : List Scalar) (ws : List ℕ) → i < n → AreWords (repeated n ss) ws → AreWords ss (take (length ss) (drop (i * length ss) ws))
AreWords-element zero i ss ws b h = absurd (omega arith)
AreWords-element (suc n) zero ss ws b h =
    let e : 0 ≡ zero * length ss = omega arith in
    subst (λ k. AreWords ss (take (length ss) (drop k ws))) e (AreWords-take ss (repeated n ss) ws h)
AreWords-element (suc n) (suc i) ss ws b h =
    let rest = AreWords-element n i ss (drop (length ss) ws) (omega arith) (AreWords-drop ss (repeated n ss) ws h) in
    let e : length ss + i * length ss ≡ suc i * length ss = omega arith in
    subst (λ v. AreWords ss (take (length ss) v)) (drop-drop (i * length ss) (length ss) ws ∙ ap (λ k. drop k ws) e) rest

-- a member among the members
pub AreWords-member : (types : List TypeEntry) (fields : List Field) (k : ℕ) (f : Field) (ws : List ℕ) → slice_get fields k ≡ Some f → AreWords (flat_map (λ (x : Field). leaves types x.ty) fields) ws → AreWords (leaves types f.ty) (take (field_words types fields k) (drop (field_first types fields k) ws))
AreWords-member types [] k f ws e h = absurd (cc)
AreWords-member types (x ∷ fields) zero f ws e h =
    let is : x ≡ f = cc in
    let front = AreWords-take (leaves types x.ty) (flat_map (λ (x : Field). leaves types x.ty) fields) ws h in
    let sized = subst (λ n. AreWords (leaves types x.ty) (take n ws)) (length-leaves types x.ty) front in
    subst (λ (y : Field). AreWords (leaves types y.ty) (take (words types x.ty) ws)) is sized
AreWords-member types (x ∷ fields) (suc k) f ws e h =
    let ss = leaves types x.ty in
    let rest = AreWords-drop ss (flat_map (λ (x : Field). leaves types x.ty) fields) ws h in
    let there = AreWords-member types fields k f (drop (length ss) ws) e rest in
    let start : length ss + field_first types fields k ≡ field_first types (x ∷ fields) (suc k) = ap (λ n. n + field_first types fields k) (length-leaves types x.ty) in
    subst (λ v. AreWords (leaves types f.ty) (take (field_words types fields k) v)) (drop-drop (field_first types fields k) (length ss) ws ∙ ap (λ n. drop n ws) start) there

-- an element of an array
pub element_words : (types : List TypeEntry) (i n k : ℕ) (elem : Ty) (v : List ℕ) → IsTypeList types → slice_get types i ≡ Some (entry.Array elem n) → k < n → AreWords (leaves types (ty.Array i)) v → AreWords (leaves types elem) (take (words types elem) (drop (k * words types elem) v))
element_words types i n k elem v h e b are =
    let whole = subst (λ ss. AreWords ss v) (leaves-array types i n elem h e) are in
    subst (λ m. AreWords (leaves types elem) (take m (drop (k * m) v))) (length-leaves types elem) (AreWords-element n k (leaves types elem) v b whole)

-- a member of a struct
pub member_words : (types : List TypeEntry) (i k : ℕ) (name : List ℕ) (fields : List Field) (f : Field) (v : List ℕ) → IsTypeList types → slice_get types i ≡ Some (entry.Struct name fields) → slice_get fields k ≡ Some f → AreWords (leaves types (ty.Struct i)) v → AreWords (leaves types f.ty) (take (field_words types fields k) (drop (field_first types fields k) v))
member_words types i k name fields f v h e g are = AreWords-member types fields k f v g (subst (λ ss. AreWords ss v) (leaves-struct types i name fields h e) are)
