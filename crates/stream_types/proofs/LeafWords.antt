-- A value's scalars: how many they are, and how many bytes they take.
use Rattle.std.proofs.Common.{◌≡◌, ℕ, zero, suc, ◌+◌, ◌*◌, List, [], ◌∷◌, ◌++◌, length, map, refl, arith, ap, sym, ◌∙◌, unwrap_or}
use Rattle.std.proofs.lemmas.List.Recursion.{is_sum_by}
use Rattle.std.specs.Prelude.{sum_by, slice_get, slice_index}
use Rattle.std.proofs.lemmas.List.{map_push}
use Rattle.stream_types.specs.declared.scalar.Scalar.{Scalar}
use Rattle.stream_types.specs.declared.scalar.Ty.{Ty}
use Rattle.stream_types.specs.declared.scalar.Ty.TheVariants as ty
use Rattle.stream_types.specs.declared.types.Field.{Field}
use Rattle.stream_types.specs.declared.types.TypeEntry.{TypeEntry}
use Rattle.stream_types.specs.declared.types.TypeEntry.TheVariants as entry
use Rattle.stream_types.specs.Types.{at_type, at_fields, at_entry, measures, one_word, scalar_bytes, words, size, repeated, leaves_at, leaves_of_fields, leaves_of_entry, all_leaves, leaves, AreWords}

-- the sum over scalars
abbrev pub total : (Scalar → ℕ) → List Scalar → ℕ
total f [] = 0
total f (s ∷ ss) = f s + total f ss

total-append : (f : Scalar → ℕ) (xs ys : List Scalar) → total f (xs ++ ys) ≡ total f xs + total f ys
total-append f [] ys = omega arith
total-append f (x ∷ xs) ys = omega (arith, total-append f xs ys)

total-repeated : (f : Scalar → ℕ) (n : ℕ) (xs : List Scalar) → total f (repeated n xs) ≡ n * total f xs
total-repeated f zero xs = omega arith
total-repeated f (suc n) xs = omega (arith, total-append f xs (repeated n xs), total-repeated f n xs)

total-at : (f : Scalar → ℕ) (before : List (List Scalar)) (i : ℕ) → total f (unwrap_or (slice_get before i) []) ≡ slice_index (map (total f) before) i
total-at f [] i = refl
total-at f (x ∷ before) zero = refl
total-at f (x ∷ before) (suc i) = total-at f before i

total-leaves_at : (f : Scalar → ℕ) (before : List (List Scalar)) (t : Ty) → total f (leaves_at before t) ≡ at_type f (map (total f) before) t
total-leaves_at f before (ty.Scalar s) = omega arith
total-leaves_at f before (ty.Array i) = total-at f before i
total-leaves_at f before (ty.Struct i) = total-at f before i

total-leaves_of_fields : (f : Scalar → ℕ) (before : List (List Scalar)) (fs : List Field) → total f (leaves_of_fields before fs) ≡ at_fields f (map (total f) before) fs
total-leaves_of_fields f before [] = refl
total-leaves_of_fields f before (x ∷ fs) = omega (arith, total-append f (leaves_at before x.ty) (leaves_of_fields before fs), total-leaves_at f before x.ty, total-leaves_of_fields f before fs)

total-leaves_of_entry : (f : Scalar → ℕ) (before : List (List Scalar)) (e : TypeEntry) → total f (leaves_of_entry before e) ≡ at_entry f (map (total f) before) e
total-leaves_of_entry f before (entry.Array elem n) = total-repeated f n (leaves_at before elem) ∙ ap (λ k. n * k) (total-leaves_at f before elem)
total-leaves_of_entry f before (entry.Struct name fields) = total-leaves_of_fields f before fields

total-all_leaves : (f : Scalar → ℕ) (before : List (List Scalar)) (es : List TypeEntry) → map (total f) (all_leaves before es) ≡ measures f (map (total f) before) es
total-all_leaves f before [] = refl
total-all_leaves f before (e ∷ es) =
    total-all_leaves f (before ++ leaves_of_entry before e ∷ []) es
    ∙ ap (λ ws. measures f ws es) (map_push (total f) before (leaves_of_entry before e) ∙ ap (λ w. map (total f) before ++ w ∷ []) (total-leaves_of_entry f before e))

-- any sum over a value's scalars is that measure of its type
pub total-leaves : (f : Scalar → ℕ) (types : List TypeEntry) (t : Ty) → total f (leaves types t) ≡ at_type f (measures f [] types) t
total-leaves f types t = total-leaves_at f (all_leaves [] types) t ∙ ap (λ ws. at_type f ws t) (total-all_leaves f [] types)

total-one : (ss : List Scalar) → total one_word ss ≡ length ss
total-one [] = refl
total-one (s ∷ ss) = omega (arith, total-one ss)

-- a value has one word for each of its scalars
pub length-leaves : (types : List TypeEntry) (t : Ty) → length (leaves types t) ≡ words types t
length-leaves types t = sym (total-one (leaves types t)) ∙ total-leaves one_word types t

-- the size is the sum of the scalars' bytes
pub size-leaves : (types : List TypeEntry) (t : Ty) → sum_by scalar_bytes (leaves types t) ≡ size types t
size-leaves types t = sym (is_sum_by (total scalar_bytes) scalar_bytes refl (λ _ _. refl) (leaves types t)) ∙ total-leaves scalar_bytes types t

-- words of a value's scalars are as many as the type has
pub length-words : (ss : List Scalar) (ws : List ℕ) → AreWords ss ws → length ws ≡ length ss
length-words [] [] h = refl
length-words [] (w ∷ ws) h = absurd h
length-words (s ∷ ss) [] h = absurd h
length-words (s ∷ ss) (w ∷ ws) h = ap suc (length-words ss ws h.1)
