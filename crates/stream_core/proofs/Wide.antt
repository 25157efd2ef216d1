-- A value has a word at least, and a stream as many initial values as were counted.
use Rattle.std.proofs.Common.{◌≡◌, ℕ, zero, suc, ◌*◌, ◌/◌, ◌<◌, ◌≤◌, List, [], ◌∷◌, length, take, Option, Some, None, refl, ap, ◌∙◌, arith}
use Rattle.std.specs.Prelude.{slice_get, slice_index}
use Rattle.std.proofs.Math.Nat.{mul-div_cancel}
use Rattle.std.proofs.lemmas.List.{length-append}
use Rattle.stream_types.specs.declared.scalar.Scalar.{Scalar}
use Rattle.stream_types.specs.declared.scalar.Ty.{Ty}
use Rattle.stream_types.specs.declared.scalar.Ty.TheVariants as ty
use Rattle.stream_types.specs.declared.types.TypeEntry.{TypeEntry}
use Rattle.stream_types.specs.declared.types.TypeEntry.TheVariants as entry
use Rattle.stream_types.specs.Types.{one_word, entry_words, words, at_type, leaves, repeated, AreWords}
use Rattle.stream_types.specs.TypeList.{IsArrayEntry, IsStructEntry, Stands, IsGoodEntry, IsTypeList}
use Rattle.stream_types.proofs.LeafWords.{length-leaves, length-words}
use Rattle.stream_types.proofs.Widths.{measure_is, Stands-element}
use Rattle.stream_core.specs.Term.{value_count}
use Rattle.stream_core.specs.WellTyped.{AreInitial}

get_take : (n : ℕ) (xs : List TypeEntry) (j : ℕ) (e : TypeEntry) → slice_get (take n xs) j ≡ Some e → (j < n) × (slice_get xs j ≡ Some e)
get_take zero xs j e h = absurd (cc)
get_take (suc n) [] j e h = absurd (cc)
get_take (suc n) (x ∷ xs) zero e h = (omega arith, h)
get_take (suc n) (x ∷ xs) (suc j) e h = let r = get_take n xs j e h in let b = r.0 in (omega (arith, b), r.1)

array_there : (o : Option TypeEntry) → IsArrayEntry o → (e : TypeEntry) × (o ≡ Some e)
array_there None h = absurd h
array_there (Some e) h = (e, refl)

struct_there : (o : Option TypeEntry) → IsStructEntry o → (e : TypeEntry) × (o ≡ Some e)
struct_there None h = absurd h
struct_there (Some e) h = (e, refl)

times_wide : (n w : ℕ) → 1 ≤ n → 1 ≤ w → 1 ≤ n * w
times_wide zero w p q = absurd (omega (arith, p))
times_wide (suc n) w p q = omega (arith, q)

module _ (types : List TypeEntry) (good : IsTypeList types) where
  abbrev Before : ℕ → Type 0
  Before i = (j : ℕ) (e : TypeEntry) → j < i → slice_get types j ≡ Some e → 1 ≤ slice_index (entry_words types) j

  type_wide : (i : ℕ) → Before i → (t : Ty) → Stands (take i types) t → 1 ≤ at_type one_word (entry_words types) t
  type_wide i rec (ty.Scalar s) h = omega arith
  type_wide i rec (ty.Array j) h = let p = array_there (slice_get (take i types) j) h in let q = get_take i types j p.0 p.1 in rec j p.0 q.0 q.1
  type_wide i rec (ty.Struct j) h = let p = struct_there (slice_get (take i types) j) h in let q = get_take i types j p.0 p.1 in rec j p.0 q.0 q.1

  entry_wide : (i : ℕ) → Before i → (e : TypeEntry) → slice_get types i ≡ Some e → IsGoodEntry (take i types) e → 1 ≤ slice_index (entry_words types) i
  entry_wide i rec (entry.Array elem n) e h =
      let w = type_wide i rec elem (Stands-element (take i types) elem h.0) in
      let m = measure_is one_word types i (entry.Array elem n) good e in
      let t = times_wide n (at_type one_word (entry_words types) elem) h.1 w in
      omega (arith, m, t)
  entry_wide i rec (entry.Struct name []) e h = let b = h.1 in absurd (omega (arith, b))
  entry_wide i rec (entry.Struct name (f ∷ fs)) e h =
      let w = type_wide i rec f.ty (h.0 0 f (omega arith)) in
      let m = measure_is one_word types i (entry.Struct name (f ∷ fs)) good e in
      omega (arith, m, w)

  all_wide : (b : ℕ) → Before b
  all_wide zero j e h is = absurd (omega (arith, h))
  all_wide (suc b) j e h is = entry_wide j (λ k f less there. all_wide b k f (omega (arith, less, h)) there) e is (good.each j e is)

  pub words_wide : (t : Ty) → Stands types t → 1 ≤ words types t
  words_wide (ty.Scalar s) h = omega arith
  words_wide (ty.Array j) h = let p = array_there (slice_get types j) h in all_wide (suc j) j p.0 (omega arith) p.1
  words_wide (ty.Struct j) h = let p = struct_there (slice_get types j) h in all_wide (suc j) j p.0 (omega arith) p.1

  pub length_repeated : (n : ℕ) (xs : List Scalar) → length (repeated n xs) ≡ n * length xs
  length_repeated zero xs = omega arith
  length_repeated (suc n) xs = let a = length-append xs (repeated n xs) in let h = length_repeated n xs in omega (arith, a, h)

  -- so many values of a type are counted as so many
  pub counted : (t : Ty) (values : List ℕ) (n : ℕ) → Stands types t → AreWords (repeated n (leaves types t)) values → value_count types t values ≡ n
  counted t values n h are =
      let l : length values ≡ n * words types t = length-words (repeated n (leaves types t)) values are ∙ length_repeated n (leaves types t) ∙ ap (λ w. n * w) (length-leaves types t) in
      let w : 0 < words types t = omega (arith, words_wide t h) in
      ap (λ k. k / words types t) l ∙ mul-div_cancel n w

  -- the words of initial values are as many as the values and their width say
  pub initial_words : (t : Ty) (init : List ℕ) → AreInitial types t init → length init ≡ value_count types t init * words types t
  initial_words t init a =
      let n = value_count types t init in
      length-words (repeated n (leaves types t)) init a.values ∙ length_repeated n (leaves types t) ∙ ap (λ w. n * w) (length-leaves types t)
