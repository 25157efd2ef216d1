-- Values and their words.
use Rattle.std.proofs.Common.{◌≡◌, ℕ, zero, suc, ◌+◌, ◌*◌, ◌<◌, List, [], ◌∷◌, ◌++◌, length, take, drop, replicate, Some, refl, sym, ap, ◌∙◌, subst, arith}
use Rattle.std.specs.Prelude.{slice_get}
use Rattle.std.specs.List.{flat_map}
use Rattle.std.proofs.lemmas.List.Folds.{flat_map-map}
use Rattle.stream_types.specs.declared.scalar.Scalar.{Scalar}
use Rattle.stream_types.specs.declared.scalar.Ty.{Ty}
use Rattle.stream_types.specs.declared.scalar.Ty.TheVariants as ty
use Rattle.stream_types.specs.declared.types.Field.{Field}
use Rattle.stream_types.specs.declared.types.TypeEntry.{TypeEntry}
use Rattle.stream_types.specs.Types.{leaves, repeated, words, field_first, field_words, AreWords}
use Rattle.stream_types.specs.TypeList.{IsTypeList}
use Rattle.stream_types.proofs.LeafWords.{length-leaves, length-words}
use Rattle.stream_types.proofs.LeafEntries.{leaves-array, leaves-struct}
use Rattle.stream_types.proofs.LeafParts.{AreWords-append}
use Rattle.stream_core.specs.WellTyped.{field_types}
use Rattle.c99_tree.specs.CTypes.{Num}
use Rattle.c99_tree.specs.Values.{Value, Values, number, struct_of, array_of, no_value, and_value, value_list, word_of_number, words_of, words_of_all}
use Rattle.ring_codegen.specs.Standing.{IsNumberOf, HasWords, HaveWords, HoldsAt}
use Rattle.ring_codegen.proofs.WordNumbers.{word_again}

-- ---- fronts and rests

pub take_front : (front rest : List ℕ) (k : ℕ) → length front ≡ k → take k (front ++ rest) ≡ front
take_front [] rest zero e = refl
take_front [] rest (suc k) e = absurd (omega (arith, e))
take_front (x ∷ front) rest zero e = absurd (omega (arith, e))
take_front (x ∷ front) rest (suc k) e = ap (λ r. x ∷ r) (take_front front rest k (omega (arith, e)))

pub drop_front : (front rest : List ℕ) (k : ℕ) → length front ≡ k → drop k (front ++ rest) ≡ rest
drop_front [] rest zero e = refl
drop_front [] rest (suc k) e = absurd (omega (arith, e))
drop_front (x ∷ front) rest zero e = absurd (omega (arith, e))
drop_front (x ∷ front) rest (suc k) e = drop_front front rest k (omega (arith, e))

-- what lies behind a front and further places
pub drop_behind : (front rest : List ℕ) (k : ℕ) → drop (length front + k) (front ++ rest) ≡ drop k rest
drop_behind [] rest k = let e : 0 + k ≡ k = omega arith in ap (λ n. drop n rest) e
drop_behind (x ∷ front) rest k = let e : length (x ∷ front) + k ≡ suc (length front + k) = omega arith in ap (λ n. drop n (x ∷ front ++ rest)) e ∙ drop_behind front rest k

-- ---- the words of a value

number_words : (t : Scalar) (x : Num) (ws : List ℕ) → IsNumberOf t x ws → word_of_number x ∷ [] ≡ ws
number_words t x ws h = ap (λ (y : Num). word_of_number y ∷ []) h.is ∙ ap (λ w. w ∷ []) (word_again t h.word h.good) ∙ sym h.words

mutual
  -- they are those that its C value has
  pub words_back : (types : List TypeEntry) (t : Ty) (v : Value) (ws : List ℕ) → HasWords types t v ws → words_of v ≡ ws
  words_back types (ty.Scalar t) (number x) ws h = number_words t x ws h
  words_back types (ty.Array i) (array_of vs) ws h = all_words_back types (replicate h.1 h.0) vs ws h.3
  words_back types (ty.Struct i) (struct_of vs) ws h = all_words_back types (field_types h.1) vs ws h.3
  words_back types _ _ ws h = absurd h

  pub all_words_back : (types : List TypeEntry) (ts : List Ty) (vs : Values) (ws : List ℕ) → HaveWords types ts vs ws → words_of_all vs ≡ ws
  all_words_back types [] no_value ws h = sym h
  all_words_back types (t ∷ ts) (and_value v vs) ws h =
      ap (λ (a : List ℕ). a ++ words_of_all vs) (words_back types t v h.0 h.3) ∙ ap (λ (b : List ℕ). h.0 ++ b) (all_words_back types ts vs h.1 h.4) ∙ sym h.2
  all_words_back types _ _ ws h = absurd h

leaves_replicate : (types : List TypeEntry) (n : ℕ) (t : Ty) → flat_map (leaves types) (replicate n t) ≡ repeated n (leaves types t)
leaves_replicate types zero t = refl
leaves_replicate types (suc n) t = ap (λ ss. leaves types t ++ ss) (leaves_replicate types n t)

module _ (types : List TypeEntry) (good : IsTypeList types) where
  mutual
    -- they are words of the type
    pub typed_words : (t : Ty) (v : Value) (ws : List ℕ) → HasWords types t v ws → AreWords (leaves types t) ws
    typed_words (ty.Scalar t) (number x) ws h = subst (AreWords (t ∷ [])) (sym h.words) (h.good, tt)
    typed_words (ty.Array i) (array_of vs) ws h =
        subst (λ ss. AreWords ss ws) (leaves_replicate types h.1 h.0 ∙ sym (leaves-array types i h.1 h.0 good h.2)) (all_typed_words (replicate h.1 h.0) vs ws h.3)
    typed_words (ty.Struct i) (struct_of vs) ws h =
        subst (λ ss. AreWords ss ws) (flat_map-map (leaves types) (λ (f : Field). f.ty) h.1 ∙ sym (leaves-struct types i h.0 h.1 good h.2)) (all_typed_words (field_types h.1) vs ws h.3)
    typed_words _ _ ws h = absurd h

    pub all_typed_words : (ts : List Ty) (vs : Values) (ws : List ℕ) → HaveWords types ts vs ws → AreWords (flat_map (leaves types) ts) ws
    all_typed_words [] no_value ws h = subst (AreWords []) (sym h) tt
    all_typed_words (t ∷ ts) (and_value v vs) ws h =
        subst (AreWords (flat_map (leaves types) (t ∷ ts))) (sym h.2) (AreWords-append (leaves types t) (flat_map (leaves types) ts) h.0 h.1 (typed_words t v h.0 h.3) (all_typed_words ts vs h.1 h.4))
    all_typed_words _ _ ws h = absurd h

  -- as many as the type has
  pub count_words : (t : Ty) (v : Value) (ws : List ℕ) → HasWords types t v ws → length ws ≡ words types t
  count_words t v ws h = length-words (leaves types t) ws (typed_words t v ws h) ∙ length-leaves types t

  -- ---- parts

  -- element i of n
  pub element_at : (elem : Ty) (n i : ℕ) (vs : Values) (ws : List ℕ) → i < n → HaveWords types (replicate n elem) vs ws
      → HoldsAt types elem (value_list vs) i (take (words types elem) (drop (i * words types elem) ws))
  element_at elem zero i vs ws b h = absurd (omega (arith, b))
  element_at elem (suc n) i no_value ws b h = absurd h
  element_at elem (suc n) zero (and_value v vs) ws b h =
      let k = count_words elem v h.0 h.3 in
      let z : 0 * words types elem ≡ 0 = omega arith in
      let e : take (words types elem) (drop (0 * words types elem) ws) ≡ h.0 = ap (λ m. take (words types elem) (drop m ws)) z ∙ ap (λ r. take (words types elem) r) h.2 ∙ take_front h.0 h.1 (words types elem) k in
      record { value = v; is = refl; words = subst (HasWords types elem v) (sym e) h.3 }
  element_at elem (suc n) (suc i) (and_value v vs) ws b h =
      let k = count_words elem v h.0 h.3 in
      let rest = element_at elem n i vs h.1 (omega (arith, b)) h.4 in
      let p : suc i * words types elem ≡ length h.0 + i * words types elem = omega (arith, k) in
      let e : drop (suc i * words types elem) ws ≡ drop (i * words types elem) h.1 = ap (λ m. drop m ws) p ∙ ap (λ r. drop (length h.0 + i * words types elem) r) h.2 ∙ drop_behind h.0 h.1 (i * words types elem) in
      record { value = rest.value; is = rest.is; words = subst (λ r. HasWords types elem rest.value (take (words types elem) r)) (sym e) rest.words }

  -- member m
  pub member_at : (fields : List Field) (m : ℕ) (f : Field) (vs : Values) (ws : List ℕ) → slice_get fields m ≡ Some f → HaveWords types (field_types fields) vs ws
      → HoldsAt types f.ty (value_list vs) m (take (field_words types fields m) (drop (field_first types fields m) ws))
  member_at [] m f vs ws g h = absurd (cc g)
  member_at (x ∷ fields) m f no_value ws g h = absurd h
  member_at (x ∷ fields) zero f (and_value v vs) ws g h =
      let is : x ≡ f = cc g in
      let k = count_words x.ty v h.0 h.3 in
      let e : take (words types x.ty) ws ≡ h.0 = ap (λ r. take (words types x.ty) r) h.2 ∙ take_front h.0 h.1 (words types x.ty) k in
      let p : HasWords types x.ty v (take (words types x.ty) ws) = subst (HasWords types x.ty v) (sym e) h.3 in
      record { value = v; is = refl; words = subst (λ (y : Field). HasWords types y.ty v (take (words types x.ty) ws)) is p }
  member_at (x ∷ fields) (suc m) f (and_value v vs) ws g h =
      let k = count_words x.ty v h.0 h.3 in
      let rest = member_at fields m f vs h.1 g h.4 in
      let p : field_first types (x ∷ fields) (suc m) ≡ length h.0 + field_first types fields m = ap (λ n. n + field_first types fields m) (sym k) in
      let e : drop (field_first types (x ∷ fields) (suc m)) ws ≡ drop (field_first types fields m) h.1 =
      ap (λ n. drop n ws) p ∙ ap (λ r. drop (length h.0 + field_first types fields m) r) h.2 ∙ drop_behind h.0 h.1 (field_first types fields m) in
      record { value = rest.value; is = rest.is; words = subst (λ r. HasWords types f.ty rest.value (take (field_words types fields m) r)) (sym e) rest.words }
