-- The places of array types while a list grows at its end.
use Rattle.std.proofs.Common.{rules, ◌≡◌, ◌≢◌, ℕ, ◌+◌, ◌<◌, Bool, true, false, cond, nat_eq, zero, suc, List, [], ◌∷◌, ◌++◌, length, take, refl, arith, inl, inr, ap, sym, ◌∙◌, subst}
use Rattle.std.specs.Prelude.{slice_get, slice_index_or, Some, None}
use Rattle.std.proofs.lemmas.List.{length-map, map_push, take_more, length-take-le}
use Rattle.std.specs.Map.{lookup}
use Rattle.std.proofs.lemmas.Bool.Decides.{nat_tests}
use denote.Enum.Bare.{same_true}
use Rattle.sm_io.proofs.Truths.{both_say}
use Rattle.stream_types.specs.declared.scalar.Scalar.{Scalar}
use Rattle.stream_types.specs.declared.scalar.Scalar.TheVariants as s_
use Rattle.stream_types.specs.declared.scalar.Ty.{Ty}
use Rattle.stream_types.specs.declared.scalar.Ty.TheVariants as ty
use Rattle.stream_types.specs.declared.types.TypeEntry.{TypeEntry}
use Rattle.stream_types.specs.declared.types.TypeEntry.TheVariants as entry
use Rattle.stream_types.specs.declared.array_key.ArrayKey.{ArrayKey}
use Rattle.stream_types.specs.contracts.scalar.Scalar.{the_type as scalar_type}
use Rattle.stream_types.specs.contracts.scalar.ScalarPartialEq.TheImpl.{ghosts as scalar_eq}
use Rattle.stream_types.specs.contracts.scalar.TyPartialEq.TheImpl.{ghosts as ty_eq}
use Rattle.stream_types.specs.contracts.array_key.ArrayKeyPartialEq.TheImpl.{ghosts as key_eq}
use Rattle.stream_types.specs.TypeList.{IsNewEntry, IsTypeList}
use Rattle.stream_types.specs.ArrayPlaces.{ArePlaces}
use Rattle.stream_types.specs.declared.types.Measured.{Measured}
use Rattle.stream_types.specs.Measures.{entries_of}
use Rattle.stream_types.proofs.TypeLists.{entry_read}
use Rattle.stream_types.proofs.GrownLists.{at_take, at_append, get_push}

-- ---- keys that `==` finds equal are the same

nat_same : (x y : ℕ) → nat_eq x y ≡ true → x ≡ y
nat_same x y h = grind (arith, nat_tests, h)

ty_same : (a b : Ty) → ty_eq.eq a b ≡ true → a ≡ b
ty_same (ty.Scalar a) (ty.Scalar b) h = ap ty.Scalar (same_true scalar_type (search rules) a b h)
ty_same (ty.Array a) (ty.Array b) h = ap ty.Array (nat_same a b h)
ty_same (ty.Struct a) (ty.Struct b) h = ap ty.Struct (nat_same a b h)
ty_same _ _ h = absurd (cc)

scalar_refl : (s : Scalar) → scalar_eq.eq s s ≡ true
scalar_refl s_.Bool = refl
scalar_refl s_.Int8 = refl
scalar_refl s_.Int16 = refl
scalar_refl s_.Int32 = refl
scalar_refl s_.Int64 = refl
scalar_refl s_.Word8 = refl
scalar_refl s_.Word16 = refl
scalar_refl s_.Word32 = refl
scalar_refl s_.Word64 = refl

ty_refl : (t : Ty) → ty_eq.eq t t ≡ true
ty_refl (ty.Scalar s) = scalar_refl s
ty_refl (ty.Array i) = grind (arith, nat_tests)
ty_refl (ty.Struct i) = grind (arith, nat_tests)

one_key : (a b : ArrayKey) → (a.elem ≡ b.elem) × (a.n ≡ b.n) → a ≡ b
one_key a b p = λ j. record { elem = p.0 j; n = p.1 j }

key_same : (a b : ArrayKey) → key_eq.eq a b ≡ true → a ≡ b
key_same a b h = one_key a b (both_say _ _ (ty_same a.elem b.elem) (nat_same a.n b.n) h)

key_refl : (a : ArrayKey) → key_eq.eq a a ≡ true
key_refl a = rw (ty_refl a.elem) (grind (arith, nat_tests))

-- ---- one more entry

last_is : {X : Type 0} (xs : List X) (x : X) → slice_get (xs ++ x ∷ []) (length xs) ≡ Some x
last_is [] x = refl
last_is (y ∷ xs) x = last_is xs x

no_entry : (e : TypeEntry) → ¬ (None ≡ Some e)
no_entry e h = cc

stays : (types : List TypeEntry) (e x : TypeEntry) (i : ℕ) → slice_get types i ≡ Some x → slice_get (types ++ e ∷ []) i ≡ Some x
stays types e x i h = at_append types (e ∷ []) i (λ o. o ≡ Some x) (no_entry x) h

same_array : (a b : ArrayKey) → entry.Array a.elem a.n ≡ entry.Array b.elem b.n → a ≡ b
same_array a b h = let e : a.elem ≡ b.elem = cc in let n : a.n ≡ b.n = cc in one_key a b (e, n)

pub places_more : (places new : List (ArrayKey × ℕ)) (types : List TypeEntry) (key : ArrayKey) → ArePlaces places types → IsNewEntry types (entry.Array key.elem key.n)
    → ((q : ArrayKey) → lookup (key_eq.eq q) new ≡ cond (key_eq.eq key q) (Some (length types)) (lookup (key_eq.eq q) places)) → ArePlaces new (types ++ entry.Array key.elem key.n ∷ [])
places_more places new types key h fresh l = record { places_are = λ q i. by q i (key_eq.eq key q) refl }
  where
    by : (q : ArrayKey) (i : ℕ) (b : Bool) → key_eq.eq key q ≡ b
        → ((lookup (key_eq.eq q) new ≡ Some i) → (slice_get (types ++ entry.Array key.elem key.n ∷ []) i ≡ Some (entry.Array q.elem q.n))) × ((slice_get (types ++ entry.Array key.elem key.n ∷ []) i ≡ Some (entry.Array q.elem q.n)) → (lookup (key_eq.eq q) new ≡ Some i))
    by q i true e =
        let same : key ≡ q = key_same key q e in
        let found : lookup (key_eq.eq q) new ≡ Some (length types) = l q ∙ ap (λ b. cond b (Some (length types)) (lookup (key_eq.eq q) places)) e in (
          λ p.
              let at : length types ≡ i = cc in
              subst (λ k. slice_get (types ++ entry.Array key.elem key.n ∷ []) k ≡ Some (entry.Array q.elem q.n)) at
              (last_is types (entry.Array key.elem key.n) ∙ ap (λ (k : ArrayKey). Some (entry.Array k.elem k.n)) same),
          λ p. elim (get_push types (entry.Array key.elem key.n) (entry.Array q.elem q.n) i p) [
            | inl a ↦ absurd (fresh i (a.1 ∙ ap (λ (k : ArrayKey). Some (entry.Array k.elem k.n)) (sym same)))
            | inr a ↦ found ∙ ap Some (sym a.0)
          ],
        )
    by q i false e =
        let kept : lookup (key_eq.eq q) new ≡ lookup (key_eq.eq q) places = l q ∙ ap (λ b. cond b (Some (length types)) (lookup (key_eq.eq q) places)) e in (
          λ p. stays types (entry.Array key.elem key.n) (entry.Array q.elem q.n) i ((h.places_are q i).0 (sym kept ∙ p)),
          λ p. elim (get_push types (entry.Array key.elem key.n) (entry.Array q.elem q.n) i p) [
            | inl a ↦ kept ∙ (h.places_are q i).1 a.1
            | inr a ↦ let t : key_eq.eq key q ≡ true = subst (λ (k : ArrayKey). key_eq.eq key k ≡ true) (same_array key q a.1) (key_refl key) in absurd (cc)
          ],
        )

pub places_same : (places : List (ArrayKey × ℕ)) (types : List TypeEntry) (e : TypeEntry) → ((elem : Ty) (n : ℕ) → e ≢ entry.Array elem n) → ArePlaces places types → ArePlaces places (types ++ e ∷ [])
places_same places types e other h = record {
  places_are = λ q i. (
    λ p. stays types e (entry.Array q.elem q.n) i ((h.places_are q i).0 p),
    λ p. elim (get_push types e (entry.Array q.elem q.n) i p) [ inl a ↦ (h.places_are q i).1 a.1 | inr a ↦ absurd (other q.elem q.n a.1) ],
  );
}

pub no_places : (places : List (ArrayKey × ℕ)) → places ≡ [] → ArePlaces places []
no_places places e = record { places_are = λ q i. (λ p. let n = ap (lookup (key_eq.eq q)) e in absurd (cc), λ p. absurd (cc)) }

-- ---- each entry is new to those before it

front_short : {X : Type 0} (xs : List X) (i j : ℕ) (x : X) → slice_get (take i xs) j ≡ Some x → j < i
front_short [] zero j x h = absurd (cc)
front_short [] (suc i) j x h = absurd (cc)
front_short (y ∷ xs) zero j x h = absurd (cc)
front_short (y ∷ xs) (suc i) zero x h = omega arith
front_short (y ∷ xs) (suc i) (suc j) x h = omega (arith, front_short xs i j x h)

pub new_to_front : (types : List TypeEntry) (i : ℕ) (e : TypeEntry) → IsTypeList types → slice_get types i ≡ Some e → IsNewEntry (take i types) e
new_to_front types i (entry.Array elem n) h is = λ j p.
    let at = at_take types i j (λ o. o ≡ Some (entry.Array elem n)) (no_entry (entry.Array elem n)) p in
    absurd (omega (arith, front_short types i j (entry.Array elem n) p, h.arrays i j elem n is at))
new_to_front types i (entry.Struct name fields) h is = λ j gs p.
    let at = at_take types i j (λ o. o ≡ Some (entry.Struct name gs)) (no_entry (entry.Struct name gs)) p in
    absurd (omega (arith, front_short types i j (entry.Struct name gs) p, h.structs i j name fields gs is at))

-- ---- what is noted

pub places_noted : (places new : List (ArrayKey × ℕ)) (types : List TypeEntry) (e : TypeEntry) (key : ArrayKey) (place : ℕ) → e ≡ entry.Array key.elem key.n → ArePlaces places types → IsNewEntry types e → place ≡ length types
    → ((q : ArrayKey) → lookup (key_eq.eq q) new ≡ cond (key_eq.eq key q) (Some place) (lookup (key_eq.eq q) places)) → ArePlaces new (types ++ e ∷ [])
places_noted places new types e key place is h fresh at l =
    subst (λ (x : TypeEntry). ArePlaces new (types ++ x ∷ [])) (sym is)
    (places_more places new types key h (subst (IsNewEntry types) is fresh) (λ q. l q ∙ ap (λ i. cond (key_eq.eq key q) (Some i) (lookup (key_eq.eq q) places)) at))

-- ---- the front of what is kept

pub kept_more : (kept : List Measured) (i : ℕ) (m : Measured) → i < length kept → m ≡ slice_index_or kept i m → take (i + 1) kept ≡ take i kept ++ m ∷ []
kept_more kept i m low is = take_more kept i m low ∙ ap (λ (x : Measured). take i kept ++ x ∷ []) (sym is)

pub entries_more : (kept : List Measured) (i : ℕ) (m : Measured) → i < length kept → m ≡ slice_index_or kept i m → entries_of (take (i + 1) kept) ≡ entries_of (take i kept) ++ m.entry ∷ []
entries_more kept i m low is = ap entries_of (kept_more kept i m low is) ∙ map_push (λ (x : Measured). x.entry) (take i kept) m

pub front_length : (kept : List Measured) (i : ℕ) → i < length kept → i ≡ length (entries_of (take i kept))
front_length kept i low = omega (arith, low, length-take-le i kept (omega (arith, low)), length-map (take i kept) (λ (x : Measured). x.entry))

entries_take : (kept : List Measured) (i : ℕ) → entries_of (take i kept) ≡ take i (entries_of kept)
entries_take [] zero = refl
entries_take [] (suc i) = refl
entries_take (x ∷ kept) zero = refl
entries_take (x ∷ kept) (suc i) = ap (λ r. x.entry ∷ r) (entries_take kept i)

pub front_new : (kept : List Measured) (i : ℕ) (m : Measured) → IsTypeList (entries_of kept) → i < length kept → m ≡ slice_index_or kept i m → IsNewEntry (entries_of (take i kept)) m.entry
front_new kept i m h low is =
    subst (λ (types : List TypeEntry). IsNewEntry types m.entry) (sym (entries_take kept i)) (new_to_front (entries_of kept) i m.entry h (entry_read kept (entries_of kept) i m refl low is))
