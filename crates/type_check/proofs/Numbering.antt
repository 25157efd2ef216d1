-- The first number of each type in an order.
use Rattle.std.proofs.Common.{◌≡◌, ◌+◌, ◌<◌, ℕ, suc, Bool, true, false, cond, nat_eq, rules, List, [], ◌∷◌, ◌++◌, length, take, get_or, refl, sym, ap, ◌∙◌, subst, arith}
use Rattle.std.specs.Prelude.{◌&&◌, slice_get, Option, Some, None, is_some}
use Rattle.std.specs.Map.{lookup}
use Rattle.std.specs.List.{position_or_len}
use Rattle.std.specs.Option.{option_map, option_map_or}
use Rattle.std.proofs.lemmas.List.{take_more, take_all, length-take-le}
use Rattle.std.proofs.lemmas.List.Recursion.{is_position_or_len}
use Rattle.type_check.specs.declared.known.Known.{Known}
use Rattle.type_check.specs.declared.known.Known.TheVariants as known
use Rattle.type_check.specs.declared.known.Element.{Element}
use Rattle.type_check.specs.declared.known.Element.TheVariants as element
use Rattle.type_check.specs.contracts.known.KnownPartialEq.TheImpl.{ghosts as known_eq}
use Rattle.stream_types.specs.declared.scalar.Scalar.{Scalar}
use Rattle.stream_types.specs.declared.scalar.Ty.TheVariants as ty
use Rattle.type_check.specs.NamedType.{NamedType, scalar, same_type}
use Rattle.type_check.specs.TypeOrder.{number_of, ty_of}
use Rattle.type_check.specs.Standing.{IsDistinct, named_element, Means, AllMean, all_more}
use Rattle.type_check.specs.Listed.{AreNumbers}
use Rattle.type_check.specs.contracts.known.ElementPartialEq.TheImpl.{ghosts as element_eq}
use Rattle.stream_types.specs.contracts.scalar.Scalar.{the_type as scalar_type}
use denote.Enum.Bare.{same_true as bare_true}
use Rattle.std.proofs.lemmas.Bool.Decides.{nat_tests}
use Rattle.type_check.proofs.SameNames.{nat_same, left_true, right_true}
use Rattle.type_check.proofs.Meaning.{scalar_refl, one_test, some_struct, some_array, same_means}

-- the first place that passes
pub place : {X : Type 0} → (X → Bool) → List X → Option ℕ
place p [] = None
place p (x ∷ xs) = cond (p x) (Some 0) (option_map suc (place p xs))

place_or : {X : Type 0} → (X → Bool) → List X → ℕ
place_or p xs = option_map_or (λ n. n) (place p xs) (length xs)

mapped : (o : Option ℕ) (n : ℕ) → option_map_or (λ k. k) (option_map suc o) (suc n) ≡ 1 + option_map_or (λ k. k) o n
mapped None n = omega arith
mapped (Some k) n = omega arith

stepped : (b : Bool) (o : Option ℕ) (n : ℕ) → option_map_or (λ k. k) (cond b (Some 0) (option_map suc o)) (suc n) ≡ cond b 0 (1 + option_map_or (λ k. k) o n)
stepped true o n = refl
stepped false o n = mapped o n

place_is : {X : Type 0} (p : X → Bool) (xs : List X) → place_or p xs ≡ position_or_len p xs
unfolding place place_or
place_is p xs = is_position_or_len (place_or p) p refl (λ x ys. stepped (p x) (place p ys) (length ys)) xs

later : (b : Bool) (c : Bool) (o : Option ℕ) (n : ℕ) → cond b (Some 0) (option_map suc (option_map_or (λ k. Some k) o (cond c (Some n) None))) ≡ option_map_or (λ k. Some k) (cond b (Some 0) (option_map suc o)) (cond c (Some (suc n)) None)
later true c o n = refl
later false true None n = refl
later false false None n = refl
later false c (Some k) n = refl

place_last : {X : Type 0} (p : X → Bool) (xs : List X) (y : X) → place p (xs ++ y ∷ []) ≡ option_map_or (λ k. Some k) (place p xs) (cond (p y) (Some (length xs)) None)
unfolding place
place_last p [] y = refl
place_last p (x ∷ xs) y = ap (λ o. cond (p x) (Some 0) (option_map suc o)) (place_last p xs y) ∙ later (p x) (p y) (place p xs) (length xs)

-- ---- equal types

element_true : (a b : Element) → element_eq.eq a b ≡ true → a ≡ b
element_true (element.Scalar s) (element.Scalar t) h = ap element.Scalar (bare_true scalar_type (search rules) s t h)
element_true (element.Scalar s) (element.Struct j) h = absurd (cc)
element_true (element.Struct i) (element.Scalar t) h = absurd (cc)
element_true (element.Struct i) (element.Struct j) h = ap element.Struct (nat_same i j h)

known_true : (a b : Known) → known_eq.eq a b ≡ true → a ≡ b
known_true (known.Element a) (known.Element b) h = ap known.Element (element_true a b h)
known_true (known.Element a) (known.Array b n) h = absurd (cc)
known_true (known.Array a m) (known.Element b) h = absurd (cc)
known_true (known.Array a m) (known.Array b n) h =
    ap (λ e. known.Array e m) (element_true a b (left_true (element_eq.eq a b) (nat_eq m n) h)) ∙ ap (known.Array b) (nat_same m n (right_true (element_eq.eq a b) (nat_eq m n) h))

element_refl : (a : Element) → element_eq.eq a a ≡ true
element_refl (element.Scalar s) = scalar_refl s
element_refl (element.Struct i) = grind (arith, nat_tests)

known_refl : (a : Known) → known_eq.eq a a ≡ true
known_refl (known.Element a) = element_refl a
known_refl (known.Array a n) = ap (λ b. b && nat_eq n n) (element_refl a) ∙ (grind (arith, nat_tests))

known_sym : (a b : Known) → known_eq.eq a b ≡ known_eq.eq b a
known_sym a b = one_test (known_eq.eq a b) (known_eq.eq b a)
    (λ h. subst (λ (c : Known). known_eq.eq c a ≡ true) (known_true a b h) (known_refl a))
    (λ h. subst (λ (c : Known). known_eq.eq c b ≡ true) (known_true b a h) (known_refl b))

-- ---- a type more

one_number : (o : Option ℕ) (i : ℕ) (b : Bool) → (b ≡ true → is_some o ≡ false) → cond b (Some i) o ≡ option_map_or (λ k. Some k) o (cond b (Some i) None)
one_number None i true f = refl
one_number None i false f = refl
one_number (Some k) i true f = let e = f refl in absurd (cc)
one_number (Some k) i false f = refl

same_number : (o : Option ℕ) (i : ℕ) (b : Bool) → (b ≡ true → is_some o ≡ true) → o ≡ option_map_or (λ k. Some k) o (cond b (Some i) None)
same_number None i true f = let e = f refl in absurd (cc)
same_number None i false f = refl
same_number (Some k) i b f = refl

-- the numbers of the first types of an order
pub record AreFirstNumbers (placed : List Known) (i : ℕ) (numbers : List (Known × ℕ)) : Type 0 where
  pub places_are : (k : Known) → lookup (known_eq.eq k) numbers ≡ place (known_eq.eq k) (take i placed)

pub no_numbers : (placed : List Known) (numbers : List (Known × ℕ)) → numbers ≡ [] → AreFirstNumbers placed 0 numbers
unfolding place
no_numbers placed numbers e = record { places_are = λ k. ap (lookup (known_eq.eq k)) e }

taken : (placed : List Known) (i : ℕ) (t out : Known) → i < length placed → t ≡ get_or placed i out → take (i + 1) placed ≡ take i placed ++ t ∷ []
taken placed i t out low is = take_more placed i out low ∙ ap (λ y. take i placed ++ y ∷ []) (sym is)

pub number_more : (placed : List Known) (i : ℕ) (t out : Known) (old new : List (Known × ℕ)) → i < length placed → t ≡ get_or placed i out → AreFirstNumbers placed i old → is_some (lookup (known_eq.eq t) old) ≡ false
    → ((q : Known) → lookup (known_eq.eq q) new ≡ cond (known_eq.eq t q) (Some i) (lookup (known_eq.eq q) old)) → AreFirstNumbers placed (i + 1) new
number_more placed i t out old new low is h none l = record {
  places_are = λ q.
      let e = known_sym t q in
      let n : length (take i placed) ≡ i = length-take-le i placed (omega (arith, low)) in
      l q ∙ one_number (lookup (known_eq.eq q) old) i (known_eq.eq t q) (λ b. subst (λ (c : Known). is_some (lookup (known_eq.eq c) old) ≡ false) (known_true t q b) none)
      ∙ ap (λ o. option_map_or (λ k. Some k) o (cond (known_eq.eq t q) (Some i) None)) (h.places_are q)
      ∙ ap (λ b. option_map_or (λ k. Some k) (place (known_eq.eq q) (take i placed)) (cond b (Some i) None)) e
      ∙ ap (λ m. option_map_or (λ k. Some k) (place (known_eq.eq q) (take i placed)) (cond (known_eq.eq q t) (Some m) None)) (sym n)
      ∙ sym (place_last (known_eq.eq q) (take i placed) t) ∙ ap (place (known_eq.eq q)) (sym (taken placed i t out low is));
}

pub number_same : (placed : List Known) (i : ℕ) (t out : Known) (old : List (Known × ℕ)) → i < length placed → t ≡ get_or placed i out → AreFirstNumbers placed i old → is_some (lookup (known_eq.eq t) old) ≡ true → AreFirstNumbers placed (i + 1) old
number_same placed i t out old low is h some = record {
  places_are = λ q.
      let e = known_sym t q in
      same_number (lookup (known_eq.eq q) old) (length (take i placed)) (known_eq.eq t q) (λ b. subst (λ (c : Known). is_some (lookup (known_eq.eq c) old) ≡ true) (known_true t q b) some)
      ∙ ap (λ o. option_map_or (λ k. Some k) o (cond (known_eq.eq t q) (Some (length (take i placed))) None)) (h.places_are q)
      ∙ ap (λ b. option_map_or (λ k. Some k) (place (known_eq.eq q) (take i placed)) (cond b (Some (length (take i placed))) None)) e
      ∙ sym (place_last (known_eq.eq q) (take i placed) t) ∙ ap (place (known_eq.eq q)) (sym (taken placed i t out low is));
}

pub numbers_whole : (placed : List Known) (count : ℕ) (numbers : List (Known × ℕ)) → count ≡ length placed → AreFirstNumbers placed count numbers → AreNumbers placed numbers count
unfolding place_or
numbers_whole placed count numbers e h = record {
  numbers_are = λ k. ap (λ o. option_map_or (λ n. n) o count) (h.places_are k ∙ ap (place (known_eq.eq k)) (take_all count placed (omega (arith, e))))
      ∙ ap (option_map_or (λ n. n) (place (known_eq.eq k) placed)) e ∙ place_is (known_eq.eq k) placed;
}

-- ---- the numbers of types by names

places : (names : List (List ℕ)) → IsDistinct names → (k : Known) (t : NamedType) → Means names k t → (ks : List Known) (ts : List NamedType) → AllMean names ks ts → place (known_eq.eq k) ks ≡ place (same_type t) ts
unfolding place
places names d k t m [] [] h = refl
places names d k t m [] (u ∷ ts) h = elim h [ ]
places names d k t m (j ∷ ks) [] h = elim h [ ]
places names d k t m (j ∷ ks) (u ∷ ts) (all_more n ns) =
    ap (λ b. cond b (Some 0) (option_map suc (place (known_eq.eq k) ks))) (sym (same_means names d k j t u m n)) ∙ ap (λ o. cond (same_type t u) (Some 0) (option_map suc o)) (places names d k t m ks ts ns)

pub as_many : (names : List (List ℕ)) (ks : List Known) (ts : List NamedType) → AllMean names ks ts → length ks ≡ length ts
as_many names [] [] h = refl
as_many names [] (t ∷ ts) h = elim h [ ]
as_many names (k ∷ ks) [] h = elim h [ ]
as_many names (k ∷ ks) (t ∷ ts) (all_more m ms) = ap suc (as_many names ks ts ms)

-- a type has the number of the type that it stands for
pub same_number_of : (names : List (List ℕ)) → IsDistinct names → (k : Known) (t : NamedType) → Means names k t → (ks : List Known) (ts : List NamedType) → AllMean names ks ts → position_or_len (known_eq.eq k) ks ≡ number_of ts t
unfolding place_or
same_number_of names d k t m ks ts h = sym (place_is (known_eq.eq k) ks) ∙ ap (λ o. option_map_or (λ n. n) o (length ks)) (places names d k t m ks ts h)
    ∙ ap (option_map_or (λ n. n) (place (same_type t) ts)) (as_many names ks ts h) ∙ place_is (same_type t) ts

-- ---- types of the list

pub scalar_listed : (names : List (List ℕ)) (order : List NamedType) (s : Scalar) (t : NamedType) → Means names (known.Element (element.Scalar s)) t → ty.Scalar s ≡ ty_of order t
scalar_listed names order s t m = let g : Some (scalar s) ≡ Some t = m.is in let e : scalar s ≡ t = cc in ap (ty_of order) e

pub struct_listed : (names : List (List ℕ)) (order : List NamedType) (i n : ℕ) (t : NamedType) → Means names (known.Element (element.Struct i)) t → n ≡ number_of order t → ty.Struct n ≡ ty_of order t
struct_listed names order i n t m e =
    let f = some_struct (slice_get names i) t m.is in
    ap ty.Struct (e ∙ ap (number_of order) f.2) ∙ sym (ap (ty_of order) f.2)

pub array_listed : (names : List (List ℕ)) (order : List NamedType) (a : Element) (l n : ℕ) (t : NamedType) → Means names (known.Array a l) t → n ≡ number_of order t → ty.Array n ≡ ty_of order t
array_listed names order a l n t m e =
    let f = some_array (named_element names a) l t m.is in
    ap ty.Array (e ∙ ap (number_of order) f.2) ∙ sym (ap (ty_of order) f.2)
