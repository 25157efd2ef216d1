-- Verdicts of the code, and those that they stand for.
use Rattle.std.proofs.Common.{arith, zero, ◌≡◌, ℕ, suc, ◌*◌, ◌≤◌, min, nat_lt, nat_le, length, suc-mul, Bool, true, false, List, [], ◌∷◌, refl, sym, ap, ◌∙◌, subst}
use Rattle.std.specs.Prelude.{◌&&◌, ◌||◌, if◌then◌else◌, slice_get, is_some, Some, None, Result}
use Rattle.std.specs.List.{list_all, list_any}
use Rattle.std.proofs.lemmas.Bool.Decides.{nat_tests}
use Rattle.std.specs.Option.{option_map}
use Rattle.stream_types.specs.declared.scalar.Scalar.{Scalar}
use Rattle.stream_types.specs.declared.scalar.Scalar.TheVariants as s_
use Rattle.type_check.specs.declared.fault.TypeFault.{TypeFault}
use Rattle.type_check.specs.declared.fault.TypeFault.TheVariants.{TypeClash, NestedArray, DropTooFar, DropOfNoBuffer}
use Rattle.type_check.specs.declared.structs.Struct.{Struct as CodeStruct}
use Rattle.type_check.specs.declared.scope.Kind.TheVariants as kind
use Rattle.type_check.specs.declared.known.Known.{Known}
use Rattle.type_check.specs.declared.known.Known.TheVariants as known
use Rattle.type_check.specs.declared.known.Element.{Element}
use Rattle.type_check.specs.declared.known.Element.TheVariants as element
use Rattle.type_check.specs.contracts.known.KnownPartialEq.TheImpl.{ghosts as known_eq}
use Rattle.type_check.specs.NamedType.{NamedType, scalar, struct, array, bool, same_type, is_array, Declarations}
use Rattle.type_check.specs.Judged.{Verdict, lacks, is_scalar_that, any_scalar, if_so, on_items, on_elements, on_drop, Named, extern_of, stream_of, def_of}
use Rattle.type_check.specs.Standing.{named_element, named, Means, AllMean, all_more, IsDistinct, IsVerdict, scalar_in, is_array_known, capped, HasWords, ItemsHaveWords, kind_of}
use Rattle.type_check.proofs.Meaning.{same_means, some_struct, some_array}

pub verdict_is : (names : List (List ℕ)) (v w : Verdict) (r : Result Known TypeFault) → IsVerdict names v r → v ≡ w → IsVerdict names w r
verdict_is names v w r h e = subst (λ (x : Verdict). IsVerdict names x r) e h

pub means_bool : (names : List (List ℕ)) (k : Known) → k ≡ known.Element (element.Scalar s_.Bool) → Means names k bool
means_bool names k e = record { is = ap (named names) e }

pub is_scalar : (names : List (List ℕ)) (k : Known) (t : NamedType) (s : Scalar) → Means names k t → scalar_in k ≡ Some s → t ≡ scalar s
is_scalar names (known.Element (element.Scalar u)) t s m h = let p = m.is in cc
is_scalar names (known.Element (element.Struct i)) t s m h = absurd (cc)
is_scalar names (known.Array e n) t s m h = absurd (cc)

-- a type that is no scalar, where no other type has a verdict but this one
pub clash : (names : List (List ℕ)) (f : NamedType → Verdict) (e : TypeFault) → ((x : List ℕ) → f (struct x) ≡ lacks e) → ((u : NamedType) (n : ℕ) → f (array u n) ≡ lacks e) → (k : Known) (t : NamedType) → Means names k t → scalar_in k ≡ None → lacks e ≡ f t
clash names f e hs ha (known.Element (element.Scalar u)) t m h = absurd (cc)
clash names f e hs ha (known.Element (element.Struct i)) t m h = let p = some_struct (slice_get names i) t m.is in sym (ap f p.2 ∙ hs p.0)
clash names f e hs ha (known.Array a n) t m h = let p = some_array (named_element names a) n t m.is in sym (ap f p.2 ∙ ha p.0 n)

-- an element's type is no array
pub clash_element : (names : List (List ℕ)) (f : NamedType → Verdict) (e : TypeFault) → ((s : Scalar) → f (scalar s) ≡ lacks e) → ((x : List ℕ) → f (struct x) ≡ lacks e) → (a : Element) (t : NamedType) → Means names (known.Element a) t → lacks e ≡ f t
clash_element names f e hs ht (element.Scalar s) t m = let p : t ≡ scalar s = (let q = m.is in cc) in sym (ap f p ∙ hs s)
clash_element names f e hs ht (element.Struct i) t m = let p = some_struct (slice_get names i) t m.is in sym (ap f p.2 ∙ ht p.0)

-- an array's type, and that of its elements
pub record IsArray (names : List (List ℕ)) (a : Element) (n : ℕ) (t : NamedType) : Type 0 where
  pub elem : NamedType
  pub means : Means names (known.Element a) elem
  pub is : t ≡ array elem n

pub array_means : (names : List (List ℕ)) (a : Element) (n : ℕ) (t : NamedType) → Means names (known.Array a n) t → IsArray names a n t
array_means names a n t m = let p = some_array (named_element names a) n t m.is in record { elem = p.0; means = record { is = p.1 }; is = p.2 }

pub means_array : (names : List (List ℕ)) (a : Element) (n : ℕ) (t : NamedType) → Means names (known.Element a) t → Means names (known.Array a n) (array t n)
means_array names a n t m = record { is = ap (option_map (λ u. array u n)) m.is }

pub is_array_means : (names : List (List ℕ)) (k : Known) (t : NamedType) → Means names k t → is_array t ≡ is_array_known k
is_array_means names (known.Element (element.Scalar s)) t m = let p : t ≡ scalar s = (let q = m.is in cc) in ap is_array p
is_array_means names (known.Element (element.Struct i)) t m = let p = some_struct (slice_get names i) t m.is in ap is_array p.2
is_array_means names (known.Array a n) t m = let p = some_array (named_element names a) n t m.is in ap is_array p.2

pub has_array_means : (names : List (List ℕ)) (ks : List Known) (ts : List NamedType) → AllMean names ks ts → list_any is_array ts ≡ list_any is_array_known ks
has_array_means names [] [] h = refl
has_array_means names [] (t ∷ ts) h = elim h [ ]
has_array_means names (k ∷ ks) [] h = elim h [ ]
has_array_means names (k ∷ ks) (t ∷ ts) (all_more m ms) = ap (λ b. b || list_any is_array ts) (is_array_means names k t m) ∙ ap (λ b. is_array_known k || b) (has_array_means names ks ts ms)

pub all_same_means : (names : List (List ℕ)) → IsDistinct names → (k : Known) (t : NamedType) → Means names k t → (ks : List Known) (ts : List NamedType) → AllMean names ks ts → list_all (same_type t) ts ≡ list_all (λ other. known_eq.eq k other) ks
all_same_means names d k t m [] [] h = refl
all_same_means names d k t m [] (u ∷ ts) h = elim h [ ]
all_same_means names d k t m (j ∷ ks) [] h = elim h [ ]
all_same_means names d k t m (j ∷ ks) (u ∷ ts) (all_more n ns) = ap (λ b. b && list_all (same_type t) ts) (same_means names d k j t u m n) ∙ ap (λ b. known_eq.eq k j && b) (all_same_means names d k t m ks ts ns)

pub any_scalar_means : (names : List (List ℕ)) (k : Known) (t : NamedType) → Means names k t → is_scalar_that any_scalar t ≡ is_some (scalar_in k)
any_scalar_means names (known.Element (element.Scalar s)) t m = let p : t ≡ scalar s = (let q = m.is in cc) in ap (is_scalar_that any_scalar) p
any_scalar_means names (known.Element (element.Struct i)) t m = let p = some_struct (slice_get names i) t m.is in ap (is_scalar_that any_scalar) p.2
any_scalar_means names (known.Array a n) t m = let p = some_array (named_element names a) n t m.is in ap (is_scalar_that any_scalar) p.2

-- ---- rows of types

pub record IsMore (names : List (List ℕ)) (k : Known) (ks : List Known) (ts : List NamedType) : Type 0 where
  pub first : NamedType
  pub others : List NamedType
  pub is : ts ≡ first ∷ others
  pub means : Means names k first
  pub mean : AllMean names ks others

pub more_of : (names : List (List ℕ)) (js ks : List Known) (k : Known) (ts : List NamedType) → AllMean names js ts → js ≡ k ∷ ks → IsMore names k ks ts
more_of names [] ks k ts h e = absurd (cc)
more_of names (j ∷ js) ks k [] h e = elim h [ ]
more_of names (j ∷ js) ks k (t ∷ ts) (all_more m ms) e =
    let p : j ≡ k = cc in
    let q : js ≡ ks = cc in
    record { first = t; others = ts; is = refl; means = subst (λ x. Means names x t) p m; mean = subst (λ (x : List Known). AllMean names x ts) q ms }

pub none_of : (names : List (List ℕ)) (js : List Known) (ts : List NamedType) → AllMean names js ts → length js ≡ 0 → ts ≡ []
none_of names [] [] h e = refl
none_of names [] (t ∷ ts) h e = elim h [ ]
none_of names (j ∷ js) ts h e = absurd (cc)

pub votes_are : (names : List (List ℕ)) → IsDistinct names → (k : Known) (t : NamedType) → Means names k t → (js : List Known) (us : List NamedType) → AllMean names js us → (both one all : Bool) → both ≡ (one && all) → one ≡ is_some (scalar_in k) → all ≡ list_all (λ other. known_eq.eq k other) js → both ≡ (is_scalar_that any_scalar t && list_all (same_type t) us)
votes_are names d k t m js us ms both one all b o a = b ∙ ap (λ x. x && all) (o ∙ sym (any_scalar_means names k t m)) ∙ ap (λ x. is_scalar_that any_scalar t && x) (a ∙ sym (all_same_means names d k t m js us ms))

-- ---- elements that are written one by one

pub nested : (ds : Declarations) (at : ℕ) (t : NamedType) (ts : List NamedType) → list_any is_array (t ∷ ts) ≡ true → on_items ds at (t ∷ ts) ≡ lacks (NestedArray at)
nested ds at t ts e = ap (λ b. if b then lacks (NestedArray at) else if list_all (same_type t) ts then on_elements ds at (suc (length ts)) t else lacks (TypeClash at)) e

pub unlike : (ds : Declarations) (at : ℕ) (t : NamedType) (ts : List NamedType) → list_any is_array (t ∷ ts) ≡ false → list_all (same_type t) ts ≡ false → on_items ds at (t ∷ ts) ≡ lacks (TypeClash at)
unlike ds at t ts e f = ap (λ b. if b then lacks (NestedArray at) else if list_all (same_type t) ts then on_elements ds at (suc (length ts)) t else lacks (TypeClash at)) e ∙ ap (λ b. if b then on_elements ds at (suc (length ts)) t else lacks (TypeClash at)) f

pub alike : (ds : Declarations) (at : ℕ) (t : NamedType) (ts : List NamedType) → list_any is_array (t ∷ ts) ≡ false → list_all (same_type t) ts ≡ true → on_items ds at (t ∷ ts) ≡ on_elements ds at (suc (length ts)) t
alike ds at t ts e f = ap (λ b. if b then lacks (NestedArray at) else if list_all (same_type t) ts then on_elements ds at (suc (length ts)) t else lacks (TypeClash at)) e ∙ ap (λ b. if b then on_elements ds at (suc (length ts)) t else lacks (TypeClash at)) f

same_lengths : (names : List (List ℕ)) (ks : List Known) (ts : List NamedType) → AllMean names ks ts → length ks ≡ length ts
same_lengths names [] [] h = refl
same_lengths names [] (t ∷ ts) h = elim h [ ]
same_lengths names (k ∷ ks) [] h = elim h [ ]
same_lengths names (k ∷ ks) (t ∷ ts) (all_more m ms) = ap suc (same_lengths names ks ts ms)

pub lengths : (names : List (List ℕ)) (k : Known) (ks : List Known) (ts : List NamedType) → AllMean names ks ts → length (k ∷ ks) ≡ suc (length ts)
lengths names k ks ts h = ap suc (same_lengths names ks ts h)

pub first_words : (all : List CodeStruct) (ds : Declarations) (js ks : List Known) (k : Known) (ts : List NamedType) (t : NamedType) (us : List NamedType) → js ≡ k ∷ ks → ts ≡ t ∷ us → ItemsHaveWords all ds js ts → HasWords all k ds t
first_words all ds js ks k ts t us e f w = subst (λ (x : List NamedType). ItemsHaveWords all ds (k ∷ ks) x) f (subst (λ (x : List Known). ItemsHaveWords all ds x ts) e w)

-- an array is too wide where so many of its elements' counted words are too many
pub up : (n k m : ℕ) → m ≤ k → m ≤ suc n * k
up zero k m h = omega arith
up (suc n) k m h = let p = up n k m h in let e = suc-mul (suc n) k in omega arith

counted_by : (n words : ℕ) (small : Bool) → nat_le words 1025 ≡ small → nat_lt 1024 (suc n * capped words) ≡ nat_lt 1024 (suc n * words)
counted_by n words true h = let e : min words 1025 ≡ words = grind (arith, nat_tests, h) in ap (λ k. nat_lt 1024 (suc n * k)) e
counted_by n words false h =
    let w : 1025 ≤ words = grind (arith, nat_tests, h) in
    let a : 1025 ≤ suc n * capped words = up n (capped words) 1025 (omega arith) in
    let b : 1025 ≤ suc n * words = up n words 1025 w in
    grind (arith, nat_tests, a, b)

counted : (n words : ℕ) → nat_lt 1024 (n * capped words) ≡ nat_lt 1024 (n * words)
counted zero words = grind (arith, nat_tests)
counted (suc n) words = counted_by n words (nat_le words 1025) refl

pub wide : (n w r words : ℕ) → r ≡ min (n * w) 18446744073709551615 → w ≡ capped words → nat_lt 1024 r ≡ nat_lt 1024 (n * words)
wide n w r words e f = ap (nat_lt 1024) e ∙ ap (λ k. nat_lt 1024 (min (n * k) 18446744073709551615)) f ∙ (grind (arith, nat_tests)) ∙ counted n words

-- ---- drops

pub drop_kept : (at k m : ℕ) (n : Named) (t : NamedType) → kind.Kept m ≡ kind_of n → on_drop at k n t ≡ if_so (nat_lt k m) t (DropTooFar at)
drop_kept at k m (extern_of ds ty) t e = absurd (cc)
drop_kept at k m (stream_of ds ty l) t e = let f : m ≡ l = cc in ap (λ x. if_so (nat_lt k x) t (DropTooFar at)) (sym f)
drop_kept at k m (def_of ds ty) t e = absurd (cc)

pub drop_unkept : (at k : ℕ) (n : Named) (t : NamedType) → kind.Unkept ≡ kind_of n → on_drop at k n t ≡ lacks (DropOfNoBuffer at)
drop_unkept at k (extern_of ds ty) t e = refl
drop_unkept at k (stream_of ds ty l) t e = absurd (cc)
drop_unkept at k (def_of ds ty) t e = refl
