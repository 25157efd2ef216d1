-- Types of the code and those that they stand for.
use Rattle.std.proofs.Common.{◌≡◌, ℕ, Bool, true, false, nat_eq, List, refl, sym, ap, ◌∙◌, subst, rules, arith}
use Rattle.std.specs.Prelude.{◌&&◌, slice_get, bytes_eq, Option, Some, None}
use Rattle.std.specs.Option.{option_map}
use Rattle.std.specs.Cmp.Lexicographic.{nat_list_eq_equiv}
use Rattle.std.proofs.lemmas.Bool.Decides.{nat_tests}
use Rattle.stream_types.specs.declared.scalar.Scalar.{Scalar}
use Rattle.stream_types.specs.declared.scalar.Scalar.TheVariants as s_
use Rattle.stream_types.specs.contracts.scalar.ScalarPartialEq.TheImpl.{ghosts as scalar_eq}
use Rattle.stream_types.specs.contracts.scalar.Scalar.{the_type as scalar_type}
use denote.Enum.Bare.{same_true as bare_true}
use Rattle.type_check.specs.declared.known.Known.{Known}
use Rattle.type_check.specs.declared.known.Known.TheVariants as known
use Rattle.type_check.specs.declared.known.Element.{Element}
use Rattle.type_check.specs.declared.known.Element.TheVariants as element
use Rattle.type_check.specs.contracts.known.KnownPartialEq.TheImpl.{ghosts as known_eq}
use Rattle.type_check.specs.contracts.known.ElementPartialEq.TheImpl.{ghosts as element_eq}
use Rattle.type_check.specs.NamedType.{NamedType, scalar, struct, array, same_scalar, same_type}
use Rattle.type_check.specs.Standing.{named_element, Means, IsDistinct}
use Rattle.type_check.proofs.SameNames.{nat_same, list_same}

-- ---- tests that mean the same

pub scalar_refl : (s : Scalar) → scalar_eq.eq s s ≡ true
scalar_refl s_.Bool = refl
scalar_refl s_.Int8 = refl
scalar_refl s_.Int16 = refl
scalar_refl s_.Int32 = refl
scalar_refl s_.Int64 = refl
scalar_refl s_.Word8 = refl
scalar_refl s_.Word16 = refl
scalar_refl s_.Word32 = refl
scalar_refl s_.Word64 = refl

pub same_scalar_refl : (s : Scalar) → same_scalar s s ≡ true
same_scalar_refl s_.Bool = refl
same_scalar_refl s_.Int8 = refl
same_scalar_refl s_.Int16 = refl
same_scalar_refl s_.Int32 = refl
same_scalar_refl s_.Int64 = refl
same_scalar_refl s_.Word8 = refl
same_scalar_refl s_.Word16 = refl
same_scalar_refl s_.Word32 = refl
same_scalar_refl s_.Word64 = refl

same_scalar_true : (s t : Scalar) → same_scalar s t ≡ true → s ≡ t
same_scalar_true s_.Bool s_.Bool h = refl
same_scalar_true s_.Int8 s_.Int8 h = refl
same_scalar_true s_.Int16 s_.Int16 h = refl
same_scalar_true s_.Int32 s_.Int32 h = refl
same_scalar_true s_.Int64 s_.Int64 h = refl
same_scalar_true s_.Word8 s_.Word8 h = refl
same_scalar_true s_.Word16 s_.Word16 h = refl
same_scalar_true s_.Word32 s_.Word32 h = refl
same_scalar_true s_.Word64 s_.Word64 h = refl
same_scalar_true _ _ h = absurd (cc)

-- two tests that hold in the same cases are one
pub one_test : (a b : Bool) → (a ≡ true → b ≡ true) → (b ≡ true → a ≡ true) → a ≡ b
one_test true b f g = sym (f refl)
one_test false true f g = g refl
one_test false false f g = refl

same_scalars : (s t : Scalar) → same_scalar s t ≡ scalar_eq.eq s t
same_scalars s t = one_test (same_scalar s t) (scalar_eq.eq s t)
    (λ h. subst (λ (u : Scalar). scalar_eq.eq s u ≡ true) (same_scalar_true s t h) (scalar_refl s))
    (λ h. subst (λ (u : Scalar). same_scalar s u ≡ true) (bare_true scalar_type (search rules) s t h) (same_scalar_refl s))

pub same_structs : (names : List (List ℕ)) → IsDistinct names → (i j : ℕ) (x y : List ℕ) → slice_get names i ≡ Some x → slice_get names j ≡ Some y → bytes_eq x y ≡ nat_eq i j
same_structs names d i j x y p q = one_test (bytes_eq x y) (nat_eq i j)
    (λ h. let e = list_same x y h in let f = d.once i j y (p ∙ ap Some e) q in grind (arith, nat_tests, f))
    (λ h. let e = nat_same i j h in let f : Some x ≡ Some y = sym p ∙ ap (slice_get names) e ∙ q in let g : x ≡ y = cc in subst (λ z. bytes_eq x z ≡ true) g (nat_list_eq_equiv.refl x))

pub some_struct : (o : Option (List ℕ)) (t : NamedType) → option_map struct o ≡ Some t → (x : List ℕ) × (o ≡ Some x) × (t ≡ struct x)
some_struct None t h = absurd (cc)
some_struct (Some x) t h = (x, refl, cc)

pub some_array : (o : Option NamedType) (n : ℕ) (t : NamedType) → option_map (λ u. array u n) o ≡ Some t → (u : NamedType) × (o ≡ Some u) × (t ≡ array u n)
some_array None n t h = absurd (cc)
some_array (Some u) n t h = (u, refl, cc)

same_elements : (names : List (List ℕ)) → IsDistinct names → (a b : Element) (s t : NamedType) → named_element names a ≡ Some s → named_element names b ≡ Some t → same_type s t ≡ element_eq.eq a b
same_elements names d (element.Scalar x) (element.Scalar y) s t p q = let e : s ≡ scalar x = cc in let f : t ≡ scalar y = cc in ap (λ v. same_type v t) e ∙ ap (same_type (scalar x)) f ∙ same_scalars x y
same_elements names d (element.Scalar x) (element.Struct j) s t p q = let e : s ≡ scalar x = cc in let f = some_struct (slice_get names j) t q in ap (λ v. same_type v t) e ∙ ap (same_type (scalar x)) f.2
same_elements names d (element.Struct i) (element.Scalar y) s t p q = let e = some_struct (slice_get names i) s p in let f : t ≡ scalar y = cc in ap (λ v. same_type v t) e.2 ∙ ap (same_type (struct e.0)) f
same_elements names d (element.Struct i) (element.Struct j) s t p q =
    let e = some_struct (slice_get names i) s p in
    let f = some_struct (slice_get names j) t q in
    ap (λ v. same_type v t) e.2 ∙ ap (same_type (struct e.0)) f.2 ∙ same_structs names d i j e.0 f.0 e.1 f.1

-- the type of an element is no array
element_array : (names : List (List ℕ)) → (a : Element) (s u : NamedType) (n : ℕ) → named_element names a ≡ Some s → same_type s (array u n) ≡ false
element_array names (element.Scalar x) s u n p = let e : s ≡ scalar x = cc in ap (λ v. same_type v (array u n)) e
element_array names (element.Struct i) s u n p = let e = some_struct (slice_get names i) s p in ap (λ v. same_type v (array u n)) e.2

array_element : (names : List (List ℕ)) → (a : Element) (s u : NamedType) (n : ℕ) → named_element names a ≡ Some s → same_type (array u n) s ≡ false
array_element names (element.Scalar x) s u n p = let e : s ≡ scalar x = cc in ap (same_type (array u n)) e
array_element names (element.Struct i) s u n p = let e = some_struct (slice_get names i) s p in ap (same_type (array u n)) e.2

-- Two types are the same where those that they stand for are.
pub same_means : (names : List (List ℕ)) → IsDistinct names → (a b : Known) (s t : NamedType) → Means names a s → Means names b t → same_type s t ≡ known_eq.eq a b
same_means names d (known.Element a) (known.Element b) s t p q = same_elements names d a b s t p.is q.is
same_means names d (known.Element a) (known.Array b n) s t p q = let f = some_array (named_element names b) n t q.is in ap (same_type s) f.2 ∙ element_array names a s f.0 n p.is
same_means names d (known.Array a m) (known.Element b) s t p q = let e = some_array (named_element names a) m s p.is in ap (λ v. same_type v t) e.2 ∙ array_element names b t e.0 m q.is
same_means names d (known.Array a m) (known.Array b n) s t p q =
    let e = some_array (named_element names a) m s p.is in
    let f = some_array (named_element names b) n t q.is in
    ap (λ v. same_type v t) e.2 ∙ ap (same_type (array e.0 m)) f.2 ∙ ap (λ v. v && nat_eq m n) (same_elements names d a b e.0 f.0 e.1 f.1)

and_split : (a b : Bool) → (a && b) ≡ true → (a ≡ true) × (b ≡ true)
and_split true b h = (refl, h)
and_split false b h = absurd (cc)

pub same_true : (s t : NamedType) → same_type s t ≡ true → s ≡ t
same_true (scalar s) (scalar t) h = ap scalar (same_scalar_true s t h)
same_true (struct x) (struct y) h = ap struct (list_same x y h)
same_true (array s m) (array t n) h =
    let e = and_split (same_type s t) (nat_eq m n) h in
    ap (λ u. array u m) (same_true s t e.0) ∙ ap (array t) (nat_same m n e.1)
same_true (scalar s) (struct y) h = absurd (cc)
same_true (scalar s) (array t n) h = absurd (cc)
same_true (struct x) (scalar t) h = absurd (cc)
same_true (struct x) (array t n) h = absurd (cc)
same_true (array s m) (scalar t) h = absurd (cc)
same_true (array s m) (struct y) h = absurd (cc)
