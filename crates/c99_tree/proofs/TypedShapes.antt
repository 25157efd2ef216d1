-- The values that words give, and those that are zero everywhere, are values of their types.
use Rattle.std.proofs.Common.{◌≡◌, ℕ, zero, suc, ◌+◌, ◌-◌, ◌^◌, ◌<◌, ◌≤◌, Bool, true, false, ◌&&◌, ◌||◌, List, [], ◌∷◌, length, map, Option, Some, None, refl, sym, ◌∙◌, subst, arith}
use Rattle.std.specs.Prelude.{ℤ, pos, negsuc, ◌-ℤ◌, IsSome, is_some, nat_le, nat_lt, replicate, if◌then◌else◌}
use Rattle.std.specs.List.{list_all, AllZip, AllByRecursion}
use Rattle.std.specs.Option.{option_map, option_map_or, option_and_then}
use Rattle.std.proofs.lemmas.Bool.Decides.{nat_tests}
use Rattle.std.proofs.lemmas.Int.{ints}
use Rattle.c99_tree.specs.declared.types.CScalar.{CScalar}
use Rattle.c99_tree.specs.declared.types.CScalar.TheVariants as t
use Rattle.c99_tree.specs.declared.types.CTy.{CTy}
use Rattle.c99_tree.specs.declared.types.CTy.TheVariants as ty
use Rattle.c99_tree.specs.declared.types.CVar.{CVar}
use Rattle.c99_tree.specs.declared.types.CDef.{CDef}
use Rattle.c99_tree.specs.declared.unit.CRing.{CRing}
use Rattle.c99_tree.specs.CTypes.{num, bits, is_signed}
use Rattle.c99_tree.specs.Words.{elem_type}
use Rattle.c99_tree.specs.Lookup.{fields_of}
use Rattle.c99_tree.specs.Values.{Value, Values, number, struct_of, array_of, no_value, and_value, values, is_word, number_of_word, Shape, Shapes, scalar, members, elements, no_shape, and_shape, shapes_of_fields, shape_of_element, shape_over, shape_within, shape_of, repeated, filled, filled_all, whole, first_values, row_values, copies_of, zero_value, zero_values, no_such_value}
use Rattle.c99_tree.specs.Run.{first_copy, first_ring}
use Rattle.c99_tree.specs.Typed.{in_range, IsNumberOf, IsValueOf, AreValuesOf, IsRingOf}
use Rattle.c99_tree.proofs.NumberRanges.{each_scalar, within, within_half, within_range}
use Rattle.c99_tree.proofs.Shapes.{shape_within-suc, shape_within-zero}
use Rattle.sm_io.proofs.Truths.{left_passes, right_passes}
use Rattle.sm_io.proofs.Elements.{all_by_place}

-- ---- values by shapes

-- n values, P of each
abbrev pub Times : (Value → Type 0) → ℕ → Values → Type 0
Times P zero no_value = Unit {0}
Times P zero (and_value v vs) = ⊥
Times P (suc n) no_value = ⊥
Times P (suc n) (and_value v vs) = P v × Times P n vs

abbrev mutual
  pub HasShape : Shape → Value → Type 0
  HasShape (scalar s) (number x) = IsNumberOf s x
  HasShape (members ss) (struct_of vs) = HaveShapes ss vs
  HasShape (elements n s) (array_of vs) = Times (HasShape s) n vs
  HasShape _ _ = ⊥

  pub HaveShapes : Shapes → Values → Type 0
  HaveShapes no_shape no_value = Unit {0}
  HaveShapes (and_shape s ss) (and_value v vs) = HasShape s v × HaveShapes ss vs
  HaveShapes _ _ = ⊥

-- a type's values are those of its shape
abbrev Shaped : List CDef → (CTy → Option Shape) → Type 0
Shaped ds f = (r : CTy) (s : Shape) (v : Value) → f r ≡ Some s → HasShape s v → IsValueOf ds r v

scalar_value : (ds : List CDef) (c : CScalar) (s : Shape) (v : Value) → Some (scalar c) ≡ Some s → HasShape s v → IsValueOf ds (ty.Scalar c) v
scalar_value ds c s v e h = at_shape v (subst (λ (z : Shape). HasShape z v) (sym same) h)
  where
    same : scalar c ≡ s
    same = cc e

    at_shape : (w : Value) → HasShape (scalar c) w → IsValueOf ds (ty.Scalar c) w
    at_shape (number x) g = g
    at_shape (struct_of vs) g = absurd g
    at_shape (array_of vs) g = absurd g

pub record Fields (a : Option Shape) (b : Option Shapes) (ss : Shapes) : Type 0 where
  pub one : Shape
  pub others : Shapes
  pub one_is : a ≡ Some one
  pub others_are : b ≡ Some others
  pub both : and_shape one others ≡ ss

pub fields_split : (a : Option Shape) (b : Option Shapes) (ss : Shapes) → option_and_then (λ x. option_map (and_shape x) b) a ≡ Some ss → Fields a b ss
fields_split None b ss e = absurd (cc e)
fields_split (Some x) None ss e = absurd (cc e)
fields_split (Some x) (Some xs) ss e = record { one = x; others = xs; one_is = refl; others_are = refl; both = cc e }

fields_values : (ds : List CDef) (f : CTy → Option Shape) → Shaped ds f → (fields : List CVar) (ss : Shapes) (vs : Values) → shapes_of_fields f fields ≡ Some ss → HaveShapes ss vs
    → AreValuesOf ds (map (λ v. v.ty) fields) vs
fields_values ds f m [] no_shape no_value e h = tt
fields_values ds f m [] no_shape (and_value v vs) e h = absurd h
fields_values ds f m [] (and_shape s ss) vs e h = absurd (cc e)
fields_values ds f m (x ∷ xs) ss no_value e h =
    let p = fields_split (f x.ty) (shapes_of_fields f xs) ss e in
    absurd (subst (λ (z : Shapes). HaveShapes z no_value) (sym p.both) h)
fields_values ds f m (x ∷ xs) ss (and_value v vs) e h =
    let p = fields_split (f x.ty) (shapes_of_fields f xs) ss e in
    let q : HaveShapes (and_shape p.one p.others) (and_value v vs) = subst (λ (z : Shapes). HaveShapes z (and_value v vs)) (sym p.both) h in
    (m x.ty p.one v p.one_is q.0, fields_values ds f m xs p.others vs p.others_are q.1)

members_value : (ds : List CDef) (f : CTy → Option Shape) → Shaped ds f → (x : List ℕ) (fields : List CVar) (o : Option Shapes) (s : Shape) (v : Value) → fields_of ds x ≡ Some fields → shapes_of_fields f fields ≡ o
    → option_map members o ≡ Some s → HasShape s v → IsValueOf ds (ty.Struct x) v
members_value ds f m x fields None s v g e h p = absurd (cc h)
members_value ds f m x fields (Some ss) s v g e h p =
    let same : members ss ≡ s = cc h in
    at_members v (subst (λ (z : Shape). HasShape z v) (sym same) p)
  where
    at_members : (w : Value) → HasShape (members ss) w → IsValueOf ds (ty.Struct x) w
    at_members (number n) q = absurd q
    at_members (struct_of vs) q = (fields, g, fields_values ds f m fields ss vs e q)
    at_members (array_of vs) q = absurd q

struct_at : (ds : List CDef) (f : CTy → Option Shape) → Shaped ds f → (x : List ℕ) (o : Option (List CVar)) (s : Shape) (v : Value) → fields_of ds x ≡ o
    → option_and_then (λ fields. option_map members (shapes_of_fields f fields)) o ≡ Some s → HasShape s v → IsValueOf ds (ty.Struct x) v
struct_at ds f m x None s v g e h = absurd (cc e)
struct_at ds f m x (Some fields) s v g e h = members_value ds f m x fields (shapes_of_fields f fields) s v g refl e h

element_value : (ds : List CDef) (f : CTy → Option Shape) → Shaped ds f → (r : CTy) (s : Shape) (v : Value) → shape_of_element f ds r ≡ Some s → HasShape s v → IsValueOf ds r v
element_value ds f m (ty.Scalar c) s v e h = scalar_value ds c s v e h
element_value ds f m (ty.Struct x) s v e h = struct_at ds f m x (fields_of ds x) s v refl e h
element_value ds f m (ty.Array x n) s v e h = absurd (cc e)

times_values : (ds : List CDef) (r : CTy) (P : Value → Type 0) (n : ℕ) (vs : Values) → ((v : Value) → P v → IsValueOf ds r v) → Times P n vs → AreValuesOf ds (replicate n r) vs
times_values ds r P zero no_value m h = tt
times_values ds r P zero (and_value v vs) m h = absurd h
times_values ds r P (suc n) no_value m h = absurd h
times_values ds r P (suc n) (and_value v vs) m h = (m v h.0, times_values ds r P n vs m h.1)

array_value : (ds : List CDef) (f : CTy → Option Shape) → Shaped ds f → (x : List ℕ) (n : ℕ) (o : Option Shape) (s : Shape) (v : Value) → shape_of_element f ds (elem_type x) ≡ o
    → option_map (elements n) o ≡ Some s → HasShape s v → IsValueOf ds (ty.Array x n) v
array_value ds f m x n None s v g e h = absurd (cc e)
array_value ds f m x n (Some r) s v g e h =
    let same : elements n r ≡ s = cc e in
    at_elements v (subst (λ (z : Shape). HasShape z v) (sym same) h)
  where
    at_elements : (w : Value) → HasShape (elements n r) w → IsValueOf ds (ty.Array x n) w
    at_elements (number k) q = absurd q
    at_elements (struct_of vs) q = absurd q
    at_elements (array_of vs) q = times_values ds (elem_type x) (HasShape r) n vs (λ u p. element_value ds f m (elem_type x) r u g p) q

over_value : (ds : List CDef) (f : CTy → Option Shape) → Shaped ds f → Shaped ds (shape_over f ds)
over_value ds f m (ty.Scalar c) s v e h = scalar_value ds c s v e h
over_value ds f m (ty.Struct x) s v e h = struct_at ds f m x (fields_of ds x) s v refl e h
over_value ds f m (ty.Array x n) s v e h = array_value ds f m x n (shape_of_element f ds (elem_type x)) s v refl e h

within_value : (n : ℕ) (ds : List CDef) → Shaped ds (shape_within n ds)
within_value zero ds r s v e h = absurd (cc (shape_within-zero ds r, e))
within_value (suc n) ds r s v e h = over_value ds (shape_within n ds) (within_value n ds) r s v (sym (shape_within-suc n ds r) ∙ e) h

pub shaped_value : (ds : List CDef) → Shaped ds (shape_of ds)
shaped_value ds = within_value (length ds + 1) ds

-- ---- words

pub signed_word : (k w : ℕ) (c : Bool) → 0 < k → k ≤ 2 ^ 63 → nat_le (2 ^ 63) w ≡ c → (nat_lt w k || (nat_le (2 ^ 64 - k) w && nat_lt w (2 ^ 64))) ≡ true
    → within_half k (if c then pos w -ℤ pos (2 ^ 64) else pos w) ≡ true
signed_word k w false p l e h = grind (arith, nat_tests)
signed_word k w true p l e h =
    let q : 2 ^ 64 ≤ w + k = grind (arith, nat_tests, h, e) in
    let r : w < 2 ^ 64 = grind (arith, nat_tests, h, e) in
    let z : pos w -ℤ pos (2 ^ 64) ≡ negsuc (2 ^ 64 - w - 1) = omega (arith, ints) in
    let y : nat_lt (2 ^ 64 - w - 1) k ≡ true = grind (arith, nat_tests, q, r) in
    rw z y

either_number : (s : CScalar) (c : Bool) (a b : ℤ) → within (bits s) (is_signed s) (if c then a else b) ≡ true → IsNumberOf s (if c then num s a else num s b)
either_number s true a b h = record { typed = refl; ranged = within_range s a h }
either_number s false a b h = record { typed = refl; ranged = within_range s b h }

pub word_number : (s : CScalar) (w : ℕ) → is_word s w ≡ true → IsNumberOf s (number_of_word s w)
word_number t.Bool w h = record { typed = refl; ranged = within_range t.Bool (pos w) h }
word_number t.I8 w h = either_number t.I8 (nat_le (2 ^ 63) w) (pos w -ℤ pos (2 ^ 64)) (pos w) (signed_word (2 ^ 7) w (nat_le (2 ^ 63) w) (omega arith) (omega arith) refl h)
word_number t.I16 w h = either_number t.I16 (nat_le (2 ^ 63) w) (pos w -ℤ pos (2 ^ 64)) (pos w) (signed_word (2 ^ 15) w (nat_le (2 ^ 63) w) (omega arith) (omega arith) refl h)
word_number t.I32 w h = either_number t.I32 (nat_le (2 ^ 63) w) (pos w -ℤ pos (2 ^ 64)) (pos w) (signed_word (2 ^ 31) w (nat_le (2 ^ 63) w) (omega arith) (omega arith) refl h)
word_number t.I64 w h = either_number t.I64 (nat_le (2 ^ 63) w) (pos w -ℤ pos (2 ^ 64)) (pos w) (signed_word (2 ^ 63) w (nat_le (2 ^ 63) w) (omega arith) (omega arith) refl h)
word_number t.U8 w h = record { typed = refl; ranged = within_range t.U8 (pos w) h }
word_number t.U16 w h = record { typed = refl; ranged = within_range t.U16 (pos w) h }
word_number t.U32 w h = record { typed = refl; ranged = within_range t.U32 (pos w) h }
word_number t.U64 w h = record { typed = refl; ranged = within_range t.U64 (pos w) h }

-- ---- what words fill

abbrev pub IfSome : {A : Type 0} → Option A → (A → Type 0) → Type 0
IfSome None P = Unit {0}
IfSome (Some x) P = P x

pub map_has : {A B : Type 0} (f : A → B) (o : Option A) (P : A → Type 0) (Q : B → Type 0) → IfSome o P → ((x : A) → P x → Q (f x)) → IfSome (option_map f o) Q
map_has f None P Q h m = tt
map_has f (Some x) P Q h m = m x h

pub then_has : {A B : Type 0} (f : A → Option B) (o : Option A) (P : A → Type 0) (Q : B → Type 0) → IfSome o P → ((x : A) → P x → IfSome (f x) Q) → IfSome (option_and_then f o) Q
then_has f None P Q h m = tt
then_has f (Some x) P Q h m = m x h

repeated_has : (P : Value → Type 0) (n : ℕ) (f : List ℕ → Option (Value × List ℕ)) → ((ws : List ℕ) → IfSome (f ws) (λ a. P a.0)) → (ws : List ℕ) → IfSome (repeated n f ws) (λ a. Times P n (values a.0))
repeated_has P zero f m ws = tt
repeated_has P (suc n) f m ws =
    then_has (λ (a : Value × List ℕ). option_map (λ (b : List Value × List ℕ). (a.0 ∷ b.0, b.1)) (repeated n f a.1)) (f ws) (λ a. P a.0) (λ b. Times P (suc n) (values b.0)) (m ws)
    (λ a p. map_has (λ (b : List Value × List ℕ). (a.0 ∷ b.0, b.1)) (repeated n f a.1) (λ b. Times P n (values b.0)) (λ b. Times P (suc n) (values b.0)) (repeated_has P n f m a.1) (λ b q. (p, q)))

word_has : (s : CScalar) (w : ℕ) (ws : List ℕ) (c : Bool) → is_word s w ≡ c → IfSome (if c then Some (number (number_of_word s w), ws) else None) (λ (a : Value × List ℕ). HasShape (scalar s) a.0)
word_has s w ws true e = word_number s w e
word_has s w ws false e = tt

mutual
  pub filled_has : (s : Shape) (ws : List ℕ) → IfSome (filled s ws) (λ a. HasShape s a.0)
  filled_has (scalar s) [] = tt
  filled_has (scalar s) (w ∷ ws) = word_has s w ws (is_word s w) refl
  filled_has (members ss) ws =
      map_has (λ (a : Values × List ℕ). (struct_of a.0, a.1)) (filled_all ss ws) (λ a. HaveShapes ss a.0) (λ a. HasShape (members ss) a.0) (filled_all_have ss ws) (λ a p. p)
  filled_has (elements n s) ws =
      map_has (λ (a : List Value × List ℕ). (array_of (values a.0), a.1)) (repeated n (filled s) ws) (λ a. Times (HasShape s) n (values a.0)) (λ a. HasShape (elements n s) a.0)
      (repeated_has (HasShape s) n (filled s) (filled_has s) ws) (λ a p. p)

  filled_all_have : (ss : Shapes) (ws : List ℕ) → IfSome (filled_all ss ws) (λ a. HaveShapes ss a.0)
  filled_all_have no_shape ws = tt
  filled_all_have (and_shape s ss) ws =
      then_has (λ (a : Value × List ℕ). option_map (λ (b : Values × List ℕ). (and_value a.0 b.0, b.1)) (filled_all ss a.1)) (filled s ws) (λ a. HasShape s a.0) (λ b. HaveShapes (and_shape s ss) b.0) (filled_has s ws)
      (λ a p. map_has (λ (b : Values × List ℕ). (and_value a.0 b.0, b.1)) (filled_all ss a.1) (λ b. HaveShapes ss b.0) (λ b. HaveShapes (and_shape s ss) b.0) (filled_all_have ss a.1) (λ b q. (p, q)))

-- ---- what is zero everywhere

copies_have : (P : Value → Type 0) (n : ℕ) (v : Value) → P v → Times P n (copies_of n v)
copies_have P zero v h = tt
copies_have P (suc n) v h = (h, copies_have P n v h)

mutual
  pub zero_has : (s : Shape) → HasShape s (zero_value s)
  zero_has (scalar c) = record { typed = refl; ranged = each_scalar (λ s. in_range s (pos 0)) refl c }
  zero_has (members ss) = zeros_have ss
  zero_has (elements n s) = copies_have (HasShape s) n (zero_value s) (zero_has s)

  zeros_have : (ss : Shapes) → HaveShapes ss (zero_values ss)
  zeros_have no_shape = tt
  zeros_have (and_shape s ss) = (zero_has s, zeros_have ss)

-- ---- the first values of copies and rings

copy_at : (ds : List CDef) (r : CTy) (o : Option Shape) → shape_of ds r ≡ o → IsSome o → IsValueOf ds r (option_map_or zero_value o no_such_value)
copy_at ds r None e h = absurd (cc h)
copy_at ds r (Some s) e h = shaped_value ds r s (zero_value s) e (zero_has s)

pub first_copies_are : (ds : List CDef) (xs : List CVar) → list_all (λ x. is_some (shape_of ds x.ty)) xs ≡ true → AllZip (λ x v. IsValueOf ds x.ty v) xs (map (first_copy ds) xs)
first_copies_are ds [] h = tt
first_copies_are ds (x ∷ xs) h =
    (copy_at ds x.ty (shape_of ds x.ty) refl (left_passes (is_some (shape_of ds x.ty)) (list_all (λ z. is_some (shape_of ds z.ty)) xs) h), first_copies_are ds xs (right_passes (is_some (shape_of ds x.ty)) (list_all (λ z. is_some (shape_of ds z.ty)) xs) h))

abbrev AreLong : List CDef → CTy → ℕ → List Value → Type 0
AreLong ds r n vs = (length vs ≡ n) × AllByRecursion (IsValueOf ds r) vs

times_long : (ds : List CDef) (r : CTy) (s : Shape) (n : ℕ) (vs : List Value) → shape_of ds r ≡ Some s → Times (HasShape s) n (values vs) → AreLong ds r n vs
times_long ds r s zero [] e h = (refl, tt)
times_long ds r s zero (v ∷ vs) e h = absurd h
times_long ds r s (suc n) [] e h = absurd h
times_long ds r s (suc n) (v ∷ vs) e h =
    let p = times_long ds r s n vs e h.1 in
    (omega (arith, p.0), (shaped_value ds r s v e h.0, p.1))

whole_has : (P : List Value → Type 0) (a : List Value × List ℕ) → P a.0 → IfSome (whole a) P
whole_has P (vs, []) h = h
whole_has P (vs, w ∷ ws) h = tt

ring_at_shape : (ds : List CDef) (r : CRing) (o : Option Shape) → shape_of ds r.ty ≡ o → IfSome (option_and_then (λ s. option_and_then whole (repeated r.len (filled s) r.init)) o) (AreLong ds r.ty r.len)
ring_at_shape ds r None e = tt
ring_at_shape ds r (Some s) e =
    then_has whole (repeated r.len (filled s) r.init) (λ a. Times (HasShape s) r.len (values a.0)) (AreLong ds r.ty r.len) (repeated_has (HasShape s) r.len (filled s) (filled_has s) r.init)
    (λ a p. whole_has (AreLong ds r.ty r.len) a (times_long ds r.ty s r.len a.0 e p))

ring_filled : (ds : List CDef) (r : CRing) (o : Option (List Value)) → IfSome o (AreLong ds r.ty r.len) → IsSome o → IsRingOf ds r (record { values = option_map_or (λ vs. vs) o []; index = 0 })
ring_filled ds r None h e = absurd (cc e)
ring_filled ds r (Some vs) h e = record { long = h.0; each = all_by_place (IsValueOf ds r.ty) vs h.1; index = omega arith }

pub first_rings_are : (ds : List CDef) (rs : List CRing) → list_all (λ r. is_some (first_values ds r)) rs ≡ true → AllZip (IsRingOf ds) rs (map (first_ring ds) rs)
first_rings_are ds [] h = tt
first_rings_are ds (r ∷ rs) h =
    (ring_filled ds r (first_values ds r) (ring_at_shape ds r (shape_of ds r.ty) refl) (left_passes (is_some (first_values ds r)) (list_all (λ z. is_some (first_values ds z)) rs) h), first_rings_are ds rs (right_passes (is_some (first_values ds r)) (list_all (λ z. is_some (first_values ds z)) rs) h))

-- ---- a row

-- one value for each variable, of its type
abbrev pub RowOf : List CDef → List CVar → (List Value × List ℕ) → Type 0
RowOf ds xs a = AllZip (λ (x : CVar) v. IsValueOf ds x.ty v) xs a.0

abbrev with_first : Value → (List Value × List ℕ) → (List Value × List ℕ)
with_first v b = (v ∷ b.0, b.1)

row_at_shape : (ds : List CDef) (x : CVar) (xs : List CVar) (ws : List ℕ) (o : Option Shape) → shape_of ds x.ty ≡ o → ((rest : List ℕ) → IfSome (row_values ds xs rest) (RowOf ds xs))
    → IfSome {A = List Value × List ℕ} (option_and_then (λ s. option_and_then (λ (a : Value × List ℕ). option_map (with_first a.0) (row_values ds xs a.1)) (filled s ws)) o) (RowOf ds (x ∷ xs))
row_at_shape ds x xs ws None e m = tt
row_at_shape ds x xs ws (Some s) e m =
    then_has (λ (a : Value × List ℕ). option_map (with_first a.0) (row_values ds xs a.1)) (filled s ws) (λ a. HasShape s a.0) (RowOf ds (x ∷ xs)) (filled_has s ws)
    (λ a p. map_has (with_first a.0) (row_values ds xs a.1) (RowOf ds xs) (RowOf ds (x ∷ xs)) (m a.1) (λ b q. (shaped_value ds x.ty s a.0 e p, q)))

pub row_values_are : (ds : List CDef) (xs : List CVar) (ws : List ℕ) → IfSome (row_values ds xs ws) (RowOf ds xs)
row_values_are ds [] ws = tt
row_values_are ds (x ∷ xs) ws = row_at_shape ds x xs ws (shape_of ds x.ty) refl (row_values_are ds xs)
