-- The words of a value of a type give it back.
use Rattle.std.proofs.Common.{◌≡◌, ℕ, zero, suc, ◌+◌, ◌-◌, ◌^◌, ◌<◌, ◌≤◌, ◌%◌, Bool, true, false, ◌&&◌, ◌||◌, ◌++◌, List, [], ◌∷◌, length, map, append_assoc, Option, Some, None, refl, sym, ap, ◌∙◌, subst, arith}
use Rattle.std.specs.Prelude.{ℤ, pos, negsuc, ◌-ℤ◌, unsigned_abs, nat_le, nat_lt, replicate, if◌then◌else◌}
use Rattle.std.specs.Int.{int_rem_euclid}
use Rattle.std.specs.Option.{option_map, option_and_then}
use Rattle.std.proofs.lemmas.Bool.Decides.{nat_tests}
use Rattle.std.proofs.Math.Pow.{pow_mono}
use Rattle.c99_tree.specs.declared.types.CScalar.{CScalar}
use Rattle.c99_tree.specs.declared.types.CScalar.TheVariants as t
use Rattle.c99_tree.specs.declared.types.CTy.{CTy}
use Rattle.c99_tree.specs.declared.types.CTy.TheVariants as ty
use Rattle.c99_tree.specs.declared.types.CVar.{CVar}
use Rattle.c99_tree.specs.declared.types.CDef.{CDef}
use Rattle.c99_tree.specs.CTypes.{Num, num}
use Rattle.c99_tree.specs.Words.{elem_type}
use Rattle.c99_tree.specs.Lookup.{fields_of}
use Rattle.c99_tree.specs.Values.{Value, Values, number, struct_of, array_of, no_value, and_value, values, value_list, is_word, number_of_word, word_of_number, words_of, words_of_all, Shape, Shapes, scalar, members, elements, no_shape, and_shape, shapes_of_fields, shape_of_element, shape_over, shape_within, shape_of, repeated, filled, filled_all}
use Rattle.c99_tree.specs.Typed.{IsNumberOf, IsValueOf, AreValuesOf}
use Rattle.c99_tree.proofs.NumberRanges.{within, within_half, range_within}
use Rattle.c99_tree.proofs.Shapes.{shape_within-suc, shape_within-zero}
use Rattle.c99_tree.proofs.TypedShapes.{HasShape, HaveShapes, Times, fields_split, IfSome, shaped_value, filled_has}

-- ---- numbers

abbrev word : ℤ → ℕ
word z = unsigned_abs (int_rem_euclid z (pos (2 ^ 64)))

record Back (c : Bool) (z back : ℤ) : Type 0 where
  passes : c ≡ true
  same : back ≡ z

signed_back : (k : ℕ) (z : ℤ) → 0 < k → k ≤ 2 ^ 63 → within_half k z ≡ true
    → Back (nat_lt (word z) k || (nat_le (2 ^ 64 - k) (word z) && nat_lt (word z) (2 ^ 64))) z (if nat_le (2 ^ 63) (word z) then pos (word z) -ℤ pos (2 ^ 64) else pos (word z))
signed_back k (pos n) p l h =
    let q : n < k = grind (arith, nat_tests, h) in
    let w : n % 2 ^ 64 ≡ n = omega (arith, q, l) in
    let b : nat_le (2 ^ 63) n ≡ false = grind (arith, nat_tests, q, l) in
    rw (w, b, h) (record { passes = refl; same = refl })
signed_back k (negsuc n) p l h =
    let q : n < k = grind (arith, nat_tests, h) in
    let w : 2 ^ 64 - 1 - n % 2 ^ 64 ≡ 2 ^ 64 - 1 - n = omega (arith, q, l) in
    let a : nat_lt (2 ^ 64 - 1 - n) k ≡ false = grind (arith, nat_tests, q, l) in
    let b : nat_le (2 ^ 63) (2 ^ 64 - 1 - n) ≡ true = grind (arith, nat_tests, q, l) in
    let c : nat_le (2 ^ 64 - k) (2 ^ 64 - 1 - n) ≡ true = grind (arith, nat_tests, q, l) in
    let d : nat_lt (2 ^ 64 - 1 - n) (2 ^ 64) ≡ true = grind (arith, nat_tests, q, l) in
    let e : 2 ^ 64 - suc (2 ^ 64 - 1 - n) ≡ n = omega (arith, q, l) in
    rw (w, a, b, c, d) (record { passes = refl; same = ap (λ m. negsuc m) e })

natural_back : (k : ℕ) (z : ℤ) → k ≤ 64 → within k false z ≡ true → Back (nat_lt (word z) (2 ^ k)) z (pos (word z))
natural_back k (pos n) l h =
    let q : n < 2 ^ k = grind (arith, nat_tests, h) in
    let m : 2 ^ k ≤ 2 ^ 64 = pow_mono l in
    let w : n % 2 ^ 64 ≡ n = omega (arith, q, m) in
    rw (w, h) (record { passes = refl; same = refl })
natural_back k (negsuc n) l h = absurd (cc h)

either_num : (s : CScalar) (c : Bool) (a b : ℤ) → (if c then num s a else num s b) ≡ num s (if c then a else b)
either_num s true a b = refl
either_num s false a b = refl

typed_num : (s : CScalar) (x : Num) (z : ℤ) → x.ty ≡ s → z ≡ x.n → num s z ≡ x
typed_num s x z e h = rw (h, ← e) refl

signed_same : (s : CScalar) (x : Num) (c : Bool) → IsNumberOf s x → Back c x.n (if nat_le (2 ^ 63) (word x.n) then pos (word x.n) -ℤ pos (2 ^ 64) else pos (word x.n))
    → (c ≡ true) × ((if nat_le (2 ^ 63) (word x.n) then num s (pos (word x.n) -ℤ pos (2 ^ 64)) else num s (pos (word x.n))) ≡ x)
signed_same s x c h b =
    (b.passes, either_num s (nat_le (2 ^ 63) (word x.n)) (pos (word x.n) -ℤ pos (2 ^ 64)) (pos (word x.n)) ∙ typed_num s x (if nat_le (2 ^ 63) (word x.n) then pos (word x.n) -ℤ pos (2 ^ 64) else pos (word x.n)) h.typed b.same)

natural_same : (s : CScalar) (x : Num) (c : Bool) → IsNumberOf s x → Back c x.n (pos (word x.n)) → (c ≡ true) × (num s (pos (word x.n)) ≡ x)
natural_same s x c h b = (b.passes, typed_num s x (pos (word x.n)) h.typed b.same)

-- the word of a number of a type is a word of the type, and stands for that number
pub number_back : (s : CScalar) (x : Num) → IsNumberOf s x → (is_word s (word_of_number x) ≡ true) × (number_of_word s (word_of_number x) ≡ x)
number_back t.Bool x h = natural_same t.Bool x (nat_lt (word x.n) (2 ^ 1)) h (natural_back 1 x.n (omega arith) (range_within t.Bool x.n h.ranged))
number_back t.I8 x h = signed_same t.I8 x (nat_lt (word x.n) (2 ^ 7) || (nat_le (2 ^ 64 - 2 ^ 7) (word x.n) && nat_lt (word x.n) (2 ^ 64))) h (signed_back (2 ^ 7) x.n (omega arith) (omega arith) (range_within t.I8 x.n h.ranged))
number_back t.I16 x h = signed_same t.I16 x (nat_lt (word x.n) (2 ^ 15) || (nat_le (2 ^ 64 - 2 ^ 15) (word x.n) && nat_lt (word x.n) (2 ^ 64))) h (signed_back (2 ^ 15) x.n (omega arith) (omega arith) (range_within t.I16 x.n h.ranged))
number_back t.I32 x h = signed_same t.I32 x (nat_lt (word x.n) (2 ^ 31) || (nat_le (2 ^ 64 - 2 ^ 31) (word x.n) && nat_lt (word x.n) (2 ^ 64))) h (signed_back (2 ^ 31) x.n (omega arith) (omega arith) (range_within t.I32 x.n h.ranged))
number_back t.I64 x h = signed_same t.I64 x (nat_lt (word x.n) (2 ^ 63) || (nat_le (2 ^ 64 - 2 ^ 63) (word x.n) && nat_lt (word x.n) (2 ^ 64))) h (signed_back (2 ^ 63) x.n (omega arith) (omega arith) (range_within t.I64 x.n h.ranged))
number_back t.U8 x h = natural_same t.U8 x (nat_lt (word x.n) (2 ^ 8)) h (natural_back 8 x.n (omega arith) (range_within t.U8 x.n h.ranged))
number_back t.U16 x h = natural_same t.U16 x (nat_lt (word x.n) (2 ^ 16)) h (natural_back 16 x.n (omega arith) (range_within t.U16 x.n h.ranged))
number_back t.U32 x h = natural_same t.U32 x (nat_lt (word x.n) (2 ^ 32)) h (natural_back 32 x.n (omega arith) (range_within t.U32 x.n h.ranged))
number_back t.U64 x h = natural_same t.U64 x (nat_lt (word x.n) (2 ^ 64)) h (natural_back 64 x.n (omega arith) (range_within t.U64 x.n h.ranged))

-- ---- values of a type have its shape

-- a type's shape is that of its values
abbrev Fills : List CDef → (CTy → Option Shape) → Type 0
Fills ds f = (r : CTy) (s : Shape) (v : Value) → f r ≡ Some s → IsValueOf ds r v → HasShape s v

scalar_shape : (ds : List CDef) (c : CScalar) (s : Shape) (v : Value) → Some (scalar c) ≡ Some s → IsValueOf ds (ty.Scalar c) v → HasShape s v
scalar_shape ds c s v e h = subst (λ (z : Shape). HasShape z v) same (at_shape v h)
  where
    same : scalar c ≡ s
    same = cc e

    at_shape : (w : Value) → IsValueOf ds (ty.Scalar c) w → HasShape (scalar c) w
    at_shape (number x) g = g
    at_shape (struct_of vs) g = absurd g
    at_shape (array_of vs) g = absurd g

fields_shape : (ds : List CDef) (f : CTy → Option Shape) → Fills ds f → (fields : List CVar) (ss : Shapes) (vs : Values) → shapes_of_fields f fields ≡ Some ss → AreValuesOf ds (map (λ v. v.ty) fields) vs → HaveShapes ss vs
fields_shape ds f m [] no_shape no_value e h = tt
fields_shape ds f m [] no_shape (and_value v vs) e h = absurd h
fields_shape ds f m [] (and_shape s ss) vs e h = absurd (cc e)
fields_shape ds f m (x ∷ xs) ss no_value e h = absurd h
fields_shape ds f m (x ∷ xs) ss (and_value v vs) e h =
    let p = fields_split (f x.ty) (shapes_of_fields f xs) ss e in
    subst (λ (z : Shapes). HaveShapes z (and_value v vs)) p.both (m x.ty p.one v p.one_is h.0, fields_shape ds f m xs p.others vs p.others_are h.1)

members_shape : (ds : List CDef) (f : CTy → Option Shape) → Fills ds f → (x : List ℕ) (fields : List CVar) (o : Option Shapes) (s : Shape) (v : Value) → fields_of ds x ≡ Some fields → shapes_of_fields f fields ≡ o
    → option_map members o ≡ Some s → IsValueOf ds (ty.Struct x) v → HasShape s v
members_shape ds f m x fields None s v g e h p = absurd (cc h)
members_shape ds f m x fields (Some ss) s v g e h p =
    let same : members ss ≡ s = cc h in
    subst (λ (z : Shape). HasShape z v) same (at_members v p)
  where
    at_members : (w : Value) → IsValueOf ds (ty.Struct x) w → HasShape (members ss) w
    at_members (number n) q = absurd q
    at_members (struct_of vs) q =
        let all : Some q.0 ≡ Some fields = sym q.1 ∙ g in
        let one : q.0 ≡ fields = cc all in
        fields_shape ds f m fields ss vs e (subst (λ (fs : List CVar). AreValuesOf ds (map (λ (z : CVar). z.ty) fs) vs) one q.2)
    at_members (array_of vs) q = absurd q

struct_shape : (ds : List CDef) (f : CTy → Option Shape) → Fills ds f → (x : List ℕ) (o : Option (List CVar)) (s : Shape) (v : Value) → fields_of ds x ≡ o
    → option_and_then (λ fields. option_map members (shapes_of_fields f fields)) o ≡ Some s → IsValueOf ds (ty.Struct x) v → HasShape s v
struct_shape ds f m x None s v g e h = absurd (cc e)
struct_shape ds f m x (Some fields) s v g e h = members_shape ds f m x fields (shapes_of_fields f fields) s v g refl e h

element_shape : (ds : List CDef) (f : CTy → Option Shape) → Fills ds f → (r : CTy) (s : Shape) (v : Value) → shape_of_element f ds r ≡ Some s → IsValueOf ds r v → HasShape s v
element_shape ds f m (ty.Scalar c) s v e h = scalar_shape ds c s v e h
element_shape ds f m (ty.Struct x) s v e h = struct_shape ds f m x (fields_of ds x) s v refl e h
element_shape ds f m (ty.Array x n) s v e h = absurd (cc e)

times_shape : (ds : List CDef) (r : CTy) (P : Value → Type 0) (n : ℕ) (vs : Values) → ((v : Value) → IsValueOf ds r v → P v) → AreValuesOf ds (replicate n r) vs → Times P n vs
times_shape ds r P zero no_value m h = tt
times_shape ds r P zero (and_value v vs) m h = absurd h
times_shape ds r P (suc n) no_value m h = absurd h
times_shape ds r P (suc n) (and_value v vs) m h = (m v h.0, times_shape ds r P n vs m h.1)

array_shape : (ds : List CDef) (f : CTy → Option Shape) → Fills ds f → (x : List ℕ) (n : ℕ) (o : Option Shape) (s : Shape) (v : Value) → shape_of_element f ds (elem_type x) ≡ o
    → option_map (elements n) o ≡ Some s → IsValueOf ds (ty.Array x n) v → HasShape s v
array_shape ds f m x n None s v g e h = absurd (cc e)
array_shape ds f m x n (Some r) s v g e h =
    let same : elements n r ≡ s = cc e in
    subst (λ (z : Shape). HasShape z v) same (at_elements v h)
  where
    at_elements : (w : Value) → IsValueOf ds (ty.Array x n) w → HasShape (elements n r) w
    at_elements (number k) q = absurd q
    at_elements (struct_of vs) q = absurd q
    at_elements (array_of vs) q = times_shape ds (elem_type x) (HasShape r) n vs (λ u p. element_shape ds f m (elem_type x) r u g p) q

over_shape : (ds : List CDef) (f : CTy → Option Shape) → Fills ds f → Fills ds (shape_over f ds)
over_shape ds f m (ty.Scalar c) s v e h = scalar_shape ds c s v e h
over_shape ds f m (ty.Struct x) s v e h = struct_shape ds f m x (fields_of ds x) s v refl e h
over_shape ds f m (ty.Array x n) s v e h = array_shape ds f m x n (shape_of_element f ds (elem_type x)) s v refl e h

within_shape : (n : ℕ) (ds : List CDef) → Fills ds (shape_within n ds)
within_shape zero ds r s v e h = absurd (cc (shape_within-zero ds r, e))
within_shape (suc n) ds r s v e h = over_shape ds (shape_within n ds) (within_shape n ds) r s v (sym (shape_within-suc n ds r) ∙ e) h

-- ---- words fill the shape again

scalar_filled : (s : CScalar) (w : ℕ) (ws : List ℕ) (x : Num) → is_word s w ≡ true → number_of_word s w ≡ x → filled (scalar s) (w ∷ ws) ≡ Some (number x, ws)
scalar_filled s w ws x e h = rw (e, h) refl

then_is : {A B : Type 0} (o : Option A) (f : A → Option B) (a : A) (b : Option B) → o ≡ Some a → f a ≡ b → option_and_then f o ≡ b
then_is o f a b e h = rw e h

map_is : {A B : Type 0} (o : Option A) (f : A → B) (a : A) → o ≡ Some a → option_map f o ≡ Some (f a)
map_is o f a e = rw e refl

values_again : (vs : Values) → values (value_list vs) ≡ vs
values_again no_value = refl
values_again (and_value v vs) = ap (λ (z : Values). and_value v z) (values_again vs)

repeated_back : (P : Value → Type 0) (f : List ℕ → Option (Value × List ℕ)) → ((v : Value) (ws : List ℕ) → P v → f (words_of v ++ ws) ≡ Some (v, ws)) → (n : ℕ) (vs : Values) (ws : List ℕ) → Times P n vs
    → repeated n f (words_of_all vs ++ ws) ≡ Some (value_list vs, ws)
repeated_back P f m zero no_value ws h = refl
repeated_back P f m zero (and_value v vs) ws h = absurd h
repeated_back P f m (suc n) no_value ws h = absurd h
repeated_back P f m (suc n) (and_value v vs) ws h =
    let rest : List ℕ = words_of_all vs ++ ws in
    let regroup : (words_of v ++ words_of_all vs) ++ ws ≡ words_of v ++ rest = append_assoc (words_of v) (words_of_all vs) ws in
    ap (repeated (suc n) f) regroup
    ∙ then_is (f (words_of v ++ rest)) (λ (a : Value × List ℕ). option_map (λ (b : List Value × List ℕ). (a.0 ∷ b.0, b.1)) (repeated n f a.1)) (v, rest) (Some (v ∷ value_list vs, ws)) (m v rest h.0)
    (map_is (repeated n f rest) (λ (b : List Value × List ℕ). (v ∷ b.0, b.1)) (value_list vs, ws) (repeated_back P f m n vs ws h.1))

mutual
  pub filled_back : (s : Shape) (v : Value) (ws : List ℕ) → HasShape s v → filled s (words_of v ++ ws) ≡ Some (v, ws)
  filled_back (scalar s) (number x) ws h = let b = number_back s x h in scalar_filled s (word_of_number x) ws x b.0 b.1
  filled_back (scalar s) (struct_of vs) ws h = absurd h
  filled_back (scalar s) (array_of vs) ws h = absurd h
  filled_back (members ss) (number x) ws h = absurd h
  filled_back (members ss) (struct_of vs) ws h = map_is (filled_all ss (words_of_all vs ++ ws)) (λ (a : Values × List ℕ). (struct_of a.0, a.1)) (vs, ws) (filled_all_back ss vs ws h)
  filled_back (members ss) (array_of vs) ws h = absurd h
  filled_back (elements n s) (number x) ws h = absurd h
  filled_back (elements n s) (struct_of vs) ws h = absurd h
  filled_back (elements n s) (array_of vs) ws h =
      map_is (repeated n (filled s) (words_of_all vs ++ ws)) (λ (a : List Value × List ℕ). (array_of (values a.0), a.1)) (value_list vs, ws) (repeated_back (HasShape s) (filled s) (filled_back s) n vs ws h)
      ∙ ap (λ (z : Values). Some (array_of z, ws)) (values_again vs)

  filled_all_back : (ss : Shapes) (vs : Values) (ws : List ℕ) → HaveShapes ss vs → filled_all ss (words_of_all vs ++ ws) ≡ Some (vs, ws)
  filled_all_back no_shape no_value ws h = refl
  filled_all_back no_shape (and_value v vs) ws h = absurd h
  filled_all_back (and_shape s ss) no_value ws h = absurd h
  filled_all_back (and_shape s ss) (and_value v vs) ws h =
      let rest : List ℕ = words_of_all vs ++ ws in
      let regroup : (words_of v ++ words_of_all vs) ++ ws ≡ words_of v ++ rest = append_assoc (words_of v) (words_of_all vs) ws in
      ap (filled_all (and_shape s ss)) regroup
      ∙ then_is (filled s (words_of v ++ rest)) (λ (a : Value × List ℕ). option_map (λ (b : Values × List ℕ). (and_value a.0 b.0, b.1)) (filled_all ss a.1)) (v, rest) (Some (and_value v vs, ws)) (filled_back s v rest h.0)
      (map_is (filled_all ss rest) (λ (b : Values × List ℕ). (and_value v b.0, b.1)) (vs, ws) (filled_all_back ss vs ws h.1))

pub words_back : (ds : List CDef) (r : CTy) (s : Shape) (v : Value) (ws : List ℕ) → shape_of ds r ≡ Some s → IsValueOf ds r v → filled s (words_of v ++ ws) ≡ Some (v, ws)
words_back ds r s v ws e h = filled_back s v ws (within_shape (length ds + 1) ds r s v e h)

-- what words fill is a value of the type
filled_shape : (s : Shape) (ws rest : List ℕ) (v : Value) (o : Option (Value × List ℕ)) → IfSome o (λ a. HasShape s a.0) → o ≡ Some (v, rest) → HasShape s v
filled_shape s ws rest v None h e = absurd (cc e)
filled_shape s ws rest v (Some a) h e =
    let same : a ≡ (v, rest) = cc e in
    subst (λ (z : Value × List ℕ). HasShape s z.0) same h

pub filled_typed : (ds : List CDef) (r : CTy) (s : Shape) (ws rest : List ℕ) (v : Value) → shape_of ds r ≡ Some s → filled s ws ≡ Some (v, rest) → IsValueOf ds r v
filled_typed ds r s ws rest v e h = shaped_value ds r s v e (filled_shape s ws rest v (filled s ws) (filled_has s ws) h)
