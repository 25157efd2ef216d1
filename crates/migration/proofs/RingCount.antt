-- Each ring of a well formed program takes a byte, so there are not more than its storage.
use Rattle.std.proofs.Common.{◌≡◌, ℕ, zero, suc, ◌+◌, ◌*◌, ◌≤◌, ◌<◌, Bool, true, false, ◌&&◌, ◌||◌, List, [], ◌∷◌, ◌++◌, length, append_assoc, Option, Some, None, refl, sym, ap, ◌∙◌, subst, arith}
use Rattle.std.specs.Prelude.{nat_eq, nat_le, IsSome, if◌then◌else◌}
use Rattle.std.specs.List.{find, list_all, list_any, sum_by}
use Rattle.std.specs.Option.{option_map, option_and_then, option_map_or}
use Rattle.std.proofs.Math.Nat.{mul-pos}
use Rattle.std.proofs.lemmas.Bool.Decides.{nat_tests}
use Rattle.std.proofs.lemmas.List.Elements.{filter_map-append}
use Rattle.std.proofs.lemmas.List.Folds.{list_any-append}
use Rattle.std.proofs.lemmas.List.Sums.{sum_by-cons}
use Rattle.sm_io.proofs.Truths.{both_pass, left_passes, right_passes, all_weaker}
use Rattle.c99_tree.specs.declared.types.CScalar.{CScalar}
use Rattle.c99_tree.specs.declared.types.CScalar.TheVariants as c
use Rattle.c99_tree.specs.declared.types.CTy.{CTy}
use Rattle.c99_tree.specs.declared.types.CTy.TheVariants as ty
use Rattle.c99_tree.specs.declared.types.CVar.{CVar}
use Rattle.c99_tree.specs.declared.types.CDef.{CDef}
use Rattle.c99_tree.specs.declared.types.CDef.TheVariants as def
use Rattle.c99_tree.specs.declared.unit.CRing.{CRing}
use Rattle.c99_tree.specs.declared.unit.Unit.{Unit as CUnit}
use Rattle.c99_tree.specs.Words.{is_same, elem_type, word_of, scalars}
use Rattle.c99_tree.specs.Lookup.{named_struct, named_array, structs_in, arrays_in, fields_of, is_array, is_defined}
use Rattle.c99_tree.specs.Values.{Shape, Shapes, members, and_shape, shape_within, shapes_of_fields}
use Rattle.c99_tree.specs.Storage.{scalar_size, size_or_none, sizes_or_none, size_of, ring_storage, copy_storage}
use Rattle.c99_tree.specs.WellFormed.{is_built_from, each_after, types_are_built_in_order, has_few_fields, has_array_length, IsWellFormed}
use Rattle.c99_tree.proofs.LookedUp.{found_passes, same_number}
use Rattle.c99_tree.proofs.Optional.{both-some}
use Rattle.c99_tree.proofs.Shaped.{shape_of-defined}
use Rattle.c99_tree.proofs.Shapes.{shape_within-zero, shaped-element, shaped-fields}
use Rattle.c99_ast.proofs.Sizes.{size-Array, size-Struct}
use Rattle.migration.proofs.Totals.{four, totals}

-- ---- what each definition is made of stands among all

defined_on : (before rest : List CDef) (t : CTy) → is_defined before t ≡ true → is_defined (before ++ rest) t ≡ true
defined_on before rest (ty.Scalar t) h = refl
defined_on before rest (ty.Struct x) h =
    ap (list_any (λ (s : List ℕ × List CVar). is_same x s.0)) (filter_map-append named_struct before rest)
    ∙ list_any-append (λ (s : List ℕ × List CVar). is_same x s.0) (structs_in before) (structs_in rest)
    ∙ either (list_any (λ (s : List ℕ × List CVar). is_same x s.0) (structs_in before)) (list_any (λ (s : List ℕ × List CVar). is_same x s.0)
    (structs_in rest)) h
  where
    either : (a b : Bool) → a ≡ true → (a || b) ≡ true
    either true b h = refl
    either false b h = absurd (cc h)
defined_on before rest (ty.Array x n) h =
    ap (list_any (is_array x n)) (filter_map-append named_array before rest)
    ∙ list_any-append (is_array x n) (arrays_in before) (arrays_in rest)
    ∙ either (list_any (is_array x n) (arrays_in before)) (list_any (is_array x n) (arrays_in rest)) h
  where
    either : (a b : Bool) → a ≡ true → (a || b) ≡ true
    either true b h = refl
    either false b h = absurd (cc h)

built_on : (before rest : List CDef) (d : CDef) → is_built_from before d ≡ true → is_built_from (before ++ rest) d ≡ true
built_on before rest (def.Struct x fields) h = all_weaker (λ (v : CVar). is_defined before v.ty) (λ (v : CVar). is_defined (before ++ rest) v.ty)
    (λ v g. defined_on before rest v.ty g) fields h
built_on before rest (def.Array x n) h = defined_on before rest (elem_type x) h

each_built : (ds before rest : List CDef) → ds ≡ before ++ rest → each_after is_built_from before rest ≡ true → list_all (is_built_from ds) rest ≡ true
each_built ds before [] e h = refl
each_built ds before (d ∷ rest) e h =
    let here = left_passes (is_built_from before d) (each_after is_built_from (before ++ d ∷ []) rest) h in
    let later = right_passes (is_built_from before d) (each_after is_built_from (before ++ d ∷ []) rest) h in
    both_pass (is_built_from ds d) (list_all (is_built_from ds) rest)
    (subst (λ (xs : List CDef). is_built_from xs d ≡ true) (sym e) (built_on before (d ∷ rest) d here))
    (each_built ds (before ++ d ∷ []) rest (e ∙ simp append_assoc) later)

-- ---- what is found

-- a struct has a member, and each member's type is defined
abbrev is_full_struct : List CDef → (List ℕ × List CVar) → Bool
is_full_struct ds s = nat_le 1 (length s.1) && list_all (λ v. is_defined ds v.ty) s.1

structs_full : (ds rest : List CDef) → list_all has_few_fields rest ≡ true → list_all (is_built_from ds) rest ≡ true → list_all (is_full_struct ds)
    (structs_in rest) ≡ true
structs_full ds [] h g = refl
structs_full ds (def.Struct x fields ∷ rest) h g =
    let few = left_passes (nat_le 1 (length fields) && nat_le (length fields) 64) (list_all has_few_fields rest) h in
    both_pass (nat_le 1 (length fields) && list_all (λ (v : CVar). is_defined ds v.ty) fields) (list_all (is_full_struct ds) (structs_in rest))
    (both_pass (nat_le 1 (length fields)) (list_all (λ (v : CVar). is_defined ds v.ty) fields) (left_passes (nat_le 1 (length fields)) (nat_le (length fields)
    64) few)
    (left_passes (list_all (λ (v : CVar). is_defined ds v.ty) fields) (list_all (is_built_from ds) rest) g))
    (structs_full ds rest (right_passes (nat_le 1 (length fields) && nat_le (length fields) 64) (list_all has_few_fields rest) h)
    (right_passes (list_all (λ (v : CVar). is_defined ds v.ty) fields) (list_all (is_built_from ds) rest) g))
structs_full ds (def.Array x n ∷ rest) h g = structs_full ds rest h (right_passes (is_defined ds (elem_type x)) (list_all (is_built_from ds) rest) g)

array_by : (x : List ℕ) (n : ℕ) (a : List ℕ × ℕ) (rest : List (List ℕ × ℕ)) (b : Bool) → is_array x n a ≡ b
    → (list_any (is_array x n) rest ≡ true → nat_le 1 n ≡ true) → (b || list_any (is_array x n) rest) ≡ true → has_array_length a ≡ true → nat_le 1 n ≡ true
array_by x n a rest true e ih h g =
    let count = same_number n a.1 (right_passes (is_same x a.0) (nat_eq n a.1) e) in
    ap (λ (k : ℕ). nat_le 1 k) count ∙ left_passes (nat_le 1 a.1) (nat_le a.1 1024) g
array_by x n a rest false e ih h g = ih h

-- an array type that is defined has an element
array_long : (x : List ℕ) (n : ℕ) (all : List (List ℕ × ℕ)) → list_any (is_array x n) all ≡ true → list_all has_array_length all ≡ true → nat_le 1 n ≡ true
array_long x n [] h g = absurd (cc h)
array_long x n (a ∷ all) h g =
    array_by x n a all (is_array x n a) refl (λ f. array_long x n all f (right_passes (has_array_length a) (list_all has_array_length all) g)) h
    (left_passes (has_array_length a) (list_all has_array_length all) g)

-- what the rules say of the definitions
record Full (ds : List CDef) : Type 0 where
  structs : list_all (is_full_struct ds) (structs_in ds) ≡ true
  arrays : list_all has_array_length (arrays_in ds) ≡ true

record FoundStruct (ds : List CDef) (x : List ℕ) : Type 0 where
  fields : List CVar
  found : fields_of ds x ≡ Some fields
  long : nat_le 1 (length fields) ≡ true
  each : list_all (λ v. is_defined ds v.ty) fields ≡ true

no_struct : (n : ℕ) (ds : List CDef) (x : List ℕ) → fields_of ds x ≡ None → shape_within (suc n) ds (ty.Struct x) ≡ None
unfolding shape_within
no_struct n ds x e = ap (λ (o : Option (List CVar)). option_and_then (λ (fs : List CVar). option_map members (shapes_of_fields (shape_within n ds) fs)) o) e

struct_by : (n : ℕ) (ds : List CDef) (x : List ℕ) (o : Option (List ℕ × List CVar)) → find (λ (s : List ℕ × List CVar). is_same x s.0) (structs_in ds) ≡ o
    → Full ds → IsSome (shape_within (suc n) ds (ty.Struct x)) → FoundStruct ds x
struct_by n ds x None e full h = absurd (cc (no_struct n ds x (ap (option_map (λ (s : List ℕ × List CVar). s.1)) e), h))
struct_by n ds x (Some s) e full h =
    let both = found_passes (λ (z : List ℕ × List CVar). is_same x z.0) (is_full_struct ds) (structs_in ds) s full.structs e in
    record {
      fields = s.1;
      found = ap (option_map (λ (z : List ℕ × List CVar). z.1)) e;
      long = left_passes (nat_le 1 (length s.1)) (list_all (λ (v : CVar). is_defined ds v.ty) s.1) both;
      each = right_passes (nat_le 1 (length s.1)) (list_all (λ (v : CVar). is_defined ds v.ty) s.1) both;
    }

-- ---- no type is without a byte

scalar_positive : (t : CScalar) → 1 ≤ scalar_size t
scalar_positive c.Bool = omega arith
scalar_positive c.I8 = omega arith
scalar_positive c.I16 = omega arith
scalar_positive c.I32 = omega arith
scalar_positive c.I64 = omega arith
scalar_positive c.U8 = omega arith
scalar_positive c.U16 = omega arith
scalar_positive c.U32 = omega arith
scalar_positive c.U64 = omega arith

scalar_bytes : (n : ℕ) (ds : List CDef) (t : CScalar) → size_or_none (shape_within (suc n) ds (ty.Scalar t)) ≡ scalar_size t
unfolding shape_within
scalar_bytes n ds t = refl

of_scalar : (n : ℕ) (ds : List CDef) (t : CScalar) → 1 ≤ size_or_none (shape_within (suc n) ds (ty.Scalar t))
of_scalar n ds t = subst (λ (k : ℕ). 1 ≤ k) (sym (scalar_bytes n ds t)) (scalar_positive t)

add_size : (o : Option Shape) (p : Option Shapes) → IsSome o → IsSome p → 1 ≤ size_or_none o
    → 1 ≤ sizes_or_none (option_and_then (λ a. option_map (and_shape a) p) o)
add_size None p h g k = absurd (cc h)
add_size (Some a) None h g k = absurd (cc g)
add_size (Some a) (Some b) h g k = omega (arith, k)

-- each type that is defined takes a byte, where it has a shape
abbrev Takes : List CDef → (CTy → Option Shape) → Type 0
Takes ds f = (t : CTy) → is_defined ds t ≡ true → IsSome (f t) → 1 ≤ size_or_none (f t)

fields_take : (ds : List CDef) (f : CTy → Option Shape) (fields : List CVar) → Takes ds f → nat_le 1 (length fields) ≡ true
    → list_all (λ v. is_defined ds v.ty) fields ≡ true
    → IsSome (shapes_of_fields f fields) → 1 ≤ sizes_or_none (shapes_of_fields f fields)
fields_take ds f [] t h g k = absurd (cc h)
fields_take ds f (x ∷ xs) t h g k =
    let p = both-some and_shape (f x.ty) (shapes_of_fields f xs) k in
    add_size (f x.ty) (shapes_of_fields f xs) p.0 p.1 (t x.ty (left_passes (is_defined ds x.ty) (list_all (λ (v : CVar). is_defined ds v.ty) xs) g) p.0)

next_depth : (n : ℕ) → suc n ≡ n + 1
next_depth n = omega arith

of_struct : (n : ℕ) (ds : List CDef) (x : List ℕ) → Full ds → Takes ds (shape_within n ds) → IsSome (shape_within (suc n) ds (ty.Struct x))
    → 1 ≤ size_or_none (shape_within (suc n) ds (ty.Struct x))
of_struct n ds x full t h =
    let f = struct_by n ds x (find (λ (s : List ℕ × List CVar). is_same x s.0) (structs_in ds)) refl full h in
    let some = shaped-fields (suc n) n ds x f.fields (next_depth n) f.found h in
    subst (λ (k : ℕ). 1 ≤ k) (sym (size-Struct (suc n) n ds x f.fields (next_depth n) f.found)) (fields_take ds (shape_within n ds) f.fields t f.long f.each
    some)

of_element : (n : ℕ) (ds : List CDef) (x : List ℕ) (o : Option CScalar) → Full ds → Takes ds (shape_within n ds)
    → IsSome (shape_within (suc n) ds (option_map_or ty.Scalar o (ty.Struct x))) → 1 ≤ size_or_none (shape_within (suc n) ds (option_map_or ty.Scalar o
    (ty.Struct x)))
of_element n ds x None full t h = of_struct n ds x full t h
of_element n ds x (Some s) full t h = of_scalar n ds s

times : (k s : ℕ) → nat_le 1 k ≡ true → 1 ≤ s → 1 ≤ k * s
times k s h g =
    let p : 0 < k = grind (arith, nat_tests, h) in
    let q : 0 < s = omega (arith, g) in
    let r = mul-pos p q in omega (arith, r)

takes : (n : ℕ) (ds : List CDef) → Full ds → Takes ds (shape_within n ds)
takes zero ds full t d h = absurd (cc (shape_within-zero ds t, h))
takes (suc n) ds full (ty.Scalar s) d h = of_scalar n ds s
takes (suc n) ds full (ty.Struct x) d h = of_struct n ds x full (λ t e i. takes n ds full t e i) h
takes (suc n) ds full (ty.Array x k) d h =
    subst (λ (m : ℕ). 1 ≤ m) (sym (size-Array (suc n) ds x k))
    (times k (size_or_none (shape_within (suc n) ds (elem_type x))) (array_long x k (arrays_in ds) d full.arrays)
    (of_element n ds x (find (λ s. is_same (word_of s) x) scalars) full (λ t e i. takes n ds full t e i) (shaped-element (suc n) ds x k h)))

-- ---- rings

ring_by : (b : Bool) (n s : ℕ) → 1 ≤ s → 1 ≤ (if b then n * s + 4 else s)
ring_by true n s h = omega arith
ring_by false n s h = h

one_and : (a b c d : ℕ) → d ≡ a + b → 1 ≤ a → c ≤ b → suc c ≤ d
one_and a b c d e h g = omega (arith, e, h, g)

each_takes : (ds : List CDef) (rs : List CRing) → Full ds → types_are_built_in_order ds ≡ true → list_all (λ r. is_defined ds r.ty) rs ≡ true
    → length rs ≤ sum_by (ring_storage ds) rs
each_takes ds [] full o h = omega arith
each_takes ds (r ∷ rs) full o h =
    let here = left_passes (is_defined ds r.ty) (list_all (λ (z : CRing). is_defined ds z.ty) rs) h in
    let rest = right_passes (is_defined ds r.ty) (list_all (λ (z : CRing). is_defined ds z.ty) rs) h in
    one_and (ring_storage ds r) (sum_by (ring_storage ds) rs) (length rs) (sum_by (ring_storage ds) (r ∷ rs)) (sum_by-cons (ring_storage ds) r rs)
    (ring_by r.indexed r.len (size_of ds r.ty) (takes (length ds + 1) ds full r.ty here (shape_of-defined ds o r.ty here)))
    (each_takes ds rs full o rest)

within : (n a b k : ℕ) → n ≤ a → a + b ≤ k → n ≤ k
within n a b k h g = omega (arith, h, g)

pub ring_count : (u : CUnit) → IsWellFormed u → length u.rings ≤ 2147483647
ring_count u w =
    let p = four (types_are_built_in_order u.types) (list_all (λ x. is_defined u.types x.ty) u.externs) (list_all (λ h. list_all (is_defined u.types)
    h.params) u.handlers) (list_all (λ r. is_defined u.types r.ty) u.rings) w.types_first in
    let built = each_built u.types [] u.types refl p.0 in
    let arrays = left_passes (list_all has_array_length (arrays_in u.types)) (list_all (λ r. nat_le 1 r.len && nat_le r.len 65536) u.rings) w.lengths in
    let full : Full u.types = record { structs = structs_full u.types u.types w.fields built; arrays = arrays } in
    within (length u.rings) (sum_by (ring_storage u.types) u.rings) (sum_by (copy_storage u.types) u.externs) 2147483647 (each_takes u.types u.rings full p.0
    p.3) (totals u w).bytes
