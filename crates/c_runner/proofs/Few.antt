-- A well formed unit has no more columns than its externs' copies have bytes.
use Rattle.std.proofs.Common.{◌≡◌, ◌⊎◌, ℕ, zero, suc, ◌+◌, ◌*◌, ◌<◌, ◌≤◌, Bool, true, false, ◌&&◌, cond, List, [], ◌∷◌, ◌++◌, length, map, Option}
use Rattle.std.proofs.Common.{Some, None, unwrap_or, refl, arith, ap, sym, ◌∙◌, subst, length-append, inl, inr, append_assoc}
use Rattle.std.specs.Prelude.{slice_get, IsTrue, is_some, nat_eq, nat_le, sum_by}
use Rattle.std.specs.Option.{option_map}
use Rattle.std.specs.List.{flat_map, find, list_all, position_or_len}
use Rattle.std.proofs.lemmas.List.{length-map}
use Rattle.std.proofs.lemmas.List.Folds.{find_at}
use Rattle.std.proofs.lemmas.List.Sums.{sum_by-cons}
use Rattle.std.proofs.lemmas.Option.{slice_get_past}
use Rattle.std.proofs.lemmas.Bool.{and_parts}
use Rattle.std.proofs.lemmas.Bool.Decides.{nat_tests}
use Rattle.extern_rows.specs.declared.header.Leaf.{Leaf}
use Rattle.extern_rows.specs.Leaves.{index_text, member_text, led, under, of_elements, of_members, of_entry, tails_at, all_tails, leaf_columns}
use Rattle.c99_tree.specs.declared.types.CScalar.{CScalar}
use Rattle.c99_tree.specs.declared.types.CScalar.TheVariants as t
use Rattle.c99_tree.specs.declared.types.CTy.{CTy}
use Rattle.c99_tree.specs.declared.types.CTy.TheVariants as ty
use Rattle.c99_tree.specs.declared.types.CVar.{CVar}
use Rattle.c99_tree.specs.declared.types.CDef.{CDef}
use Rattle.c99_tree.specs.declared.types.CDef.TheVariants as def
use Rattle.c99_tree.specs.declared.unit.Unit.{Unit as CUnit}
use Rattle.c99_tree.specs.Words.{is_same, elem_type}
use Rattle.c99_tree.specs.Lookup.{fields_of}
use Rattle.c99_tree.specs.Values.{Shape, Shapes, scalar, members, elements, shape_within, shape_of, shapes_of_fields}
use Rattle.c99_tree.specs.Storage.{scalar_size, size_of_shape, size_of_shapes, size_or_none, copy_storage, ring_storage, storage_of}
use Rattle.c99_tree.specs.WellFormed.{IsWellFormed, totals_are_right}
use Rattle.c99_tree.specs.Weight.{unit_weight_of}
use Rattle.c99_tree.proofs.Shapes.{shape_within-suc, shape_within-zero, shape-Array, shape-Struct}
use Rattle.c99_tree.proofs.Shaped.{same-eq, externs_shaped}
use Rattle.c99_tree.proofs.TypedShapes.{fields_split}
use Rattle.c_runner.specs.Read.{defines_struct, defines_array, read_type, read_field, read_entry, read_types}
use Rattle.c_runner.specs.Executed.{unit_columns}

-- ---- how many leaves there are

length-under : (front : List ℕ) (xs : List Leaf) → length (under front xs) ≡ length xs
length-under front xs = length-map xs (led front)

length-elements : (k n : ℕ) (xs : List Leaf) → length (of_elements k n xs) ≡ n * length xs
length-elements k zero xs = omega arith
length-elements k (suc n) xs =
    omega (arith, length-append (under (index_text k) xs) (of_elements (k + 1) n xs), length-under (index_text k) xs, length-elements (k + 1) n xs)

-- ---- what is found by name

-- the first struct of a name is what the name stands for
record Struct (ds : List CDef) (x : List ℕ) (d : CDef) : Type 0 where
  name : List ℕ
  fields : List CVar
  is : d ≡ def.Struct name fields
  found : fields_of ds x ≡ Some fields

struct_first : (ds : List CDef) (x y : List ℕ) (fields : List CVar) (d : CDef) (b : Bool) → is_same x y ≡ b
    → (find (defines_struct x) ds ≡ Some d → Struct ds x d)
    → cond b (Some (def.Struct y fields)) (find (defines_struct x) ds) ≡ Some d → Struct (def.Struct y fields ∷ ds) x d
struct_first ds x y fields d true e rest h = record { name = y; fields = fields; is = cc h; found = rw e refl }
struct_first ds x y fields d false e rest h =
    let s = rest h in
    record { name = s.name; fields = s.fields; is = s.is; found = rw e s.found }

struct_found : (ds : List CDef) (x : List ℕ) (d : CDef) → find (defines_struct x) ds ≡ Some d → Struct ds x d
struct_found [] x d h = absurd (cc h)
struct_found (def.Struct y fields ∷ ds) x d h = struct_first ds x y fields d (is_same x y) refl (struct_found ds x d) h
struct_found (def.Array y n ∷ ds) x d h = let s = struct_found ds x d h in record { name = s.name; fields = s.fields; is = s.is; found = s.found }

array_first : (ds : List CDef) (x y : List ℕ) (n m : ℕ) (d : CDef) (b : Bool) → (is_same x y && nat_eq n m) ≡ b
    → (find (defines_array x n) ds ≡ Some d → d ≡ def.Array x n)
    → cond b (Some (def.Array y m)) (find (defines_array x n) ds) ≡ Some d → d ≡ def.Array x n
array_first ds x y n m d true e rest h =
    let p = and_parts (is_same x y) (nat_eq n m) e in
    let same : x ≡ y = same-eq x y p.0 in
    let count : n ≡ m = grind (arith, nat_tests, p.1) in
    let is : def.Array y m ≡ d = cc h in
    sym is ∙ ap (λ (z : List ℕ). def.Array z m) (sym same) ∙ ap (def.Array x) (sym count)
array_first ds x y n m d false e rest h = rest h

array_found : (ds : List CDef) (x : List ℕ) (n : ℕ) (d : CDef) → find (defines_array x n) ds ≡ Some d → d ≡ def.Array x n
array_found [] x n d h = absurd (cc h)
array_found (def.Struct y fields ∷ ds) x n d h = array_found ds x n d h
array_found (def.Array y m ∷ ds) x n d h = array_first ds x y n m d (is_same x y && nat_eq n m) refl (array_found ds x n d) h

-- ---- a type has no more leaves than bytes, by a table of the first definitions

record IsFew (ds : List CDef) (table : List (List Leaf)) : Type 0 where
  few : (n : ℕ) (r : CTy) (s : Shape) → shape_within n ds r ≡ Some s → length (tails_at table (read_type ds r)) ≤ size_of_shape s

scalar_few : (c : CScalar) → 1 ≤ scalar_size c
scalar_few t.Bool = omega arith
scalar_few t.I8 = omega arith
scalar_few t.I16 = omega arith
scalar_few t.I32 = omega arith
scalar_few t.I64 = omega arith
scalar_few t.U8 = omega arith
scalar_few t.U16 = omega arith
scalar_few t.U32 = omega arith
scalar_few t.U64 = omega arith

scalar_is : (n : ℕ) (ds : List CDef) (c : CScalar) (s : Shape) → shape_within n ds (ty.Scalar c) ≡ Some s → scalar c ≡ s
scalar_is zero ds c s h = absurd (cc (shape_within-zero ds (ty.Scalar c), h))
scalar_is (suc n) ds c s h = let e : Some (scalar c) ≡ Some s = sym (shape_within-suc n ds (ty.Scalar c)) ∙ h in cc e

fields_few : (ds : List CDef) (table : List (List Leaf)) → IsFew ds table → (n : ℕ) (fields : List CVar) (ss : Shapes)
    → shapes_of_fields (shape_within n ds) fields ≡ Some ss
    → length (of_members table (map (read_field ds) fields)) ≤ size_of_shapes ss
fields_few ds table few n [] ss h = omega arith
fields_few ds table few n (x ∷ fields) ss h =
    let p = fields_split (shape_within n ds x.ty) (shapes_of_fields (shape_within n ds) fields) ss h in
    let here : length (tails_at table (read_type ds x.ty)) ≤ size_of_shape p.one = few.few n x.ty p.one p.one_is in
    let later : length (of_members table (map (read_field ds) fields)) ≤ size_of_shapes p.others = fields_few ds table few n fields p.others p.others_are in
    let both : size_of_shapes ss ≡ size_of_shape p.one + size_of_shapes p.others = ap size_of_shapes (sym p.both) in
    omega (
      arith,
      here,
      later,
      both,
      length-append (under (member_text x.name) (tails_at table (read_type ds x.ty))) (of_members table (map (read_field ds) fields)),
      length-under (member_text x.name) (tails_at table (read_type ds x.ty)),
    )

members_few : (ds : List CDef) (table : List (List Leaf)) → IsFew ds table → (n : ℕ) (fields : List CVar) (o : Option Shapes) (s : Shape)
    → shapes_of_fields (shape_within n ds) fields ≡ o → option_map members o ≡ Some s
    → length (of_members table (map (read_field ds) fields)) ≤ size_of_shape s
members_few ds table few n fields None s e h = absurd (cc h)
members_few ds table few n fields (Some ss) s e h =
    let same : members ss ≡ s = cc h in
    subst (λ (z : Shape). length (of_members table (map (read_field ds) fields)) ≤ size_of_shape z) same (fields_few ds table few n fields ss e)

struct_few : (ds : List CDef) (table : List (List Leaf)) → IsFew ds table → (n : ℕ) (x : List ℕ) (fields : List CVar) (s : Shape)
    → fields_of ds x ≡ Some fields → shape_within n ds (ty.Struct x) ≡ Some s
    → length (of_members table (map (read_field ds) fields)) ≤ size_of_shape s
struct_few ds table few zero x fields s found h = absurd (cc (shape_within-zero ds (ty.Struct x), h))
struct_few ds table few (suc n) x fields s found h =
    members_few ds table few n fields (shapes_of_fields (shape_within n ds) fields) s refl (sym (shape-Struct n ds x fields found) ∙ h)

times : (n a b : ℕ) → a ≤ b → n * a ≤ n * b
times zero a b h = omega arith
times (suc n) a b h = omega (arith, h, times n a b h)

elements_few : (ds : List CDef) (table : List (List Leaf)) → IsFew ds table → (n k : ℕ) (r : CTy) (o : Option Shape) (s : Shape)
    → shape_within n ds r ≡ o → option_map (elements k) o ≡ Some s
    → length (of_elements 0 k (tails_at table (read_type ds r))) ≤ size_of_shape s
elements_few ds table few n k r None s e h = absurd (cc h)
elements_few ds table few n k r (Some one) s e h =
    let same : elements k one ≡ s = cc h in
    let size : size_of_shape s ≡ k * size_of_shape one = ap size_of_shape (sym same) in
    let leaves : List Leaf = tails_at table (read_type ds r) in
    omega (arith, size, length-elements 0 k leaves, times k (length leaves) (size_of_shape one) (few.few n r one e))

array_few : (ds : List CDef) (table : List (List Leaf)) → IsFew ds table → (n : ℕ) (x : List ℕ) (k : ℕ) (s : Shape) → shape_within n ds (ty.Array x k) ≡ Some s
    → length (of_elements 0 k (tails_at table (read_type ds (elem_type x)))) ≤ size_of_shape s
array_few ds table few zero x k s h = absurd (cc (shape_within-zero ds (ty.Array x k), h))
array_few ds table few (suc n) x k s h =
    elements_few ds table few (suc n) k (elem_type x) (shape_within (suc n) ds (elem_type x)) s refl (sym (shape-Array n ds x k) ∙ h)

-- ---- a table with one definition more

get-front : {X : Type 0} (xs ys : List X) (i : ℕ) → i < length xs → slice_get (xs ++ ys) i ≡ slice_get xs i
get-front [] ys i h = absurd (omega arith)
get-front (x ∷ xs) ys zero h = refl
get-front (x ∷ xs) ys (suc i) h = get-front xs ys i (omega arith)

get-behind : {X : Type 0} (xs : List X) (x : X) (ys : List X) (i : ℕ) → i ≡ length xs → slice_get (xs ++ x ∷ ys) i ≡ Some x
get-behind [] x ys zero h = refl
get-behind [] x ys (suc i) h = absurd (omega arith)
get-behind (y ∷ xs) x ys zero h = absurd (omega arith)
get-behind (y ∷ xs) x ys (suc i) h = get-behind xs x ys i (omega arith)

compared : (i n : ℕ) → (i < n) ⊎ ((i ≡ n) ⊎ (n < i))
compared zero zero = inr (inl refl)
compared zero (suc n) = inl (omega arith)
compared (suc i) zero = inr (inr (omega arith))
compared (suc i) (suc n) = next (compared i n)
  where
    next : (i < n) ⊎ ((i ≡ n) ⊎ (n < i)) → (suc i < suc n) ⊎ ((suc i ≡ suc n) ⊎ (suc n < suc i))
    next (inl h) = inl (omega arith)
    next (inr (inl h)) = inr (inl (ap suc h))
    next (inr (inr h)) = inr (inr (omega arith))

-- the leaves at a place stay few as one entry is added, if the entry has few
slot_few : (table : List (List Leaf)) (one : List Leaf) (i m : ℕ) → length (unwrap_or (slice_get table i) []) ≤ m
    → (i ≡ length table → length one ≤ m) → length (unwrap_or (slice_get (table ++ one ∷ []) i) []) ≤ m
slot_few table one i m old new = at (compared i (length table))
  where
    at : (i < length table) ⊎ ((i ≡ length table) ⊎ (length table < i)) → length (unwrap_or (slice_get (table ++ one ∷ []) i) []) ≤ m
    at (inl h) = rw (get-front table (one ∷ []) i h) old
    at (inr (inl h)) = rw (get-behind table one [] i h) (new h)
    at (inr (inr h)) = rw (slice_get_past (table ++ one ∷ []) i (omega (arith, length-append table (one ∷ [])))) (omega arith)

few_more : (ds : List CDef) (table : List (List Leaf)) (d : CDef) → slice_get ds (length table) ≡ Some d → IsFew ds table
    → IsFew ds (table ++ of_entry table (read_entry ds d) ∷ [])
few_more ds table d there few = record { few = at }
  where
    at : (n : ℕ) (r : CTy) (s : Shape) → shape_within n ds r ≡ Some s
        → length (tails_at (table ++ of_entry table (read_entry ds d) ∷ []) (read_type ds r)) ≤ size_of_shape s
    at n (ty.Scalar c) s h = few.few n (ty.Scalar c) s h
    at n (ty.Struct x) s h =
        slot_few table (of_entry table (read_entry ds d)) (position_or_len (defines_struct x) ds) (size_of_shape s) (few.few n (ty.Struct x) s h)
        (λ e.
        let f = struct_found ds x d (find_at (defines_struct x) ds ∙ ap (slice_get ds) e ∙ there) in
        subst (λ (z : CDef). length (of_entry table (read_entry ds z)) ≤ size_of_shape s) (sym f.is) (struct_few ds table few n x f.fields s f.found h))
    at n (ty.Array x k) s h =
        slot_few table (of_entry table (read_entry ds d)) (position_or_len (defines_array x k) ds) (size_of_shape s) (few.few n (ty.Array x k) s h)
        (λ e.
        let f = array_found ds x k d (find_at (defines_array x k) ds ∙ ap (slice_get ds) e ∙ there) in
        subst (λ (z : CDef). length (of_entry table (read_entry ds z)) ≤ size_of_shape s) (sym f) (array_few ds table few n x k s h))

few_none : (ds : List CDef) → IsFew ds []
few_none ds = record { few = at }
  where
    at : (n : ℕ) (r : CTy) (s : Shape) → shape_within n ds r ≡ Some s → length (tails_at [] (read_type ds r)) ≤ size_of_shape s
    at n (ty.Scalar c) s h = subst (λ (z : Shape). 1 ≤ size_of_shape z) (scalar_is n ds c s h) (scalar_few c)
    at n (ty.Struct x) s h = omega arith
    at n (ty.Array x k) s h = omega arith

few_all : (ds front rest : List CDef) (table : List (List Leaf)) → ds ≡ front ++ rest → length table ≡ length front → IsFew ds table
    → IsFew ds (all_tails table (map (read_entry ds) rest))
few_all ds front [] table is long few = few
few_all ds front (d ∷ rest) table is long few =
    let there : slice_get ds (length table) ≡ Some d = ap (λ (xs : List CDef). slice_get xs (length table)) is ∙ get-behind front d rest (length table) long in
    let grown : ds ≡ (front ++ d ∷ []) ++ rest = is ∙ sym (append_assoc front (d ∷ []) rest) in
    few_all ds (front ++ d ∷ []) rest (table ++ of_entry table (read_entry ds d) ∷ []) grown
    (omega (arith, long, length-append table (of_entry table (read_entry ds d) ∷ []), length-append front (d ∷ []))) (few_more ds table d there few)

-- ---- the columns of externs

column_few : (ds : List CDef) (x : CVar) (o : Option Shape) → shape_of ds x.ty ≡ o → is_some o ≡ true
    → length (leaf_columns (read_types ds) x.name (read_type ds x.ty)) ≤ size_or_none o
column_few ds x None e h = absurd (cc h)
column_few ds x (Some s) e h =
    omega (
      arith,
      length-under x.name (tails_at (all_tails [] (read_types ds)) (read_type ds x.ty)),
      (few_all ds [] ds [] refl refl (few_none ds)).few (length ds + 1) x.ty s e,
    )

externs_few : (ds : List CDef) (xs : List CVar) → list_all (λ x. is_some (shape_of ds x.ty)) xs ≡ true
    → length (flat_map (λ (x : CVar). leaf_columns (read_types ds) x.name (read_type ds x.ty)) xs) ≤ sum_by (copy_storage ds) xs
externs_few ds [] h = omega arith
externs_few ds (x ∷ xs) h =
    let p = and_parts (is_some (shape_of ds x.ty)) (list_all (λ y. is_some (shape_of ds y.ty)) xs) h in
    let columns : CVar → List Leaf = λ (y : CVar). leaf_columns (read_types ds) y.name (read_type ds y.ty) in
    omega (
      arith,
      column_few ds x (shape_of ds x.ty) refl p.0,
      externs_few ds xs p.1,
      length-append (columns x) (flat_map columns xs),
      sum_by-cons (copy_storage ds) x xs,
    )

-- ---- the storage

first_and_third : (a b c d : Bool) → (a && b && c && d) ≡ true → (a ≡ true) × (c ≡ true)
first_and_third true b true d h = (refl, refl)
first_and_third true true false d h = absurd (cc h)
first_and_third true false false d h = absurd (cc h)
first_and_third false b c d h = absurd (cc h)

within : (s total most : ℕ) → nat_eq s total ≡ true → nat_le s most ≡ true → total ≤ most
within s total most h g = grind (arith, nat_tests, h, g)

storage_few : (u : CUnit) → IsTrue (totals_are_right u) → storage_of u ≤ 2147483647
storage_few u h =
    let p = first_and_third (nat_eq u.storage (storage_of u)) (nat_eq u.need (unit_weight_of u)) (nat_le u.storage 2147483647) (nat_le u.need 2147483647) h in
    within u.storage (storage_of u) 2147483647 p.0 p.1

pub few_columns : (u : CUnit) → IsWellFormed u → length (unit_columns u) < 4294967296
few_columns u w =
    let total : sum_by (ring_storage u.types) u.rings + sum_by (copy_storage u.types) u.externs ≤ 2147483647 = storage_few u w.totals in
    omega (arith, total, externs_few u.types u.externs (externs_shaped u w.types_first))
