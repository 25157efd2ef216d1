-- What an expression of a well formed unit looks up is there.
use Rattle.std.proofs.Common.{map, ◌≡◌, ℕ, ◌≤◌, Bool, true, false, ◌++◌, List, [], ◌∷◌, length, Option, Some, None, Result, refl, ap, subst, arith}
use Rattle.std.specs.Prelude.{replicate, IsSome, is_some, IfOk, slice_get, if◌then◌else◌}
use Rattle.std.specs.List.{list_all, AllByRecursion}
use Rattle.std.specs.Option.{option_map, option_map_or, option_and_then}
use Rattle.c99_tree.specs.declared.types.CTy.{CTy}
use Rattle.c99_tree.specs.declared.types.CTy.TheVariants as ty
use Rattle.c99_tree.specs.declared.types.CVar.{CVar}
use Rattle.c99_tree.specs.declared.types.CDef.{CDef}
use Rattle.c99_tree.specs.declared.types.CScalar.{CScalar}
use Rattle.c99_tree.specs.declared.undefined.Undefined.{Undefined}
use Rattle.c99_tree.specs.declared.unit.CRing.{CRing}
use Rattle.c99_tree.specs.declared.unit.Unit.{Unit as CUnit}
use Rattle.c99_tree.specs.Tree.{Expr, Exprs, lit, yes, no, copy, head, cell, ring_at, un, bin, choose, cast, field, pick, arr, rec, none, more}
use Rattle.c99_tree.specs.Words.{is_same, elem_type}
use Rattle.c99_tree.specs.Lookup.{fields_of, var_of, ring_of, place_of_var, place_of_ring}
use Rattle.c99_tree.specs.Values.{Value, number, struct_of, array_of, parts}
use Rattle.c99_tree.specs.Typing.{type_of, types_of, scalar_type, arms_type_of, fields_in, fits_in, where_scalar, where_type, where_true, fit_members, fit_elements, unary_type, binary_type, is_same_type}
use Rattle.c99_tree.specs.Evaluation.{Statics, values_in, evaluate}
use Rattle.c99_tree.specs.WellFormed.{parts_of, parts_of_all, is_in_range, is_there}
use Rattle.c99_tree.specs.Typed.{IsValueOf, IsStatics}
use Rattle.c99_tree.specs.LookUps.{IsNumber, IsArray, HoldsRing, GivesFor, GiveFor, Finds}
use Rattle.std.proofs.lemmas.Result.{IfOk-weaker}
use Rattle.c99_tree.proofs.Optional.{map-some, both-some}
use Rattle.c99_tree.proofs.LookedUp.{found_along, found, there_is}
use Rattle.c99_tree.proofs.TypedValues.{same_type-eq, arms_fit, fit_types, members_fit, elements_fit}
use Rattle.c99_tree.proofs.TypedExpressions.{Gives, Premises, halves, state_of, ring_values, ring_long, member_found, evaluate_gives}
use Rattle.sm_io.proofs.Truths.{left_passes, right_passes}

-- ---- results

scalar_number : (ds : List CDef) (c : CScalar) (v : Value) → IsValueOf ds (ty.Scalar c) v → IsNumber v
scalar_number ds c (number x) h = tt
scalar_number ds c (struct_of vs) h = absurd h
scalar_number ds c (array_of vs) h = absurd h

array_array : (ds : List CDef) (x : List ℕ) (n : ℕ) (v : Value) → IsValueOf ds (ty.Array x n) v → IsArray v
array_array ds x n (number k) h = absurd h
array_array ds x n (struct_of vs) h = absurd h
array_array ds x n (array_of vs) h = tt

pub numbers : (ds : List CDef) (o : Option CTy) (r : Result Value Undefined) → IsSome (scalar_type o) → Gives ds o r → IfOk r IsNumber
numbers ds None r i h = absurd (cc i)
numbers ds (Some (ty.Struct x)) r i h = absurd (cc i)
numbers ds (Some (ty.Array x n)) r i h = absurd (cc i)
numbers ds (Some (ty.Scalar c)) r i h = IfOk-weaker r (IsValueOf ds (ty.Scalar c)) IsNumber (scalar_number ds c) h

-- ---- types of the parts of an expression that has a type

where_some : (a b : Option CTy) → IsSome (where_scalar a b) → IsSome (scalar_type a) × IsSome b
where_some None b h = absurd (cc h)
where_some (Some (ty.Scalar c)) b h = (refl, h)
where_some (Some (ty.Struct x)) b h = absurd (cc h)
where_some (Some (ty.Array x n)) b h = absurd (cc h)

same_some : (c : Bool) (o : Option CTy) → IsSome (if c then o else None) → (c ≡ true) × IsSome o
same_some true o h = (refl, h)
same_some false o h = absurd (cc h)

where_type_some : (a : Option CTy) (b : CTy) (o : Option CTy) → IsSome (where_type a b o) → (a ≡ Some b) × IsSome o
where_type_some None b o h = absurd (cc h)
where_type_some (Some a) b o h =
    let p = same_some (is_same_type a b) o h in
    (ap (λ (z : CTy). Some z) (same_type-eq a b p.0), p.1)

where_true_some : (c : Bool) (o : Option CTy) → IsSome (where_true c o) → c ≡ true
where_true_some true o h = refl
where_true_some false o h = absurd (cc h)

-- ---- look-ups

copy_held : (u : CUnit) (s : Statics) (x : List ℕ) → IsStatics u s → IsSome (var_of u.externs x) → IsSome (slice_get s.copies (place_of_var u.externs x))
copy_held u s x h i =
    let v = found (var_of u.externs x) i in
    let f = found_along (λ (z : CVar) w. IsValueOf u.types z.ty w) (λ (z : CVar). is_same x z.name) u.externs s.copies v.0 h.copies v.1 in
    there_is (slice_get s.copies (place_of_var u.externs x)) f.value f.there

pub ring_held : (u : CUnit) (s : Statics) (r : List ℕ) → IsStatics u s → IsSome (ring_of u r) → HoldsRing u s r
ring_held u s r h i =
    let v = found (ring_of u r) i in
    let f = state_of u s r v.0 h v.1 in
    there_is (slice_get s.rings (place_of_ring u r)) f.value f.there

first_there : (vs : List Value) → 1 ≤ length vs → IsSome (slice_get vs 0)
first_there [] h = absurd (omega (arith, h))
first_there (v ∷ vs) h = refl

cell_held : (u : CUnit) (s : Statics) (r : List ℕ) → Premises u s → IsSome (ring_of u r) → IsSome (slice_get (values_in u s r) 0)
cell_held u s r c i =
    let v = found (ring_of u r) i in
    let f = ring_values u s r v.0 c.statics v.1 in
    let n = ring_long u r v.0 c.lengths v.1 in
    first_there (values_in u s r) (omega (arith, f.0, n))

-- the member of a value of a struct's type
member_held : (ds : List CDef) (y x : List ℕ) (fields : List CVar) (f : CVar) (v : Value) → fields_of ds y ≡ Some fields → var_of fields x ≡ Some f → IsValueOf ds (ty.Struct y) v
    → IsSome (slice_get (parts v) (place_of_var fields x))
member_held ds y x fields f v e g p = let h = member_found ds y x fields f v e g p in there_is (slice_get (parts v) (place_of_var fields x)) h.value h.there

struct_held : (ds : List CDef) (y x : List ℕ) (o : Option (List CVar)) (r : Result Value Undefined) → fields_of ds y ≡ o → IsSome (var_of (option_map_or (λ (fs : List CVar). fs) o []) x) → IfOk r (IsValueOf ds (ty.Struct y))
    → IfOk r (λ v. IsSome (slice_get (parts v) (place_of_var (option_map_or (λ (fs : List CVar). fs) o []) x)))
struct_held ds y x None r e i h = absurd (cc i)
struct_held ds y x (Some fields) r e i h =
    let f = found (var_of fields x) i in
    IfOk-weaker r (IsValueOf ds (ty.Struct y)) (λ v. IsSome (slice_get (parts v) (place_of_var fields x))) (λ v p. member_held ds y x fields f.0 v e f.1 p) h

field_held : (ds : List CDef) (o : Option CTy) (x : List ℕ) (r : Result Value Undefined) → IsSome (var_of (fields_in ds o) x) → Gives ds o r
    → IfOk r (λ v. IsSome (slice_get (parts v) (place_of_var (fields_in ds o) x)))
field_held ds None x r i h = absurd (cc i)
field_held ds (Some (ty.Scalar c)) x r i h = absurd (cc i)
field_held ds (Some (ty.Array y n)) x r i h = absurd (cc i)
field_held ds (Some (ty.Struct y)) x r i h = struct_held ds y x (fields_of ds y) r refl i h

arrays : (ds : List CDef) (x : List ℕ) (n : ℕ) (o : Option CTy) (r : Result Value Undefined) → o ≡ Some (ty.Array x n) → Gives ds o r → IfOk r IsArray
arrays ds x n o r e h =
    let g : IfOk r (IsValueOf ds (ty.Array x n)) = subst (λ (z : Option CTy). Gives ds z r) e h in
    IfOk-weaker r (IsValueOf ds (ty.Array x n)) IsArray (array_array ds x n) g

-- ---- one expression

-- what the rules say of an expression and of its parts
pub record Passed (u : CUnit) (es : List Expr) : Type 0 where
  pub ranged : list_all is_in_range es ≡ true
  pub typed : list_all (λ e. is_some (type_of u e)) es ≡ true
  pub there : list_all (is_there u) es ≡ true

rest_passed : (u : CUnit) (e : Expr) (es : List Expr) → Passed u (e ∷ es) → Passed u es
rest_passed u e es c =
    record {
      ranged = right_passes (is_in_range e) (list_all is_in_range es) c.ranged;
      typed = right_passes (is_some (type_of u e)) (list_all (λ z. is_some (type_of u z)) es) c.typed;
      there = right_passes (is_there u e) (list_all (is_there u) es) c.there;
    }

head_typed : (u : CUnit) (e : Expr) (es : List Expr) → Passed u (e ∷ es) → is_some (type_of u e) ≡ true
head_typed u e es c = left_passes (is_some (type_of u e)) (list_all (λ z. is_some (type_of u z)) es) c.typed

head_there : (u : CUnit) (e : Expr) (es : List Expr) → Passed u (e ∷ es) → is_there u e ≡ true
head_there u e es c = left_passes (is_there u e) (list_all (is_there u) es) c.there

pub left_passed : (u : CUnit) (xs ys : List Expr) → Passed u (xs ++ ys) → Passed u xs
left_passed u xs ys c =
    record { ranged = (halves is_in_range xs ys c.ranged).0; typed = (halves (λ e. is_some (type_of u e)) xs ys c.typed).0; there = (halves (is_there u) xs ys c.there).0 }

pub right_passed : (u : CUnit) (xs ys : List Expr) → Passed u (xs ++ ys) → Passed u ys
right_passed u xs ys c =
    record { ranged = (halves is_in_range xs ys c.ranged).1; typed = (halves (λ e. is_some (type_of u e)) xs ys c.typed).1; there = (halves (is_there u) xs ys c.there).1 }

pub all_both : {A : Type 0} (P : A → Type 0) (xs ys : List A) → AllByRecursion P xs → AllByRecursion P ys → AllByRecursion P (xs ++ ys)
all_both P [] ys h g = g
all_both P (x ∷ xs) ys h g = (h.0, all_both P xs ys h.1 g)

-- an expression that has a scalar type, with passed parts, gives a number
pub gives_number : (u : CUnit) (s : Statics) (c : Premises u s) (a : Expr) → list_all is_in_range (parts_of a) ≡ true → IsSome (scalar_type (type_of u a)) → IfOk (evaluate u s a).value IsNumber
gives_number u s c a h i = numbers u.types (type_of u a) (evaluate u s a).value i (evaluate_gives u s c a h)

-- ---- what is converted to a type

scalar_fits : (a : Option CTy) (d : CScalar) → fits_in a (ty.Scalar d) ≡ true → IsSome (scalar_type a)
scalar_fits None d h = absurd (cc h)
scalar_fits (Some (ty.Scalar c)) d h = refl
scalar_fits (Some (ty.Struct x)) d h = absurd (cc h)
scalar_fits (Some (ty.Array x n)) d h = absurd (cc h)

pub gives_for : (u : CUnit) (s : Statics) (c : Premises u s) (r : CTy) (a : Expr) → list_all is_in_range (parts_of a) ≡ true → fits_in (type_of u a) r ≡ true → GivesFor u s r a
gives_for u s c (ty.Scalar d) a h e = gives_number u s c a h (scalar_fits (type_of u a) d e)
gives_for u s c (ty.Struct x) a h e = tt
gives_for u s c (ty.Array x n) a h e = tt

pub give_for : (u : CUnit) (s : Statics) (c : Premises u s) (rs : List CTy) (es : Exprs) → list_all is_in_range (parts_of_all es) ≡ true → fit_types (types_of u es) rs ≡ true → GiveFor u s rs es
give_for u s c [] none h e = tt
give_for u s c (r ∷ rs) none h e = absurd (cc e)
give_for u s c [] (more a es) h e = absurd (cc e)
give_for u s c (r ∷ rs) (more a es) h e =
    let p = halves is_in_range (parts_of a) (parts_of_all es) h in
    (gives_for u s c r a p.0 (left_passes (fits_in (type_of u a) r) (fit_types (types_of u es) rs) e), give_for u s c rs es p.1 (right_passes (fits_in (type_of u a) r) (fit_types (types_of u es) rs) e))

-- both arms fit the type that they have
arms_settle : (a b : Option CTy) (r : CTy) → arms_type_of a b ≡ Some r → (fits_in a r ≡ true) × (fits_in b r ≡ true)
arms_settle None b r e = absurd (cc e)
arms_settle (Some a) None r e = absurd (cc e)
arms_settle (Some a) (Some b) r e = arms_fit a b r e

struct_gives : (u : CUnit) (s : Statics) (c : Premises u s) (x : List ℕ) (all : Exprs) (o : Option (List CVar)) → list_all is_in_range (parts_of_all all) ≡ true → fields_of u.types x ≡ o
    → IsSome (option_and_then (λ (fields : List CVar). where_true (fit_members (types_of u all) fields) (Some (ty.Struct x))) o)
    → (fields : List CVar) × (fields_of u.types x ≡ Some fields) × GiveFor u s (map (λ (v : CVar). v.ty) fields) all
struct_gives u s c x all None p e h = absurd (cc h)
struct_gives u s c x all (Some fields) p e h =
    (fields, e, give_for u s c (map (λ (v : CVar). v.ty) fields) all p (members_fit (types_of u all) fields (where_true_some (fit_members (types_of u all) fields) (Some (ty.Struct x)) h)))

mutual
  pub finds : (u : CUnit) (s : Statics) (c : Premises u s) (e : Expr) → Passed u (parts_of e) → AllByRecursion (Finds u s) (parts_of e)
  finds u s c (lit k n) p = (tt, tt)
  finds u s c yes p = (tt, tt)
  finds u s c no p = (tt, tt)
  finds u s c (copy x) p = (copy_held u s x c.statics (head_there u (copy x) [] p), tt)
  finds u s c (head r) p = (ring_held u s r c.statics (head_there u (head r) [] p), tt)
  finds u s c (cell r) p =
      let i = head_there u (cell r) [] p in
      ((ring_held u s r c.statics i, cell_held u s r c i), tt)
  finds u s c (ring_at r a) p =
      let q = rest_passed u (ring_at r a) (parts_of a) p in
      let w = where_some (type_of u a) (option_map (λ (ring : CRing). ring.ty) (ring_of u r)) (head_typed u (ring_at r a) (parts_of a) p) in
      ((ring_held u s r c.statics (head_there u (ring_at r a) (parts_of a) p), gives_number u s c a q.ranged w.0), finds u s c a q)
  finds u s c (un op a) p =
      let q = rest_passed u (un op a) (parts_of a) p in
      let w = map-some (λ d. ty.Scalar (unary_type op d)) (scalar_type (type_of u a)) (head_typed u (un op a) (parts_of a) p) in
      (gives_number u s c a q.ranged w, finds u s c a q)
  finds u s c (bin op a b) p =
      let q = rest_passed u (bin op a b) (parts_of a ++ parts_of b) p in
      let l = left_passed u (parts_of a) (parts_of b) q in
      let r = right_passed u (parts_of a) (parts_of b) q in
      let w = both-some (λ d f. ty.Scalar (binary_type op d f)) (scalar_type (type_of u a)) (scalar_type (type_of u b)) (head_typed u (bin op a b) (parts_of a ++ parts_of b) p) in
      ((gives_number u s c a l.ranged w.0, gives_number u s c b r.ranged w.1), all_both (Finds u s) (parts_of a) (parts_of b) (finds u s c a l) (finds u s c b r))
  finds u s c (choose d a b) p =
      let q = rest_passed u (choose d a b) (parts_of d ++ (parts_of a ++ parts_of b)) p in
      let f = left_passed u (parts_of d) (parts_of a ++ parts_of b) q in
      let g = right_passed u (parts_of d) (parts_of a ++ parts_of b) q in
      let l = left_passed u (parts_of a) (parts_of b) g in
      let r = right_passed u (parts_of a) (parts_of b) g in
      let w = where_some (type_of u d) (arms_type_of (type_of u a) (type_of u b)) (head_typed u (choose d a b) (parts_of d ++ (parts_of a ++ parts_of b)) p) in
      let v = found (arms_type_of (type_of u a) (type_of u b)) w.1 in
      let arms = arms_settle (type_of u a) (type_of u b) v.0 v.1 in (
        (gives_number u s c d f.ranged w.0, (v.0, v.1, gives_for u s c v.0 a l.ranged arms.0, gives_for u s c v.0 b r.ranged arms.1)),
        all_both (Finds u s) (parts_of d) (parts_of a ++ parts_of b) (finds u s c d f) (all_both (Finds u s) (parts_of a) (parts_of b) (finds u s c a l) (finds u s c b r)),
      )
  finds u s c (cast d a) p =
      let q = rest_passed u (cast d a) (parts_of a) p in
      let w = where_some (type_of u a) (Some (ty.Scalar d)) (head_typed u (cast d a) (parts_of a) p) in
      (gives_number u s c a q.ranged w.0, finds u s c a q)
  finds u s c (field a x) p =
      let q = rest_passed u (field a x) (parts_of a) p in
      (field_held u.types (type_of u a) x (evaluate u s a).value (head_there u (field a x) (parts_of a) p) (evaluate_gives u s c a q.ranged), finds u s c a q)
  finds u s c (pick x n a i) p =
      let q = rest_passed u (pick x n a i) (parts_of a ++ parts_of i) p in
      let l = left_passed u (parts_of a) (parts_of i) q in
      let r = right_passed u (parts_of a) (parts_of i) q in
      let w = where_type_some (type_of u a) (ty.Array x n) (where_scalar (type_of u i) (Some (elem_type x))) (head_typed u (pick x n a i) (parts_of a ++ parts_of i) p) in
      let v = where_some (type_of u i) (Some (elem_type x)) w.1 in (
        (arrays u.types x n (type_of u a) (evaluate u s a).value w.0 (evaluate_gives u s c a l.ranged), gives_number u s c i r.ranged v.0),
        all_both (Finds u s) (parts_of a) (parts_of i) (finds u s c a l) (finds u s c i r),
      )
  finds u s c (arr x n all) p =
      let q = rest_passed u (arr x n all) (parts_of_all all) p in
      let fit = where_true_some (fit_elements (types_of u all) n (elem_type x)) (Some (ty.Array x n)) (head_typed u (arr x n all) (parts_of_all all) p) in
      (give_for u s c (replicate n (elem_type x)) all q.ranged (elements_fit (types_of u all) n (elem_type x) fit), finds_all u s c all q)
  finds u s c (rec x all) p =
      let q = rest_passed u (rec x all) (parts_of_all all) p in
      (struct_gives u s c x all (fields_of u.types x) q.ranged refl (head_typed u (rec x all) (parts_of_all all) p), finds_all u s c all q)

  pub finds_all : (u : CUnit) (s : Statics) (c : Premises u s) (es : Exprs) → Passed u (parts_of_all es) → AllByRecursion (Finds u s) (parts_of_all es)
  finds_all u s c none p = tt
  finds_all u s c (more e es) p =
      all_both (Finds u s) (parts_of e) (parts_of_all es) (finds u s c e (left_passed u (parts_of e) (parts_of_all es) p)) (finds_all u s c es (right_passed u (parts_of e) (parts_of_all es) p))
