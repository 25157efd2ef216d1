-- Values of a type: what they are made of, and what a conversion to a type makes of one.
use Rattle.std.proofs.Common.{◌≡◌, ℕ, zero, suc, Bool, true, false, ◌&&◌, List, [], ◌∷◌, length, map, Option, Some, None, Result, Ok, Err, refl, sym, ap, ◌∙◌, subst, arith}
use Rattle.std.specs.Prelude.{ℤ, pos, negsuc, IfOk, nat_eq, slice_get, replicate, All, if◌then◌else◌}
use Rattle.std.specs.List.{list_all, AllZip, AllByRecursion}
use Rattle.std.specs.Option.{option_map_or}
use Rattle.std.proofs.lemmas.Bool.Decides.{nat_tests}
use Rattle.c99_tree.specs.declared.types.CScalar.{CScalar}
use Rattle.c99_tree.specs.declared.types.CScalar.TheVariants as t
use Rattle.c99_tree.specs.declared.types.CTy.{CTy}
use Rattle.c99_tree.specs.declared.types.CTy.TheVariants as ty
use Rattle.c99_tree.specs.declared.types.CVar.{CVar}
use Rattle.c99_tree.specs.declared.types.CDef.{CDef}
use Rattle.c99_tree.specs.declared.undefined.Undefined.{Undefined}
use Rattle.c99_tree.specs.declared.undefined.Undefined.TheVariants as why
use Rattle.c99_tree.specs.declared.unit.Unit.{Unit as CUnit}
use Rattle.c99_tree.specs.Tree.{Exprs, none, more}
use Rattle.c99_tree.specs.CTypes.{Num, usual, converted}
use Rattle.c99_tree.specs.Words.{is_same}
use Rattle.c99_tree.specs.Values.{Value, Values, number, struct_of, array_of, no_value, and_value, value_list, number_in}
use Rattle.c99_tree.specs.Typing.{types_of, is_same_scalar, is_same_type, fits, fits_in, arms_type, fit_members, fit_elements}
use Rattle.c99_tree.specs.WellFormed.{fit_params, list_of}
use Rattle.c99_tree.specs.Evaluation.{Met, after, ◌>>=◌, number_result, element, converted_to}
use Rattle.c99_tree.specs.Typed.{IsNumberOf, IsValueOf, AreValuesOf}
use Rattle.c99_tree.proofs.NumberTypes.{converted-is}
use Rattle.c99_tree.proofs.Shaped.{same-eq}
use Rattle.c99_tree.proofs.LookedUp.{all_at, same_number}
use Rattle.sm_io.proofs.Truths.{left_passes, right_passes, both_pass}
use Rattle.sm_io.proofs.Elements.{all_by_place}

-- ---- one evaluation and then another

after_gives : {A B : Type 0} (r : Result A Undefined) (n : ℕ) (f : A → Met B) (P : A → Type 0) (Q : B → Type 0) → IfOk r P → ((x : A) → P x → IfOk (f x).value Q) → IfOk (after r n f).value Q
after_gives (Ok x) n f P Q h g = g x h
after_gives (Err e) n f P Q h g = tt

pub then_gives : {A B : Type 0} (m : Met A) (f : A → Met B) (P : A → Type 0) (Q : B → Type 0) → IfOk m.value P → ((x : A) → P x → IfOk (f x).value Q) → IfOk (m >>= f).value Q
then_gives m f P Q h g = after_gives m.value m.count f P Q h g

-- ---- numbers

pub number_result-is : (ds : List CDef) (s : CScalar) (r : Result Num Undefined) → IfOk r (IsNumberOf s) → IfOk (number_result r) (IsValueOf ds (ty.Scalar s))
number_result-is ds s (Ok x) h = h
number_result-is ds s (Err e) h = tt

pub number_of_scalar : (ds : List CDef) (s : CScalar) (v : Value) → IsValueOf ds (ty.Scalar s) v → IsNumberOf s (number_in v)
number_of_scalar ds s (number x) h = h
number_of_scalar ds s (struct_of vs) h = absurd h
number_of_scalar ds s (array_of vs) h = absurd h

-- ---- types that fit

same_scalar-eq : (a b : CScalar) → is_same_scalar a b ≡ true → a ≡ b
same_scalar-eq t.Bool t.Bool h = refl
same_scalar-eq t.I8 t.I8 h = refl
same_scalar-eq t.I16 t.I16 h = refl
same_scalar-eq t.I32 t.I32 h = refl
same_scalar-eq t.I64 t.I64 h = refl
same_scalar-eq t.U8 t.U8 h = refl
same_scalar-eq t.U16 t.U16 h = refl
same_scalar-eq t.U32 t.U32 h = refl
same_scalar-eq t.U64 t.U64 h = refl
same_scalar-eq a b h = absurd (cc h)

pub same_type-eq : (a b : CTy) → is_same_type a b ≡ true → a ≡ b
same_type-eq (ty.Scalar s) (ty.Scalar r) h = ap (λ (x : CScalar). ty.Scalar x) (same_scalar-eq s r h)
same_type-eq (ty.Struct x) (ty.Struct y) h = ap (λ (z : List ℕ). ty.Struct z) (same-eq x y h)
same_type-eq (ty.Array x n) (ty.Array y m) h =
    let names : x ≡ y = same-eq x y (left_passes (is_same x y) (nat_eq n m) h) in
    let q : nat_eq n m ≡ true = right_passes (is_same x y) (nat_eq n m) h in
    let lengths : n ≡ m = grind (arith, nat_tests, q) in
    cc (names, lengths)
same_type-eq a b h = absurd (cc h)

fits_struct : (a : CTy) (y : List ℕ) → fits a (ty.Struct y) ≡ true → is_same_type a (ty.Struct y) ≡ true
fits_struct (ty.Scalar s) y h = h
fits_struct (ty.Struct x) y h = h
fits_struct (ty.Array x n) y h = h

fits_array : (a : CTy) (y : List ℕ) (n : ℕ) → fits a (ty.Array y n) ≡ true → is_same_type a (ty.Array y n) ≡ true
fits_array (ty.Scalar s) y n h = h
fits_array (ty.Struct x) y n h = h
fits_array (ty.Array x k) y n h = h

pub converted_to-is : (ds : List CDef) (a b : CTy) (v : Value) → fits a b ≡ true → IsValueOf ds a v → IfOk (converted_to b v) (IsValueOf ds b)
converted_to-is ds (ty.Scalar s) (ty.Scalar r) v h p = number_result-is ds r (converted r (number_in v)) (converted-is r (number_in v))
converted_to-is ds (ty.Struct x) (ty.Scalar r) v h p = absurd (cc h)
converted_to-is ds (ty.Array x n) (ty.Scalar r) v h p = absurd (cc h)
converted_to-is ds a (ty.Struct y) v h p = subst (λ (b : CTy). IsValueOf ds b v) (same_type-eq a (ty.Struct y) (fits_struct a y h)) p
converted_to-is ds a (ty.Array y n) v h p = subst (λ (b : CTy). IsValueOf ds b v) (same_type-eq a (ty.Array y n) (fits_array a y n h)) p

-- ---- both arms of a choice fit the type that they have

same-if : (a b r : CTy) (c : Bool) → is_same_type a b ≡ c → (if c then Some a else None) ≡ Some r → (is_same_type a b ≡ true) × (a ≡ b) × (a ≡ r)
same-if a b r true e h = (e, same_type-eq a b e, cc h)
same-if a b r false e h = absurd (cc h)

-- types that are one, where the first isn't scalar
abbrev FitBoth : CTy → CTy → CTy → Type 0
FitBoth a b r = (fits a r ≡ true) × (fits b r ≡ true)

one_fits : (a b r : CTy) → ((c : CTy) → fits a c ≡ is_same_type a c) → (if is_same_type a b then Some a else None) ≡ Some r → FitBoth a b r
one_fits a b r f h =
    let e = same-if a b r (is_same_type a b) refl h in
    let k : fits a r ≡ true = f r ∙ subst (λ (c : CTy). is_same_type a c ≡ true) (sym e.1 ∙ e.2) e.0 in
    (k, subst (λ (c : CTy). fits c r ≡ true) e.1 k)

pub arms_fit : (a b r : CTy) → arms_type a b ≡ Some r → FitBoth a b r
arms_fit (ty.Scalar s) (ty.Scalar q) r h =
    let e : ty.Scalar (usual s q) ≡ r = cc h in
    (subst (λ (c : CTy). fits (ty.Scalar s) c ≡ true) e refl, subst (λ (c : CTy). fits (ty.Scalar q) c ≡ true) e refl)
arms_fit (ty.Scalar s) (ty.Struct y) r h = absurd (cc h)
arms_fit (ty.Scalar s) (ty.Array y n) r h = absurd (cc h)
arms_fit (ty.Struct x) b r h = one_fits (ty.Struct x) b r (λ c. refl) h
arms_fit (ty.Array x n) b r h = one_fits (ty.Array x n) b r (λ c. refl) h

-- ---- the parts of a value

-- a struct's members' values, along with its members
pub members_along : (ds : List CDef) (fields : List CVar) (vs : Values) → AreValuesOf ds (map (λ v. v.ty) fields) vs → AllZip (λ (f : CVar) v. IsValueOf ds f.ty v) fields (value_list vs)
members_along ds [] no_value h = tt
members_along ds [] (and_value v vs) h = absurd h
members_along ds (f ∷ fields) no_value h = absurd h
members_along ds (f ∷ fields) (and_value v vs) h = (h.0, members_along ds fields vs h.1)

each_of : (ds : List CDef) (n : ℕ) (r : CTy) (vs : Values) → AreValuesOf ds (replicate n r) vs → AllByRecursion (IsValueOf ds r) (value_list vs)
each_of ds zero r no_value h = tt
each_of ds zero r (and_value v vs) h = absurd h
each_of ds (suc n) r no_value h = absurd h
each_of ds (suc n) r (and_value v vs) h = (h.0, each_of ds n r vs h.1)

-- an array's elements' values
pub elements_are : (ds : List CDef) (n : ℕ) (r : CTy) (vs : Values) → AreValuesOf ds (replicate n r) vs → All (IsValueOf ds r) (value_list vs)
elements_are ds n r vs h = all_by_place (IsValueOf ds r) (value_list vs) (each_of ds n r vs h)

some_element : (ds : List CDef) (r : CTy) (vs : List Value) (k : ℕ) (o : Option Value) → All (IsValueOf ds r) vs → slice_get vs k ≡ o → IfOk (option_map_or Ok o (Err why.BadIndex)) (IsValueOf ds r)
some_element ds r vs k None h e = tt
some_element ds r vs k (Some v) h e = all_at (IsValueOf ds r) vs k v h e

-- an element at a subscript is one of them
pub element_is : (ds : List CDef) (r : CTy) (vs : List Value) (z : ℤ) → All (IsValueOf ds r) vs → IfOk (element vs z) (IsValueOf ds r)
element_is ds r vs (pos k) h = some_element ds r vs k (slice_get vs k) h refl
element_is ds r vs (negsuc k) h = tt

-- ---- lists of types that fit

-- as many types as are asked for, each fitting the one at its place
abbrev pub fit_types : List (Option CTy) → List CTy → Bool
fit_types [] [] = true
fit_types [] (r ∷ rs) = false
fit_types (a ∷ all) [] = false
fit_types (a ∷ all) (r ∷ rs) = fits_in a r && fit_types all rs

pub members_fit : (all : List (Option CTy)) (fields : List CVar) → fit_members all fields ≡ true → fit_types all (map (λ v. v.ty) fields) ≡ true
members_fit [] [] h = refl
members_fit [] (f ∷ fields) h = h
members_fit (a ∷ all) [] h = h
members_fit (a ∷ all) (f ∷ fields) h =
    both_pass (fits_in a f.ty) (fit_types all (map (λ v. v.ty) fields)) (left_passes (fits_in a f.ty) (fit_members all fields) h) (members_fit all fields (right_passes (fits_in a f.ty) (fit_members all fields) h))

all_fit : (all : List (Option CTy)) (n : ℕ) (r : CTy) → length all ≡ n → list_all (λ a. fits_in a r) all ≡ true → fit_types all (replicate n r) ≡ true
all_fit [] zero r e h = refl
all_fit [] (suc n) r e h = absurd (omega (arith, e))
all_fit (a ∷ all) zero r e h = absurd (omega (arith, e))
all_fit (a ∷ all) (suc n) r e h =
    both_pass (fits_in a r) (fit_types all (replicate n r)) (left_passes (fits_in a r) (list_all (λ b. fits_in b r) all) h) (all_fit all n r (omega (arith, e)) (right_passes (fits_in a r) (list_all (λ b. fits_in b r) all) h))

pub elements_fit : (all : List (Option CTy)) (n : ℕ) (r : CTy) → fit_elements all n r ≡ true → fit_types all (replicate n r) ≡ true
elements_fit all n r h =
    all_fit all n r (same_number (length all) n (left_passes (nat_eq (length all) n) (list_all (λ a. fits_in a r) all) h)) (right_passes (nat_eq (length all) n) (list_all (λ a. fits_in a r) all) h)

pub params_fit : (all : List (Option CTy)) (rs : List CTy) → length all ≡ length rs → fit_params all rs ≡ true → fit_types all rs ≡ true
params_fit [] [] e h = refl
params_fit [] (r ∷ rs) e h = absurd (omega (arith, e))
params_fit (a ∷ all) [] e h = absurd (omega (arith, e))
params_fit (a ∷ all) (r ∷ rs) e h =
    both_pass (fits_in a r) (fit_types all rs) (left_passes (fits_in a r) (fit_params all rs) h) (params_fit all rs (omega (arith, e)) (right_passes (fits_in a r) (fit_params all rs) h))

pub types_long : (u : CUnit) (es : Exprs) → length (types_of u es) ≡ length (list_of es)
types_long u none = refl
types_long u (more e es) = let h = types_long u es in omega (arith, h)
