-- Where a unit's types stand among its definitions: each behind those that it is made of.
use Rattle.std.proofs.Common.{◌≡◌, ℕ, zero, suc, ◌+◌, ◌<◌, Bool, true, false, List, [], ◌∷◌, ◌++◌, length, length-append, append_assoc, Some, refl}
use Rattle.std.proofs.Common.{sym, ap, ◌∙◌, subst, arith}
use Rattle.std.specs.Prelude.{slice_get, nat_eq, ◌&&◌, ◌||◌}
use Rattle.std.specs.Option.{option_map}
use Rattle.std.specs.List.{AllByRecursion, find, list_all, list_any, position_or_len}
use Rattle.std.proofs.lemmas.Bool.{and_parts}
use Rattle.std.proofs.lemmas.List.Folds.{list_any-append}
use Rattle.stream_types.specs.declared.scalar.Ty.{Ty}
use Rattle.stream_types.specs.declared.scalar.Ty.TheVariants as typed
use Rattle.c99_tree.specs.declared.types.CTy.{CTy}
use Rattle.c99_tree.specs.declared.types.CTy.TheVariants as ty
use Rattle.c99_tree.specs.declared.types.CVar.{CVar}
use Rattle.c99_tree.specs.declared.types.CDef.{CDef}
use Rattle.c99_tree.specs.declared.types.CDef.TheVariants as def
use Rattle.c99_tree.specs.Words.{is_same, elem_type}
use Rattle.c99_tree.specs.Lookup.{fields_of, structs_in, arrays_in, is_array, is_defined}
use Rattle.c99_tree.specs.WellFormed.{is_built_from, each_after, types_are_built_in_order}
use Rattle.c99_tree.proofs.LookedUp.{found_there, same_number}
use Rattle.c99_tree.proofs.Shaped.{same-eq}
use Rattle.c_runner.specs.Read.{defines_array, defines_struct, read_type}

-- ---- the first that passes

first_place : {X : Type 0} (p : X → Bool) (x : X) (xs : List X) → p x ≡ true → position_or_len p (x ∷ xs) ≡ 0
first_place p x xs e = rw e refl

next_number : (n : ℕ) → 1 + n ≡ suc n
next_number n = omega arith

next_place : {X : Type 0} (p : X → Bool) (x : X) (xs : List X) → p x ≡ false → position_or_len p (x ∷ xs) ≡ suc (position_or_len p xs)
next_place p x xs e = rw (e, next_number (position_or_len p xs)) refl

place_next : {X : Type 0} (p : X → Bool) (x : X) (before rest : List X) (b : Bool) → p x ≡ b
    → (list_any p before ≡ true → position_or_len p (before ++ rest) < length before) → (b || list_any p before) ≡ true
    → position_or_len p ((x ∷ before) ++ rest) < length (x ∷ before)
place_next p x before rest true e ih g = let z = first_place p x (before ++ rest) e in omega (arith, z)
place_next p x before rest false e ih g =
    let z = next_place p x (before ++ rest) e in
    let low = ih g in
    omega (arith, z, low)

-- where one of the first passes, the first that does stands among them
place_below : {X : Type 0} (p : X → Bool) (before rest : List X) → list_any p before ≡ true → position_or_len p (before ++ rest) < length before
place_below p [] rest h = absurd (cc h)
place_below p (x ∷ before) rest h = place_next p x before rest (p x) refl (λ g. place_below p before rest g) h

any_next : {X : Type 0} (p : X → Bool) (x : X) (xs : List X) (b : Bool) → p x ≡ b
    → (list_any p xs ≡ true → (y : X) × (find p xs ≡ Some y) × (p y ≡ true)) → (b || list_any p xs) ≡ true
    → (y : X) × (find p (x ∷ xs) ≡ Some y) × (p y ≡ true)
any_next p x xs true e ih g = (x, rw e refl, e)
any_next p x xs false e ih g = let f = ih g in (f.0, rw e f.1, f.2)

any_found : {X : Type 0} (p : X → Bool) (xs : List X) → list_any p xs ≡ true → (x : X) × (find p xs ≡ Some x) × (p x ≡ true)
any_found p [] h = absurd (cc h)
any_found p (x ∷ xs) h = any_next p x xs (p x) refl (λ g. any_found p xs g) h

-- ---- definitions by what they define

struct_any : (x : List ℕ) (ds : List CDef) → list_any (λ s. is_same x s.0) (structs_in ds) ≡ list_any (defines_struct x) ds
struct_any x [] = refl
struct_any x (def.Struct y fields ∷ ds) = ap (λ b. is_same x y || b) (struct_any x ds)
struct_any x (def.Array y n ∷ ds) = struct_any x ds

array_any : (x : List ℕ) (n : ℕ) (ds : List CDef) → list_any (is_array x n) (arrays_in ds) ≡ list_any (defines_array x n) ds
array_any x n [] = refl
array_any x n (def.Struct y fields ∷ ds) = array_any x n ds
array_any x n (def.Array y m ∷ ds) = ap (λ b. (is_same x y && nat_eq n m) || b) (array_any x n ds)

struct_next : (x y : List ℕ) (own fields : List CVar) (ds : List CDef) (b : Bool) → is_same x y ≡ b
    → (fields_of ds x ≡ Some fields → (z : List ℕ) × (find (defines_struct x) ds ≡ Some (def.Struct z fields)))
    → fields_of (def.Struct y own ∷ ds) x ≡ Some fields
    → (z : List ℕ) × (find (defines_struct x) (def.Struct y own ∷ ds) ≡ Some (def.Struct z fields))
struct_next x y own fields ds true e ih h = let same : Some own ≡ Some fields = rw e at h in (y, rw e (ap (option_map (def.Struct y)) same))
struct_next x y own fields ds false e ih h = let g : fields_of ds x ≡ Some fields = rw e at h in let f = ih g in (f.0, rw e f.1)

-- the definition of a struct with these members is the first of its name
struct_found : (x : List ℕ) (fields : List CVar) (ds : List CDef) → fields_of ds x ≡ Some fields
    → (y : List ℕ) × (find (defines_struct x) ds ≡ Some (def.Struct y fields))
struct_found x fields [] h = absurd (cc h)
struct_found x fields (def.Array y n ∷ ds) h = struct_found x fields ds h
struct_found x fields (def.Struct y own ∷ ds) h = struct_next x y own fields ds (is_same x y) refl (λ g. struct_found x fields ds g) h

pub struct_there : (x : List ℕ) (fields : List CVar) (ds : List CDef) → fields_of ds x ≡ Some fields
    → (y : List ℕ) × (slice_get ds (position_or_len (defines_struct x) ds) ≡ Some (def.Struct y fields))
struct_there x fields ds h = let f = struct_found x fields ds h in (f.0, found_there (defines_struct x) ds (def.Struct f.0 fields) f.1)

array_is : (x : List ℕ) (n : ℕ) (d : CDef) → defines_array x n d ≡ true → d ≡ def.Array x n
array_is x n (def.Struct y fields) h = absurd (cc h)
array_is x n (def.Array y m) h =
    let p = and_parts (is_same x y) (nat_eq n m) h in
    let names : x ≡ y = same-eq x y p.0 in
    let lengths : n ≡ m = same_number n m p.1 in
    cc (names, lengths)

pub array_there : (x : List ℕ) (n : ℕ) (ds : List CDef) → is_defined ds (ty.Array x n) ≡ true
    → slice_get ds (position_or_len (defines_array x n) ds) ≡ Some (def.Array x n)
array_there x n ds h =
    let f = any_found (defines_array x n) ds (sym (array_any x n ds) ∙ h) in
    found_there (defines_array x n) ds f.0 f.1 ∙ ap Some (array_is x n f.0 f.2)

-- ---- types of the first definitions

-- a type's place is below this
abbrev pub Below : ℕ → Ty → Type 0
Below n (typed.Scalar s) = Unit {0}
Below n (typed.Array i) = i < n
Below n (typed.Struct i) = i < n

-- a type is defined, and its place is below this
pub record Placed (ds : List CDef) (n : ℕ) (t : CTy) : Type 0 where
  pub defined : is_defined ds t ≡ true
  pub below : Below n (read_type ds t)

or_more : (a b c : Bool) → c ≡ (a || b) → a ≡ true → c ≡ true
or_more true b c e h = e
or_more false b c e h = absurd (cc h)

any_more : {X : Type 0} (p : X → Bool) (before rest : List X) → list_any p before ≡ true → list_any p (before ++ rest) ≡ true
any_more p before rest h = or_more (list_any p before) (list_any p rest) (list_any p (before ++ rest)) (list_any-append p before rest) h

placed : (before rest : List CDef) (t : CTy) → is_defined before t ≡ true → Placed (before ++ rest) (length before) t
placed before rest (ty.Scalar s) h = record { defined = refl; below = tt }
placed before rest (ty.Struct x) h =
    let own : list_any (defines_struct x) before ≡ true = sym (struct_any x before) ∙ h in
    record {
      defined = struct_any x (before ++ rest) ∙ any_more (defines_struct x) before rest own;
      below = place_below (defines_struct x) before rest own;
    }
placed before rest (ty.Array x n) h =
    let own : list_any (defines_array x n) before ≡ true = sym (array_any x n before) ∙ h in
    record {
      defined = array_any x n (before ++ rest) ∙ any_more (defines_array x n) before rest own;
      below = place_below (defines_array x n) before rest own;
    }

-- each type that a definition is made of
abbrev pub PlacedDef : List CDef → ℕ → CDef → Type 0
PlacedDef ds n (def.Struct x fields) = AllByRecursion (λ (v : CVar). Placed ds n v.ty) fields
PlacedDef ds n (def.Array x k) = Placed ds n (elem_type x)

fields_placed : (before rest : List CDef) (fields : List CVar) → list_all (λ (v : CVar). is_defined before v.ty) fields ≡ true
    → AllByRecursion (λ (v : CVar). Placed (before ++ rest) (length before) v.ty) fields
fields_placed before rest [] h = tt
fields_placed before rest (v ∷ fields) h =
    let p = and_parts (is_defined before v.ty) (list_all (λ (w : CVar). is_defined before w.ty) fields) h in
    (placed before rest v.ty p.0, fields_placed before rest fields p.1)

def_placed : (before rest : List CDef) (d : CDef) → is_built_from before d ≡ true → PlacedDef (before ++ rest) (length before) d
def_placed before rest (def.Struct x fields) h = fields_placed before rest fields h
def_placed before rest (def.Array x n) h = placed before rest (elem_type x) h

each_placed : (ds before rest : List CDef) (i j : ℕ) (d : CDef) → ds ≡ before ++ rest → each_after is_built_from before rest ≡ true
    → slice_get rest i ≡ Some d → j ≡ length before + i → PlacedDef ds j d
each_placed ds before [] i j d is h e at = absurd (cc e)
each_placed ds before (x ∷ rest) zero j d is h e at =
    let p = and_parts (is_built_from before x) (each_after is_built_from (before ++ x ∷ []) rest) h in
    let same : x ≡ d = cc e in
    let place : length before ≡ j = omega (arith, at) in
    subst (λ k. PlacedDef ds k d) place
    (subst (λ (y : CDef). PlacedDef ds (length before) y) same
    (subst (λ (es : List CDef). PlacedDef es (length before) x) (sym is) (def_placed before (x ∷ rest) x p.0)))
each_placed ds before (x ∷ rest) (suc i) j d is h e at =
    let p = and_parts (is_built_from before x) (each_after is_built_from (before ++ x ∷ []) rest) h in
    let long = length-append before (x ∷ []) in
    each_placed ds (before ++ x ∷ []) rest i j d (is ∙ sym (append_assoc before (x ∷ []) rest)) p.1 e (omega (arith, at, long))

pub all_placed : (ds : List CDef) → types_are_built_in_order ds ≡ true → (i : ℕ) (d : CDef) → slice_get ds i ≡ Some d → PlacedDef ds i d
all_placed ds h i d e = each_placed ds [] ds i i d refl h e (omega arith)
