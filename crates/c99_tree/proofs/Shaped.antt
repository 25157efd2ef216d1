-- Types that are defined before their use have a shape.
use Rattle.std.proofs.Common.{◌≡◌, ℕ, zero, suc, ◌+◌, List, [], ◌∷◌, ◌++◌, length, length-append, Bool, true, false, ◌||◌, ◌&&◌, cond, append_assoc, Option, Some, None, refl, sym, ap, ◌∙◌, subst, arith}
use Rattle.std.specs.Prelude.{IsSome, is_some, IsTrue, nat_eq}
use Rattle.std.specs.Option.{option_map, option_and_then, option_or}
use Rattle.std.specs.List.{find, list_any, list_all}
use Rattle.std.proofs.lemmas.Bool.{and_parts, or_parts}
use Rattle.std.proofs.lemmas.List.Elements.{filter_map-append}
use Rattle.std.proofs.lemmas.List.Folds.{list_any-append, find-append}
use Rattle.c99_tree.specs.declared.types.CScalar.{CScalar}
use Rattle.c99_tree.specs.declared.types.CTy.{CTy}
use Rattle.c99_tree.specs.declared.types.CTy.TheVariants as ty
use Rattle.c99_tree.specs.declared.types.CVar.{CVar}
use Rattle.c99_tree.specs.declared.types.CDef.{CDef}
use Rattle.c99_tree.specs.declared.types.CDef.TheVariants as def
use Rattle.c99_tree.specs.declared.unit.CRing.{CRing}
use Rattle.c99_tree.specs.declared.unit.Unit.{Unit as CUnit}
use Rattle.c99_tree.specs.Words.{elem_type, is_same}
use Rattle.c99_tree.specs.Lookup.{fields_of, structs_in, arrays_in, named_struct, named_array, is_array, is_defined}
use Rattle.c99_tree.specs.Values.{Shape, members, elements, and_shape, shape_within, shape_over, shape_of, shape_of_struct, shape_of_element, shapes_of_fields}
use Rattle.c99_tree.specs.WellFormed.{is_built_from, each_after, types_are_built_in_order, types_come_first}
use Rattle.c99_tree.proofs.Optional.{map-some, some-map, both-some, some-both}
use Rattle.c99_tree.proofs.Shapes.{shape_within-suc, shape_within-zero, shape-Array, shape-Struct}
use Rattle.sm_io.proofs.Truths.{both_pass}

-- ---- a deeper look finds no fewer shapes

fields-grow : (f g : CTy → Option Shape) → ((t : CTy) → IsSome (f t) → IsSome (g t)) → (xs : List CVar) → IsSome (shapes_of_fields f xs) → IsSome (shapes_of_fields g xs)
fields-grow f g m [] h = refl
fields-grow f g m (x ∷ xs) h =
    let p = both-some and_shape (f x.ty) (shapes_of_fields f xs) h in
    some-both and_shape (g x.ty) (shapes_of_fields g xs) (m x.ty p.0) (fields-grow f g m xs p.1)

found-grow : (f g : CTy → Option Shape) → ((t : CTy) → IsSome (f t) → IsSome (g t)) → (o : Option (List CVar))
    → IsSome (option_and_then (λ fields. option_map members (shapes_of_fields f fields)) o)
    → IsSome (option_and_then (λ fields. option_map members (shapes_of_fields g fields)) o)
found-grow f g m None h = absurd (cc h)
found-grow f g m (Some xs) h = some-map members (shapes_of_fields g xs) (fields-grow f g m xs (map-some members (shapes_of_fields f xs) h))

struct-grow : (f g : CTy → Option Shape) → ((t : CTy) → IsSome (f t) → IsSome (g t)) → (ds : List CDef) (x : List ℕ) → IsSome (shape_of_struct f ds x) → IsSome (shape_of_struct g ds x)
struct-grow f g m ds x h = found-grow f g m (fields_of ds x) h

element-grow : (f g : CTy → Option Shape) → ((t : CTy) → IsSome (f t) → IsSome (g t)) → (ds : List CDef) (t : CTy) → IsSome (shape_of_element f ds t) → IsSome (shape_of_element g ds t)
element-grow f g m ds (ty.Scalar t) h = refl
element-grow f g m ds (ty.Struct x) h = struct-grow f g m ds x h
element-grow f g m ds (ty.Array x n) h = absurd (cc h)

over-grow : (f g : CTy → Option Shape) → ((t : CTy) → IsSome (f t) → IsSome (g t)) → (ds : List CDef) (t : CTy) → IsSome (shape_over f ds t) → IsSome (shape_over g ds t)
over-grow f g m ds (ty.Scalar t) h = refl
over-grow f g m ds (ty.Struct x) h = struct-grow f g m ds x h
over-grow f g m ds (ty.Array x n) h =
    some-map (elements n) (shape_of_element g ds (elem_type x)) (element-grow f g m ds (elem_type x) (map-some (elements n) (shape_of_element f ds (elem_type x)) h))

within-grow : (n : ℕ) (ds : List CDef) (t : CTy) → IsSome (shape_within n ds t) → IsSome (shape_within (suc n) ds t)
within-grow zero ds t h = absurd (cc (shape_within-zero ds t, h))
within-grow (suc n) ds t h =
    rw (shape_within-suc (suc n) ds t) (over-grow (shape_within n ds) (shape_within (suc n) ds) (within-grow n ds) ds t (rw (shape_within-suc n ds t) at h))

-- ---- the types of a list, from the front

-- each type that these definitions define has a shape among all definitions
record Covers (ds before : List CDef) : Type 0 where
  shaped : (t : CTy) → is_defined before t ≡ true → IsSome (shape_within (length before + 1) ds t)

scalar-shaped : (n : ℕ) (ds : List CDef) (t : CScalar) → IsSome (shape_within (suc n) ds (ty.Scalar t))
scalar-shaped n ds t = rw (shape_within-suc n ds (ty.Scalar t)) refl

fields-defined : (f : CTy → Option Shape) (before : List CDef) → ((t : CTy) → is_defined before t ≡ true → IsSome (f t))
    → (xs : List CVar) → list_all (λ v. is_defined before v.ty) xs ≡ true → IsSome (shapes_of_fields f xs)
fields-defined f before m [] h = refl
fields-defined f before m (x ∷ xs) h =
    let p = and_parts (is_defined before x.ty) (list_all (λ v. is_defined before v.ty) xs) h in
    some-both and_shape (f x.ty) (shapes_of_fields f xs) (m x.ty p.0) (fields-defined f before m xs p.1)

pub same-eq : (x y : List ℕ) → is_same x y ≡ true → x ≡ y
same-eq [] [] h = refl
same-eq [] (b ∷ y) h = absurd (cc h)
same-eq (a ∷ x) [] h = absurd (cc h)
same-eq (a ∷ x) (b ∷ y) h =
    let p = and_parts (nat_eq a b) (is_same x y) h in
    let heads : a ≡ b = grind (arith, p.0) in
    let tails = same-eq x y p.1 in
    cc (heads, tails)

find_past : {X : Type 0} (b : Bool) (x : X) (o : Option X) → b ≡ false → o ≡ None → cond b (Some x) o ≡ None
find_past true x o h g = absurd (cc h)
find_past false x o h g = g

no_find : {X : Type 0} (p : X → Bool) (xs : List X) → list_any p xs ≡ false → find p xs ≡ None
no_find p [] h = refl
no_find p (x ∷ xs) h = let q = or_parts (p x) (list_any p xs) h in find_past (p x) x (find p xs) q.0 (no_find p xs q.1)

cond_true : {X : Type 0} (b : Bool) (x y : X) → b ≡ true → cond b x y ≡ x
cond_true true x y h = refl
cond_true false x y h = absurd (cc h)

or_none : {X : Type 0} (o p : Option X) (x : X) → o ≡ None → p ≡ Some x → option_or o p ≡ Some x
or_none o p x h g = rw (h, g)

-- the first struct of a name stands here, where none before has it
first_struct : (before rest : List CDef) (x y : List ℕ) (fields : List CVar) → list_any (λ s. is_same x s.0) (structs_in before) ≡ false → is_same x y ≡ true
    → fields_of (before ++ def.Struct y fields ∷ rest) x ≡ Some fields
first_struct before rest x y fields past here =
    let parts : structs_in (before ++ def.Struct y fields ∷ rest) ≡ structs_in before ++ (y, fields) ∷ structs_in rest = filter_map-append named_struct before (def.Struct y fields ∷ rest) in
    let first : find (λ (s : List ℕ × List CVar). is_same x s.0) ((y, fields) ∷ structs_in rest) ≡ Some (y, fields) = cond_true (is_same x y) (Some (y, fields)) (find (λ (s : List ℕ × List CVar). is_same x s.0) (structs_in rest)) here in
    let found : find (λ (s : List ℕ × List CVar). is_same x s.0) (structs_in before ++ (y, fields) ∷ structs_in rest) ≡ Some (y, fields) =
    find-append (λ (s : List ℕ × List CVar). is_same x s.0) (structs_in before) ((y, fields) ∷ structs_in rest)
    ∙ or_none (find (λ (s : List ℕ × List CVar). is_same x s.0) (structs_in before)) (find (λ (s : List ℕ × List CVar). is_same x s.0) ((y, fields) ∷ structs_in rest)) (y, fields) (no_find (λ (s : List ℕ × List CVar). is_same x s.0) (structs_in before) past) first in
    ap (λ (ss : List (List ℕ × List CVar)). option_map (λ (s : List ℕ × List CVar). s.1) (find (λ (s : List ℕ × List CVar). is_same x s.0) ss)) parts ∙ ap (option_map (λ (s : List ℕ × List CVar). s.1)) found

-- a struct that is defined here, of types that are defined before
struct-shaped : (ds before rest : List CDef) (x y : List ℕ) (fields : List CVar) → ds ≡ before ++ def.Struct y fields ∷ rest → Covers ds before
    → list_any (λ s. is_same x s.0) (structs_in before) ≡ false → is_same x y ≡ true → list_all (λ v. is_defined before v.ty) fields ≡ true
    → IsSome (shape_within (suc (length before + 1)) ds (ty.Struct x))
struct-shaped ds before rest x y fields is covers past here all =
    let found : fields_of ds x ≡ Some fields = rw is (first_struct before rest x y fields past here) in
    rw (shape-Struct (length before + 1) ds x fields found)
    (some-map members (shapes_of_fields (shape_within (length before + 1) ds) fields) (fields-defined (shape_within (length before + 1) ds) before covers.shaped fields all))

struct-covered : (ds before : List CDef) (d : CDef) (rest : List CDef) (x : List ℕ) → ds ≡ before ++ d ∷ rest → Covers ds before → is_built_from before d ≡ true
    → (b : Bool) → list_any (λ s. is_same x s.0) (structs_in before) ≡ b → (b || list_any (λ s. is_same x s.0) (structs_in (d ∷ []))) ≡ true
    → IsSome (shape_within (suc (length before + 1)) ds (ty.Struct x))
struct-covered ds before d rest x is covers built true e h = within-grow (length before + 1) ds (ty.Struct x) (covers.shaped (ty.Struct x) e)
struct-covered ds before (def.Struct y fields) rest x is covers built false e h =
    struct-shaped ds before rest x y fields is covers e (or_right (is_same x y) h) built
  where
    or_right : (a : Bool) → (a || false) ≡ true → a ≡ true
    or_right true g = refl
    or_right false g = g
struct-covered ds before (def.Array y k) rest x is covers built false e h = absurd (cc h)

array-covered : (ds before : List CDef) (d : CDef) (x : List ℕ) (n : ℕ) → Covers ds before → is_built_from before d ≡ true
    → (b : Bool) → list_any (is_array x n) (arrays_in before) ≡ b → (b || list_any (is_array x n) (arrays_in (d ∷ []))) ≡ true
    → IsSome (shape_within (suc (length before + 1)) ds (ty.Array x n))
array-covered ds before d x n covers built true e h = within-grow (length before + 1) ds (ty.Array x n) (covers.shaped (ty.Array x n) e)
array-covered ds before (def.Struct y fields) x n covers built false e h = absurd (cc h)
array-covered ds before (def.Array y k) x n covers built false e h =
    let both : (is_same x y && nat_eq n k) ≡ true = or_right (is_same x y && nat_eq n k) h in
    let same : x ≡ y = same-eq x y (and_parts (is_same x y) (nat_eq n k) both).0 in
    let elem : IsSome (shape_within (length before + 1) ds (elem_type x)) = covers.shaped (elem_type x) (rw same built) in
    rw (shape-Array (length before + 1) ds x n) (some-map (elements n) (shape_within (suc (length before + 1)) ds (elem_type x)) (within-grow (length before + 1) ds (elem_type x) elem))
  where
    or_right : (a : Bool) → (a || false) ≡ true → a ≡ true
    or_right true g = refl
    or_right false g = g

deeper : (n m : ℕ) (ds : List CDef) (t : CTy) → m ≡ suc n → IsSome (shape_within (suc n) ds t) → IsSome (shape_within m ds t)
deeper n m ds t e h = rw e h

longer : (before : List CDef) (d : CDef) → length (before ++ d ∷ []) + 1 ≡ suc (length before + 1)
longer before d = omega (arith, length-append before (d ∷ []))

covered : (ds before : List CDef) (d : CDef) (rest : List CDef) → ds ≡ before ++ d ∷ rest → Covers ds before → is_built_from before d ≡ true
    → (t : CTy) → is_defined (before ++ d ∷ []) t ≡ true → IsSome (shape_within (length (before ++ d ∷ []) + 1) ds t)
covered ds before d rest is covers built (ty.Scalar t) h =
    deeper (length before + 1) (length (before ++ d ∷ []) + 1) ds (ty.Scalar t) (longer before d) (scalar-shaped (length before + 1) ds t)
covered ds before d rest is covers built (ty.Struct x) h =
    let split = ap (list_any (λ (s : List ℕ × List CVar). is_same x s.0)) (filter_map-append named_struct before (d ∷ [])) ∙ list_any-append (λ (s : List ℕ × List CVar). is_same x s.0) (structs_in before) (structs_in (d ∷ [])) in
    deeper (length before + 1) (length (before ++ d ∷ []) + 1) ds (ty.Struct x) (longer before d)
    (struct-covered ds before d rest x is covers built (list_any (λ s. is_same x s.0) (structs_in before)) refl (sym split ∙ h))
covered ds before d rest is covers built (ty.Array x n) h =
    let split = ap (list_any (is_array x n)) (filter_map-append named_array before (d ∷ [])) ∙ list_any-append (is_array x n) (arrays_in before) (arrays_in (d ∷ [])) in
    deeper (length before + 1) (length (before ++ d ∷ []) + 1) ds (ty.Array x n) (longer before d)
    (array-covered ds before d x n covers built (list_any (is_array x n) (arrays_in before)) refl (sym split ∙ h))

covers-none : (ds : List CDef) (t : CTy) → is_defined [] t ≡ true → IsSome (shape_within (length {A = CDef} [] + 1) ds t)
covers-none ds (ty.Scalar t) h = scalar-shaped 0 ds t
covers-none ds (ty.Struct x) h = absurd (cc h)
covers-none ds (ty.Array x n) h = absurd (cc h)

covers-all : (ds before rest : List CDef) → ds ≡ before ++ rest → Covers ds before → each_after is_built_from before rest ≡ true → Covers ds ds
covers-all ds before [] is covers h = subst (Covers ds) (sym (is ∙ append_none before)) covers
  where
    append_none : (xs : List CDef) → xs ++ [] ≡ xs
    append_none [] = refl
    append_none (x ∷ xs) = ap (λ (ys : List CDef). x ∷ ys) (append_none xs)
covers-all ds before (d ∷ rest) is covers h =
    let p = and_parts (is_built_from before d) (each_after is_built_from (before ++ d ∷ []) rest) h in
    covers-all ds (before ++ d ∷ []) rest (is ∙ simp append_assoc) (record { shaped = covered ds before d rest is covers p.0 }) p.1

-- a type that stands among definitions in order has a shape
pub shape_of-defined : (ds : List CDef) → types_are_built_in_order ds ≡ true → (t : CTy) → is_defined ds t ≡ true → IsSome (shape_of ds t)
shape_of-defined ds h t d = (covers-all ds [] ds refl (record { shaped = covers-none ds }) h).shaped t d

all-shaped : {X : Type 0} (ds : List CDef) (f : X → CTy) (xs : List X) → types_are_built_in_order ds ≡ true → list_all (λ x. is_defined ds (f x)) xs ≡ true → list_all (λ x. is_some (shape_of ds (f x))) xs ≡ true
all-shaped ds f [] h g = refl
all-shaped ds f (x ∷ xs) h g =
    let p = and_parts (is_defined ds (f x)) (list_all (λ y. is_defined ds (f y)) xs) g in
    both_pass (is_some (shape_of ds (f x))) (list_all (λ y. is_some (shape_of ds (f y))) xs) (shape_of-defined ds h (f x) p.0) (all-shaped ds f xs h p.1)

-- the four parts of the rule that types come first
parts : (a b c d : Bool) → (a && b && c && d) ≡ true → (a ≡ true) × (b ≡ true) × (c ≡ true) × (d ≡ true)
parts true true true true h = (refl, refl, refl, refl)
parts true true true false h = absurd (cc h)
parts true true false d h = absurd (cc h)
parts true false c d h = absurd (cc h)
parts false b c d h = absurd (cc h)

come_first : (u : CUnit) → IsTrue (types_come_first u) → (types_are_built_in_order u.types ≡ true) × (list_all (λ x. is_defined u.types x.ty) u.externs ≡ true) × (list_all (λ h. list_all (is_defined u.types) h.params) u.handlers ≡ true) × (list_all (λ r. is_defined u.types r.ty) u.rings ≡ true)
come_first u h = parts (types_are_built_in_order u.types) (list_all (λ x. is_defined u.types x.ty) u.externs) (list_all (λ h. list_all (is_defined u.types) h.params) u.handlers) (list_all (λ r. is_defined u.types r.ty) u.rings) h

pub rings_shaped : (u : CUnit) → IsTrue (types_come_first u) → IsTrue (list_all (λ r. is_some (shape_of u.types r.ty)) u.rings)
rings_shaped u h = let p = come_first u h in all-shaped u.types (λ (r : CRing). r.ty) u.rings p.0 p.3

pub externs_shaped : (u : CUnit) → IsTrue (types_come_first u) → IsTrue (list_all (λ x. is_some (shape_of u.types x.ty)) u.externs)
externs_shaped u h = let p = come_first u h in all-shaped u.types (λ (x : CVar). x.ty) u.externs p.0 p.1
