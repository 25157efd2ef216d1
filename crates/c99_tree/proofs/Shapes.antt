-- How the shape of a type is made of those of its parts.
use Rattle.std.proofs.Common.{◌≡◌, ℕ, zero, suc, ◌+◌, List, Option, Some, None, refl, ap, arith}
use Rattle.std.specs.Prelude.{IsSome}
use Rattle.std.specs.Option.{option_map, option_and_then, option_map_or}
use Rattle.std.specs.List.{find}
use Rattle.c99_tree.specs.declared.types.CScalar.{CScalar}
use Rattle.c99_tree.specs.declared.types.CTy.{CTy}
use Rattle.c99_tree.specs.declared.types.CTy.TheVariants as ty
use Rattle.c99_tree.specs.declared.types.CVar.{CVar}
use Rattle.c99_tree.specs.declared.types.CDef.{CDef}
use Rattle.c99_tree.specs.Words.{elem_type, word_of, is_same, scalars}
use Rattle.c99_tree.specs.Lookup.{fields_of}
use Rattle.c99_tree.specs.Values.{Shape, members, elements, shape_within, shape_over, shape_of_element, shapes_of_fields}
use Rattle.c99_tree.proofs.Optional.{map-some}

-- a type within one depth is made of types within one less
pub shape_within-suc : (n : ℕ) (ds : List CDef) (t : CTy) → shape_within (suc n) ds t ≡ shape_over (shape_within n ds) ds t
unfolding shape_within
shape_within-suc n ds t = refl

pub shape_within-zero : (ds : List CDef) (t : CTy) → shape_within 0 ds t ≡ None
unfolding shape_within
shape_within-zero ds t = refl

pub ruleset shapes_step = (shape_within-suc, shape_within-zero)

-- the shape of an array's element is that of the type that its word names
element-is : (f : CTy → Option Shape) (ds : List CDef) (x : List ℕ) (o : Option CScalar) → shape_of_element f ds (option_map_or ty.Scalar o (ty.Struct x)) ≡ shape_over f ds (option_map_or ty.Scalar o (ty.Struct x))
element-is f ds x None = refl
element-is f ds x (Some t) = refl

pub shape-Array : (n : ℕ) (ds : List CDef) (x : List ℕ) (k : ℕ) → shape_within (suc n) ds (ty.Array x k) ≡ option_map (elements k) (shape_within (suc n) ds (elem_type x))
unfolding shape_within
shape-Array n ds x k = ap (option_map (elements k)) (element-is (shape_within n ds) ds x (find (λ s. is_same (word_of s) x) scalars))

pub shaped-element : (n : ℕ) (ds : List CDef) (x : List ℕ) (k : ℕ) → IsSome (shape_within n ds (ty.Array x k)) → IsSome (shape_within n ds (elem_type x))
shaped-element zero ds x k h = absurd (cc (shape_within-zero ds (ty.Array x k), h))
shaped-element (suc n) ds x k h = map-some (elements k) (shape_within (suc n) ds (elem_type x)) (rw (shape-Array n ds x k) at h)

pub shape-Struct : (n : ℕ) (ds : List CDef) (x : List ℕ) (fields : List CVar) → fields_of ds x ≡ Some fields → shape_within (suc n) ds (ty.Struct x) ≡ option_map members (shapes_of_fields (shape_within n ds) fields)
unfolding shape_within
shape-Struct n ds x fields e = ap (option_and_then (λ (fs : List CVar). option_map members (shapes_of_fields (shape_within n ds) fs))) e

pub shaped-fields : (n m : ℕ) (ds : List CDef) (x : List ℕ) (fields : List CVar) → n ≡ m + 1 → fields_of ds x ≡ Some fields → IsSome (shape_within n ds (ty.Struct x)) → IsSome (shapes_of_fields (shape_within m ds) fields)
shaped-fields zero m ds x fields h e s = absurd (omega arith)
shaped-fields (suc n) m ds x fields h e s =
    let same : n ≡ m = omega arith in
    rw (← same) (map-some members (shapes_of_fields (shape_within n ds) fields) (rw (shape-Struct n ds x fields e) at s))

pub elem_type-Scalar : (x : List ℕ) (t : CScalar) → find (λ s. is_same (word_of s) x) scalars ≡ Some t → elem_type x ≡ ty.Scalar t
elem_type-Scalar x t e = ap (λ (o : Option CScalar). option_map_or ty.Scalar o (ty.Struct x)) e
