-- How the bytes of a type are made of those of its parts.
use Rattle.std.proofs.Common.{◌≡◌, ℕ, zero, suc, ◌+◌, ◌*◌, ◌≤◌, List, Option, Some, None, refl, ap, ◌∙◌, arith}
use Rattle.std.specs.Prelude.{IsSome}
use Rattle.std.specs.Option.{option_map, option_and_then}
use Rattle.c99_tree.specs.declared.types.CScalar.{CScalar}
use Rattle.c99_tree.specs.declared.types.CScalar.TheVariants as c
use Rattle.c99_tree.specs.declared.types.CTy.{CTy}
use Rattle.c99_tree.specs.declared.types.CTy.TheVariants as ty
use Rattle.c99_tree.specs.declared.types.CVar.{CVar}
use Rattle.c99_tree.specs.declared.types.CDef.{CDef}
use Rattle.c99_tree.specs.Words.{elem_type}
use Rattle.c99_tree.specs.Lookup.{fields_of}
use Rattle.c99_tree.specs.Values.{Shape, Shapes, members, elements, shape_within, shapes_of_fields}
use Rattle.c99_tree.specs.Storage.{size_or_none, sizes_or_none, scalar_size}
use Rattle.c99_tree.proofs.Shapes.{shape_within-zero, shape-Array, shape-Struct}
use Rattle.c99_ast.specs.Bound.{up_to_bound}

scalar_size-small : (t : CScalar) → scalar_size t ≤ 8
scalar_size-small c.Bool = omega arith
scalar_size-small c.I8 = omega arith
scalar_size-small c.I16 = omega arith
scalar_size-small c.I32 = omega arith
scalar_size-small c.I64 = omega arith
scalar_size-small c.U8 = omega arith
scalar_size-small c.U16 = omega arith
scalar_size-small c.U32 = omega arith
scalar_size-small c.U64 = omega arith

pub size-Scalar : (n : ℕ) (ds : List CDef) (t : CScalar) → IsSome (shape_within n ds (ty.Scalar t)) → scalar_size t ≡ up_to_bound (size_or_none (shape_within n ds (ty.Scalar t)))
unfolding shape_within
size-Scalar zero ds t h = absurd (cc h)
size-Scalar (suc n) ds t h = omega (arith, scalar_size-small t)

size-elements : (k : ℕ) (o : Option Shape) → size_or_none (option_map (elements k) o) ≡ k * size_or_none o
size-elements k None = omega arith
size-elements k (Some s) = refl

pub size-Array : (n : ℕ) (ds : List CDef) (x : List ℕ) (k : ℕ) → size_or_none (shape_within n ds (ty.Array x k)) ≡ k * size_or_none (shape_within n ds (elem_type x))
size-Array zero ds x k = rw (shape_within-zero ds (ty.Array x k), shape_within-zero ds (elem_type x)) (omega arith)
size-Array (suc n) ds x k = ap size_or_none (shape-Array n ds x k) ∙ size-elements k (shape_within (suc n) ds (elem_type x))

pub bound-times : (k s : ℕ) → up_to_bound (k * up_to_bound s) ≡ up_to_bound (k * s)
bound-times zero s = omega arith
bound-times (suc k) s = grind arith

sizes-members : (o : Option Shapes) → size_or_none (option_map members o) ≡ sizes_or_none o
sizes-members None = refl
sizes-members (Some s) = refl

pub size-Struct : (n m : ℕ) (ds : List CDef) (x : List ℕ) (fields : List CVar) → n ≡ m + 1 → fields_of ds x ≡ Some fields → size_or_none (shape_within n ds (ty.Struct x)) ≡ sizes_or_none (shapes_of_fields (shape_within m ds) fields)
size-Struct zero m ds x fields h e = absurd (omega arith)
size-Struct (suc n) m ds x fields h e =
    let same : n ≡ m = omega arith in
    rw (← same) (ap size_or_none (shape-Struct n ds x fields e) ∙ sizes-members (shapes_of_fields (shape_within n ds) fields))

pub size-no_struct : (n : ℕ) (ds : List CDef) (x : List ℕ) → fields_of ds x ≡ None → size_or_none (shape_within n ds (ty.Struct x)) ≡ 0
unfolding shape_within
size-no_struct zero ds x e = refl
size-no_struct (suc n) ds x e = ap (λ (o : Option (List CVar)). size_or_none (option_and_then (λ (fs : List CVar). option_map members (shapes_of_fields (shape_within n ds) fs)) o)) e

pub size-no_depth : (n : ℕ) (ds : List CDef) (t : CTy) → n ≡ 0 → size_or_none (shape_within n ds t) ≡ 0
unfolding shape_within
size-no_depth zero ds t h = refl
size-no_depth (suc n) ds t h = absurd (omega arith)
