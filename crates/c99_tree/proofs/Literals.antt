-- The type of an array's compound literal.
use Rattle.std.proofs.Common.{◌≡◌, List, [], ◌∷◌, Bool, ◌&&◌, length, map, refl, arith}
use Rattle.std.specs.Prelude.{ℕ, nat_eq, Some}
use Rattle.std.specs.List.{list_all}
use Rattle.c99_tree.specs.declared.expr.CExpr.{CExpr}
use Rattle.c99_tree.specs.declared.types.CTy.TheVariants as ty
use Rattle.c99_tree.specs.declared.unit.Unit.{Unit as CUnit}
use Rattle.c99_tree.specs.Tree.{tree, exprs, arr}
use Rattle.c99_tree.specs.Words.{elem_type}
use Rattle.c99_tree.specs.Typing.{type_of, types_of, fits_in, where_true}

types_count : (u : CUnit) (all : List CExpr) → length (types_of u (exprs (map tree all))) ≡ length all
types_count u [] = refl
types_count u (e ∷ all) = let h = types_count u all in omega (arith, h)

-- by its two tests
pub array_type : (u : CUnit) (x : List ℕ) (n : ℕ) (all : List CExpr) (a b : Bool) → nat_eq (length all) n ≡ a → list_all (λ t. fits_in t (elem_type x)) (types_of u (exprs (map tree all))) ≡ b
    → type_of u (arr x n (exprs (map tree all))) ≡ where_true (a && b) (Some (ty.Array x n))
array_type u x n all a b h g = rw (types_count u all, h, g)
