-- The resolved form of each expression and statement.
use Rattle.std.specs.Prelude.{◌+◌, List, [], ◌∷◌, map, Option, Some, None}
use Rattle.std.specs.Option.{option_map, option_map_or}
use Rattle.c99_tree.specs.declared.types.CScalar.{CScalar}
use Rattle.c99_tree.specs.declared.types.CScalar.TheVariants as t
use Rattle.c99_tree.specs.declared.types.CTy.{CTy}
use Rattle.c99_tree.specs.declared.types.CTy.TheVariants as ty
use Rattle.c99_tree.specs.declared.unit.Unit.{Unit as CUnit}
use Rattle.c99_tree.specs.Tree as tree
use Rattle.c99_tree.specs.Tree.{Expr, Exprs, Stmt, statements}
use Rattle.c99_tree.specs.Words.{elem_type}
use Rattle.c99_tree.specs.Lookup.{fields_of, ring_of, place_of_handler}
use Rattle.c99_tree.specs.Typing.{type_of, scalar_type, fields_in}
use Rattle.c99_tree.specs.Step.{params_of}
use Rattle.c_exec.specs.Codes.{Op, word, load, elem, un, bin, choose, conv, met, part, pick, chain, nothing, Act, copies, calls, nexts, stores, moves, puts}
use Rattle.c_exec.specs.Layout.{width_of, var_start, var_length, index_start, local_start, value_width, ring_length}

-- the scalar type of an expression that has one; one that has none stands nowhere where this is asked
abbrev pub scalar_of : CUnit → Expr → CScalar
scalar_of u e = option_map_or (λ s. s) (scalar_type (type_of u e)) t.I32

-- a value of a scalar type as an object of a type gets it
abbrev pub as_type : CTy → CScalar → Op → Op
as_type (ty.Scalar to) from a = conv from to a
as_type (ty.Struct x) from a = a
as_type (ty.Array x n) from a = a

abbrev pub as_settled : Option CTy → CScalar → Op → Op
as_settled (Some to) from a = as_type to from a
as_settled None from a = a

abbrev mutual
  pub code_of : CUnit → Expr → Op
  code_of u (tree.lit k n) = word n
  code_of u tree.yes = word 1
  code_of u tree.no = word 0
  code_of u (tree.copy x) = load (var_start u.types u.externs x) (var_length u.types u.externs x)
  code_of u (tree.head r) = load (index_start u r) 1
  code_of u (tree.cell r) = load (index_start u r + 1) (value_width u r)
  code_of u (tree.ring_at r a) = elem (index_start u r + 1) (value_width u r) (ring_length u r) (scalar_of u a) (code_of u a)
  code_of u (tree.un op a) = un op (scalar_of u a) (code_of u a)
  code_of u (tree.bin op a b) = bin op (scalar_of u a) (scalar_of u b) (code_of u a) (code_of u b)
  code_of u (tree.choose c a b) =
      choose (code_of u c) (as_settled (type_of u (tree.choose c a b)) (scalar_of u a) (code_of u a))
      (as_settled (type_of u (tree.choose c a b)) (scalar_of u b) (code_of u b))
  code_of u (tree.cast to a) = met (conv (scalar_of u a) to (code_of u a))
  code_of u (tree.field a x) =
      part (var_start u.types (fields_in u.types (type_of u a)) x) (var_length u.types (fields_in u.types (type_of u a)) x) (code_of u a)
  code_of u (tree.pick x n a i) = pick (width_of u.types (elem_type x)) n (code_of u a) (conv (scalar_of u i) t.U32 (code_of u i))
  code_of u (tree.arr x n all) = met (code_of_elements u (elem_type x) nothing all)
  code_of u (tree.rec x all) = met (code_of_values u (map (λ v. v.ty) (option_map_or (λ fields. fields) (fields_of u.types x) [])) nothing all)

  -- these one after another behind what stands before, each as an object of this type gets it
  pub code_of_elements : CUnit → CTy → Op → Exprs → Op
  code_of_elements u to before tree.none = before
  code_of_elements u to before (tree.more e es) = code_of_elements u to (chain before (as_type to (scalar_of u e) (code_of u e))) es

  -- the same, each as an object of the type at its place gets it
  pub code_of_values : CUnit → List CTy → Op → Exprs → Op
  code_of_values u ts before tree.none = before
  code_of_values u [] before (tree.more e es) = before
  code_of_values u (to ∷ ts) before (tree.more e es) = code_of_values u ts (chain before (as_type to (scalar_of u e) (code_of u e))) es

abbrev pub act_for : CUnit → Stmt → Act
act_for u (tree.copies x) = copies (var_start u.types u.externs x) (var_length u.types u.externs x)
act_for u (tree.calls h guard args) = calls (place_of_handler u h) (code_of u guard) (code_of_values u (params_of u h) nothing args)
act_for u (tree.nexts r e) = nexts (local_start u r) (as_settled (option_map (λ ring. ring.ty) (ring_of u r)) (scalar_of u e) (code_of u e))
act_for u (tree.stores r e) =
    stores (index_start u r + 1) (value_width u r) (ring_length u r) (scalar_of u e) (code_of u e) (local_start u r)
act_for u (tree.moves r e) = moves (index_start u r) (conv (scalar_of u e) t.U32 (code_of u e))
act_for u (tree.puts r) = puts (index_start u r + 1) (value_width u r) (local_start u r)

abbrev pub acts_for : CUnit → List Act
acts_for u = map (act_for u) (statements u)
