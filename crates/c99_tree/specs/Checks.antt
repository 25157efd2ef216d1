-- What is asked of each part of an expression beside its type. It serves the proofs that a program is well formed; no
-- public clause cites it.
use Rattle.std.specs.Prelude.{Bool, true, ◌&&◌, is_some, nat_le}
use Rattle.c99_tree.specs.declared.types.CTy.TheVariants as ty
use Rattle.c99_tree.specs.declared.unit.Unit.{Unit as CUnit}
use Rattle.std.specs.List.{list_all}
use Rattle.c99_tree.specs.Spelling.{height, most_height}
use Rattle.c99_tree.specs.Typing.{type_of}
use Rattle.c99_tree.specs.Tree.{Expr, Stmt, lit, yes, no, copy, head, cell, ring_at, un, bin, choose, cast, field, pick, arr, rec}
use Rattle.c99_tree.specs.Lookup.{var_of, is_defined}
use Rattle.c99_tree.specs.WellFormed.{has_names_part, is_in_range, reads_its_way, parts_of, expressions_in, has_names_statement, is_statement_there, has_all_arguments, is_scalar_where_asked, has_fitting_values, writes_its_way}

-- what a part names is there; of a member its type says so, and of a ring the way in which it is read
abbrev pub is_named_there : CUnit → Expr → Bool
is_named_there u (lit k n) = true
is_named_there u yes = true
is_named_there u no = true
is_named_there u (copy x) = is_some (var_of u.externs x)
is_named_there u (head r) = true
is_named_there u (cell r) = true
is_named_there u (ring_at r a) = true
is_named_there u (un op a) = true
is_named_there u (bin op a b) = true
is_named_there u (choose c a b) = true
is_named_there u (cast ty a) = true
is_named_there u (field a x) = true
is_named_there u (pick x n a i) = is_defined u.types (ty.Array x n)
is_named_there u (arr x n all) = is_defined u.types (ty.Array x n)
is_named_there u (rec x all) = is_defined u.types (ty.Struct x)

-- a part that is named well, there, in range, and read as its ring is
abbrev pub is_sound_part : CUnit → Expr → Bool
is_sound_part u e = has_names_part e && is_named_there u e && is_in_range e && reads_its_way u e

-- an expression that has a type, and sound parts
abbrev pub is_sound_expression : CUnit → Expr → Bool
is_sound_expression u e = nat_le (height e) most_height && is_some (type_of u e) && list_all (is_sound_part u) (parts_of e)

abbrev pub are_sound_expressions : CUnit → Stmt → Bool
are_sound_expressions u s = list_all (is_sound_expression u) (expressions_in s)

-- a statement that is named well, there, of sound expressions that fit their places, and writes as its ring is written
abbrev pub is_sound_statement : CUnit → Stmt → Bool
is_sound_statement u s =
    has_names_statement s && is_statement_there u s && are_sound_expressions u s && has_all_arguments u s
    && is_scalar_where_asked u s && has_fitting_values u s && writes_its_way u s
