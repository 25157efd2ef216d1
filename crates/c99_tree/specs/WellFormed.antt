-- When a program is well formed: sixteen rules, each a definition of its own.
-- Sections are those of ISO/IEC 9899:1999; a rule without one is this subset's own.
use Rattle.std.specs.Prelude.{ℕ, Bool, true, false, not, ◌&&◌, ◌||◌, nat_le, nat_eq, List, [], ◌∷◌, ◌++◌, map, length, Option, Some, None, is_some, IsTrue}
use Rattle.std.specs.List.{flat_map, filter_map, list_all, list_any}
use Rattle.std.specs.Option.{option_map_or}
use Rattle.sm_io.specs.Words.{is_name}
use Rattle.c99_tree.specs.declared.types.CScalar.TheVariants as t
use Rattle.c99_tree.specs.declared.types.CTy.{CTy}
use Rattle.c99_tree.specs.declared.types.CTy.TheVariants as ty
use Rattle.c99_tree.specs.declared.types.CVar.{CVar}
use Rattle.c99_tree.specs.declared.types.CDef.{CDef}
use Rattle.c99_tree.specs.declared.types.CDef.TheVariants as def
use Rattle.c99_tree.specs.declared.types.CProto.{CProto}
use Rattle.c99_tree.specs.declared.unit.CRing.{CRing}
use Rattle.c99_tree.specs.declared.unit.Unit.{Unit as CUnit}
use Rattle.c99_tree.specs.Tree.{Expr, Exprs, lit, yes, no, copy, head, cell, ring_at, un, bin, choose, cast, field, pick, arr, rec, none, more, Stmt, copies, calls, nexts, stores, moves, puts, statements}
use Rattle.c99_tree.specs.Words.{is_same, is_ring_name, is_element, elem_type}
use Rattle.c99_tree.specs.Lookup.{structs_in, arrays_in, is_defined, var_of, ring_of, handler_of}
use Rattle.c99_tree.specs.Values.{first_values}
use Rattle.c99_tree.specs.Storage.{storage_of}
use Rattle.c99_tree.specs.Spelling.{most, height, most_height, constant_height}
use Rattle.c99_tree.specs.Typing.{type_of, types_of, fits_in, is_scalar_type, fields_in}
use Rattle.c99_tree.specs.Weight.{unit_weight_of}

-- ---- the parts of a program

abbrev mutual
  -- an expression and all expressions in it
  pub parts_of : Expr → List Expr
  parts_of (lit k n) = lit k n ∷ []
  parts_of yes = yes ∷ []
  parts_of no = no ∷ []
  parts_of (copy x) = copy x ∷ []
  parts_of (head r) = head r ∷ []
  parts_of (cell r) = cell r ∷ []
  parts_of (ring_at r a) = ring_at r a ∷ parts_of a
  parts_of (un op a) = un op a ∷ parts_of a
  parts_of (bin op a b) = bin op a b ∷ (parts_of a ++ parts_of b)
  parts_of (choose c a b) = choose c a b ∷ (parts_of c ++ (parts_of a ++ parts_of b))
  parts_of (cast ty a) = cast ty a ∷ parts_of a
  parts_of (field a x) = field a x ∷ parts_of a
  parts_of (pick x n a i) = pick x n a i ∷ (parts_of a ++ parts_of i)
  parts_of (arr x n all) = arr x n all ∷ parts_of_all all
  parts_of (rec x all) = rec x all ∷ parts_of_all all

  pub parts_of_all : Exprs → List Expr
  parts_of_all none = []
  parts_of_all (more e es) = parts_of e ++ parts_of_all es

abbrev pub list_of : Exprs → List Expr
list_of none = []
list_of (more e es) = e ∷ list_of es

-- the expressions that stand in a statement
abbrev pub expressions_in : Stmt → List Expr
expressions_in (copies x) = []
expressions_in (calls h guard args) = guard ∷ list_of args
expressions_in (nexts r e) = e ∷ []
expressions_in (stores r e) = e ∷ []
expressions_in (moves r e) = e ∷ []
expressions_in (puts r) = []

-- these and all expressions in them
abbrev pub parts_in : Stmt → List Expr
parts_in s = flat_map parts_of (expressions_in s)

-- every part of the step passes
abbrev pub each_part : (Expr → Bool) → CUnit → Bool
each_part p u = list_all (λ s. list_all p (parts_in s)) (statements u)

abbrev pub each_statement : (Stmt → Bool) → CUnit → Bool
each_statement p u = list_all p (statements u)

-- every element passes beside those that stand before it
abbrev pub each_after : {X : Type 0} → (List X → X → Bool) → List X → List X → Bool
each_after p before [] = true
each_after p before (x ∷ xs) = p before x && each_after p (before ++ x ∷ []) xs

-- no two elements are alike
abbrev pub are_distinct : {X : Type 0} → (X → X → Bool) → List X → Bool
are_distinct alike [] = true
are_distinct alike (x ∷ xs) = not (list_any (alike x) xs) && are_distinct alike xs

-- ---- each name is a name, a ring's also a decimal from 1 on, and an element's word also a scalar's

abbrev pub has_names_type : CTy → Bool
has_names_type (ty.Scalar t) = true
has_names_type (ty.Struct x) = is_name x
has_names_type (ty.Array x n) = is_element x

abbrev pub has_names_var : CVar → Bool
has_names_var x = is_name x.name && has_names_type x.ty

abbrev pub has_names_def : CDef → Bool
has_names_def (def.Struct x fields) = is_name x && list_all has_names_var fields
has_names_def (def.Array x n) = is_element x

abbrev pub has_names_handler : CProto → Bool
has_names_handler h = is_name h.name && list_all has_names_type h.params

abbrev pub has_names_ring : CRing → Bool
has_names_ring r = is_ring_name r.name && has_names_type r.ty

abbrev pub has_names_part : Expr → Bool
has_names_part (lit k n) = true
has_names_part yes = true
has_names_part no = true
has_names_part (copy x) = is_name x
has_names_part (head r) = is_ring_name r
has_names_part (cell r) = is_ring_name r
has_names_part (ring_at r a) = is_ring_name r
has_names_part (un op a) = true
has_names_part (bin op a b) = true
has_names_part (choose c a b) = true
has_names_part (cast ty a) = true
has_names_part (field a x) = is_name x
has_names_part (pick x n a i) = is_element x
has_names_part (arr x n all) = is_element x
has_names_part (rec x all) = is_name x

abbrev pub has_names_statement : Stmt → Bool
has_names_statement (copies x) = is_name x
has_names_statement (calls h guard args) = is_name h
has_names_statement (nexts r e) = is_ring_name r
has_names_statement (stores r e) = is_ring_name r
has_names_statement (moves r e) = is_ring_name r
has_names_statement (puts r) = is_ring_name r

abbrev pub names_are_names : CUnit → Bool
names_are_names u =
    is_name u.name && list_all has_names_def u.types && list_all has_names_var u.externs
    && list_all has_names_handler u.handlers && list_all has_names_ring u.rings
    && each_statement has_names_statement u && each_part has_names_part u

-- ---- no two names of one space are equal (6.2.3, 6.7): the structs, the members of one struct, the array types,
-- the rings, and the externs and handlers together

abbrev pub are_distinct_fields : CDef → Bool
are_distinct_fields (def.Struct x fields) = are_distinct is_same (map (λ v. v.name) fields)
are_distinct_fields (def.Array x n) = true

-- each struct and each array type is defined once
abbrev pub types_are_distinct : List CDef → Bool
types_are_distinct ds =
    are_distinct is_same (map (λ s. s.0) (structs_in ds))
    && are_distinct (λ a b. is_same a.0 b.0 && nat_eq a.1 b.1) (arrays_in ds)

abbrev pub names_are_distinct : CUnit → Bool
names_are_distinct u =
    types_are_distinct u.types && list_all are_distinct_fields u.types
    && are_distinct is_same (map (λ r. r.name) u.rings)
    && are_distinct is_same (map (λ x. x.name) u.externs ++ map (λ h. h.name) u.handlers)

-- ---- a type is defined before its use (6.7.2.1 paragraph 2, 6.7.2.3)

-- each type that a definition is made of stands among those before it
abbrev pub is_built_from : List CDef → CDef → Bool
is_built_from before (def.Struct x fields) = list_all (λ v. is_defined before v.ty) fields
is_built_from before (def.Array x n) = is_defined before (elem_type x)

abbrev pub types_are_built_in_order : List CDef → Bool
types_are_built_in_order ds = each_after is_built_from [] ds

-- the externs, handlers and rings stand behind all types
abbrev pub types_come_first : CUnit → Bool
types_come_first u =
    types_are_built_in_order u.types && list_all (λ x. is_defined u.types x.ty) u.externs
    && list_all (λ h. list_all (is_defined u.types) h.params) u.handlers && list_all (λ r. is_defined u.types r.ty) u.rings

-- ---- what a statement or an expression names is there (6.5.1, 6.5.2.3)

abbrev pub is_there : CUnit → Expr → Bool
is_there u (lit k n) = true
is_there u yes = true
is_there u no = true
is_there u (copy x) = is_some (var_of u.externs x)
is_there u (head r) = is_some (ring_of u r)
is_there u (cell r) = is_some (ring_of u r)
is_there u (ring_at r a) = is_some (ring_of u r)
is_there u (un op a) = true
is_there u (bin op a b) = true
is_there u (choose c a b) = true
is_there u (cast ty a) = true
is_there u (field a x) = is_some (var_of (fields_in u.types (type_of u a)) x)
is_there u (pick x n a i) = is_defined u.types (ty.Array x n)
is_there u (arr x n all) = is_defined u.types (ty.Array x n)
is_there u (rec x all) = is_defined u.types (ty.Struct x)

abbrev pub is_statement_there : CUnit → Stmt → Bool
is_statement_there u (copies x) = is_some (var_of u.externs x)
is_statement_there u (calls h guard args) = is_some (handler_of u h)
is_statement_there u (nexts r e) = is_some (ring_of u r)
is_statement_there u (stores r e) = is_some (ring_of u r)
is_statement_there u (moves r e) = is_some (ring_of u r)
is_statement_there u (puts r) = is_some (ring_of u r)

abbrev pub used_things_are_there : CUnit → Bool
used_things_are_there u = each_statement (is_statement_there u) u && each_part (is_there u) u

-- ---- each struct has 1 to 64 members

abbrev pub has_few_fields : CDef → Bool
has_few_fields (def.Struct x fields) = nat_le 1 (length fields) && nat_le (length fields) 64
has_few_fields (def.Array x n) = true

abbrev pub structs_have_fields : CUnit → Bool
structs_have_fields u = list_all has_few_fields u.types

-- ---- a literal is in the range of its type (6.4.4.1 paragraph 5)

abbrev pub is_in_range : Expr → Bool
is_in_range (lit k n) = nat_le n (most k)
is_in_range _ = true

abbrev pub literals_are_in_range : CUnit → Bool
literals_are_in_range u = each_part is_in_range u

-- ---- a ring has one constant for each word of its values, each in the range of its type

abbrev pub rings_are_filled : CUnit → Bool
rings_are_filled u = list_all (λ r. is_some (first_values u.types r)) u.rings

-- ---- each expression has a type

abbrev pub expressions_have_types : CUnit → Bool
expressions_have_types u = each_part (λ e. is_some (type_of u e)) u

-- ---- a call has as many arguments as its handler has parameters (6.5.2.2 paragraph 2)

abbrev pub has_all_arguments : CUnit → Stmt → Bool
has_all_arguments u (calls h guard args) = option_map_or (λ p. nat_eq (length (list_of args)) (length p.params)) (handler_of u h) false
has_all_arguments u _ = true

abbrev pub calls_have_all_arguments : CUnit → Bool
calls_have_all_arguments u = each_statement (has_all_arguments u) u

-- ---- a guard and a subscript are scalar (6.8.4.1 paragraph 1, 6.5.2.1 paragraph 1)

abbrev pub is_scalar_expr : CUnit → Expr → Bool
is_scalar_expr u e = option_map_or is_scalar_type (type_of u e) false

abbrev pub has_scalar_subscript : CUnit → Expr → Bool
has_scalar_subscript u (ring_at r a) = is_scalar_expr u a
has_scalar_subscript u (pick x n a i) = is_scalar_expr u i
has_scalar_subscript u _ = true

abbrev pub is_scalar_where_asked : CUnit → Stmt → Bool
is_scalar_where_asked u (calls h guard args) = is_scalar_expr u guard
is_scalar_where_asked u (stores r e) = is_scalar_expr u e
is_scalar_where_asked u _ = true

abbrev pub guards_and_subscripts_are_scalar : CUnit → Bool
guards_and_subscripts_are_scalar u = each_statement (is_scalar_where_asked u) u && each_part (has_scalar_subscript u) u

-- ---- an argument fits its parameter, the value of a Next its ring, and the value of a Move the index; scalars
-- convert (6.5.16.1 paragraph 1, 6.5.2.2 paragraph 2)

-- each fits the type at its place, as far as both lists go
abbrev pub fit_params : List (Option CTy) → List CTy → Bool
fit_params [] ts = true
fit_params (a ∷ all) [] = true
fit_params (a ∷ all) (t ∷ ts) = fits_in a t && fit_params all ts

abbrev pub has_fitting_values : CUnit → Stmt → Bool
has_fitting_values u (copies x) = true
has_fitting_values u (calls h guard args) = option_map_or (λ p. fit_params (types_of u args) p.params) (handler_of u h) false
has_fitting_values u (nexts r e) = option_map_or (λ ring. fits_in (type_of u e) ring.ty) (ring_of u r) false
has_fitting_values u (stores r e) = true
has_fitting_values u (moves r e) = fits_in (type_of u e) (ty.Scalar t.U32)
has_fitting_values u (puts r) = true

abbrev pub values_fit : CUnit → Bool
values_fit u = each_statement (has_fitting_values u) u

-- ---- an extern is copied before its copy is read

abbrev pub is_copy_of : List ℕ → Stmt → Bool
is_copy_of x (copies y) = is_same x y
is_copy_of x _ = false

abbrev pub is_read_after_copy : List Stmt → Expr → Bool
is_read_after_copy before (copy x) = list_any (is_copy_of x) before
is_read_after_copy before _ = true

abbrev pub copies_come_first : CUnit → Bool
copies_come_first u = each_after (λ before s. list_all (is_read_after_copy before) (parts_in s)) [] (statements u)

-- ---- a ring has at most one Next, and its Stores and Puts stand after it. With an index a ring is read by its
-- elements and its index alone, and written by Store and Move alone. Without one it has length 1, is read by its cell
-- alone, and written by Put alone

abbrev pub next_of : Stmt → Option (List ℕ)
next_of (nexts r e) = Some r
next_of _ = None

abbrev pub is_next_of : List ℕ → Stmt → Bool
is_next_of r s = option_map_or (is_same r) (next_of s) false

abbrev pub is_written_after_next : List Stmt → Stmt → Bool
is_written_after_next before (stores r e) = list_any (is_next_of r) before
is_written_after_next before (puts r) = list_any (is_next_of r) before
is_written_after_next before _ = true

abbrev pub has_index : CUnit → List ℕ → Bool
has_index u r = option_map_or (λ ring. ring.indexed) (ring_of u r) false

abbrev pub has_no_index : CUnit → List ℕ → Bool
has_no_index u r = option_map_or (λ ring. not ring.indexed) (ring_of u r) false

abbrev pub reads_its_way : CUnit → Expr → Bool
reads_its_way u (head r) = has_index u r
reads_its_way u (ring_at r a) = has_index u r
reads_its_way u (cell r) = has_no_index u r
reads_its_way u _ = true

abbrev pub writes_its_way : CUnit → Stmt → Bool
writes_its_way u (stores r e) = has_index u r
writes_its_way u (moves r e) = has_index u r
writes_its_way u (puts r) = has_no_index u r
writes_its_way u _ = true

abbrev pub rings_are_used_their_way : CUnit → Bool
rings_are_used_their_way u =
    are_distinct is_same (filter_map next_of (statements u))
    && each_after is_written_after_next [] (statements u)
    && list_all (λ r. r.indexed || nat_eq r.len 1) u.rings
    && each_part (reads_its_way u) u && each_statement (writes_its_way u) u

-- ---- an array has 1 to 1,024 elements, and a ring 1 to 65,536 values

abbrev pub has_array_length : (List ℕ × ℕ) → Bool
has_array_length a = nat_le 1 a.1 && nat_le a.1 1024

abbrev pub lengths_are_in_range : CUnit → Bool
lengths_are_in_range u =
    list_all has_array_length (arrays_in u.types) && list_all (λ r. nat_le 1 r.len && nat_le r.len 65536) u.rings

-- ---- no expression and no constant is higher than 8,192

abbrev pub has_low_constants : List CDef → CRing → Bool
has_low_constants ds r = option_map_or (list_all (λ v. nat_le (constant_height v) most_height)) (first_values ds r) true

abbrev pub heights_are_in_range : CUnit → Bool
heights_are_in_range u =
    each_statement (λ s. list_all (λ e. nat_le (height e) most_height) (expressions_in s)) u
    && list_all (has_low_constants u.types) u.rings

-- ---- `cp_storage` and `cp_need` are the unit's storage and weight, and each is an int, as an enumeration constant
-- is (6.7.2.2 paragraph 2)

abbrev pub totals_are_right : CUnit → Bool
totals_are_right u =
    nat_eq u.storage (storage_of u) && nat_eq u.need (unit_weight_of u)
    && nat_le u.storage 2147483647 && nat_le u.need 2147483647

-- ---- all of them

pub record IsWellFormed (u : CUnit) : Type 0 where
  pub names : IsTrue (names_are_names u)
  pub spaces : IsTrue (names_are_distinct u)
  pub types_first : IsTrue (types_come_first u)
  pub used_there : IsTrue (used_things_are_there u)
  pub fields : IsTrue (structs_have_fields u)
  pub literals : IsTrue (literals_are_in_range u)
  pub constants : IsTrue (rings_are_filled u)
  pub types : IsTrue (expressions_have_types u)
  pub arguments : IsTrue (calls_have_all_arguments u)
  pub scalars : IsTrue (guards_and_subscripts_are_scalar u)
  pub assigned : IsTrue (values_fit u)
  pub copied : IsTrue (copies_come_first u)
  pub rings : IsTrue (rings_are_used_their_way u)
  pub lengths : IsTrue (lengths_are_in_range u)
  pub heights : IsTrue (heights_are_in_range u)
  pub totals : IsTrue (totals_are_right u)
