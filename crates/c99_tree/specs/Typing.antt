-- The type of each expression, where it has one. Sections are those of ISO/IEC 9899:1999.
use Rattle.std.specs.Prelude.{ℕ, Bool, true, false, ◌&&◌, nat_eq, if◌then◌else◌, List, [], ◌∷◌, length, Option, Some, None}
use Rattle.std.specs.List.{list_all}
use Rattle.std.specs.Option.{option_and_then, option_map, option_map_or}
use Rattle.c99_tree.specs.declared.expr.CLit.{CLit}
use Rattle.c99_tree.specs.declared.expr.CLit.TheVariants as k
use Rattle.c99_tree.specs.declared.expr.CUn.{CUn}
use Rattle.c99_tree.specs.declared.expr.CUn.TheVariants as u
use Rattle.c99_tree.specs.declared.expr.CBin.{CBin}
use Rattle.c99_tree.specs.declared.expr.CBin.TheVariants as o
use Rattle.c99_tree.specs.declared.types.CScalar.{CScalar}
use Rattle.c99_tree.specs.declared.types.CScalar.TheVariants as t
use Rattle.c99_tree.specs.declared.types.CTy.{CTy}
use Rattle.c99_tree.specs.declared.types.CTy.TheVariants as ty
use Rattle.c99_tree.specs.declared.types.CVar.{CVar}
use Rattle.c99_tree.specs.declared.types.CDef.{CDef}
use Rattle.c99_tree.specs.declared.unit.Unit.{Unit as CUnit}
use Rattle.c99_tree.specs.Tree.{Expr, Exprs, lit, yes, no, copy, head, cell, ring_at, un, bin, choose, cast, field, pick, arr, rec, none, more}
use Rattle.c99_tree.specs.CTypes.{promoted, usual}
use Rattle.c99_tree.specs.Words.{is_same, elem_type}
use Rattle.c99_tree.specs.Lookup.{fields_of, var_of, ring_of}

-- whether two scalar types are one
abbrev pub is_same_scalar : CScalar → CScalar → Bool
is_same_scalar t.Bool t.Bool = true
is_same_scalar t.I8 t.I8 = true
is_same_scalar t.I16 t.I16 = true
is_same_scalar t.I32 t.I32 = true
is_same_scalar t.I64 t.I64 = true
is_same_scalar t.U8 t.U8 = true
is_same_scalar t.U16 t.U16 = true
is_same_scalar t.U32 t.U32 = true
is_same_scalar t.U64 t.U64 = true
is_same_scalar _ _ = false

-- whether two types are one: structs by their names, and array types by their words and lengths
abbrev pub is_same_type : CTy → CTy → Bool
is_same_type (ty.Scalar s) (ty.Scalar t) = is_same_scalar s t
is_same_type (ty.Struct x) (ty.Struct y) = is_same x y
is_same_type (ty.Array x n) (ty.Array y m) = is_same x y && nat_eq n m
is_same_type _ _ = false

abbrev pub is_scalar_type : CTy → Bool
is_scalar_type (ty.Scalar t) = true
is_scalar_type (ty.Struct x) = false
is_scalar_type (ty.Array x n) = false

-- an expression of the first type may be assigned to an object of the second: scalars convert, and others are of one
-- type (6.5.16.1 paragraph 1)
abbrev pub fits : CTy → CTy → Bool
fits (ty.Scalar s) (ty.Scalar t) = true
fits a b = is_same_type a b

-- the scalar type of an expression that has one
abbrev pub scalar_type : Option CTy → Option CScalar
scalar_type (Some (ty.Scalar t)) = Some t
scalar_type (Some (ty.Struct x)) = None
scalar_type (Some (ty.Array x n)) = None
scalar_type None = None

-- the type of a literal by its suffix; each literal in range fits the first type of its list (6.4.4.1 paragraph 5)
abbrev pub literal_type : CLit → CScalar
literal_type k.I = t.I32
literal_type k.U = t.U32
literal_type k.LL = t.I64
literal_type k.ULL = t.U64

-- `!` gives an int, `~` and `-` the promoted operand's type (6.5.3.3)
abbrev pub unary_type : CUn → CScalar → CScalar
unary_type u.Not s = t.I32
unary_type u.BitNot s = promoted s
unary_type u.Neg s = promoted s

-- arithmetic gives the common type (6.5.5, 6.5.6, 6.5.10 to 6.5.12), a shift the promoted left operand's (6.5.7),
-- and a comparison or a logical operator an int (6.5.8, 6.5.9, 6.5.13, 6.5.14)
abbrev pub binary_type : CBin → CScalar → CScalar → CScalar
binary_type o.Add a b = usual a b
binary_type o.Sub a b = usual a b
binary_type o.Mul a b = usual a b
binary_type o.Div a b = usual a b
binary_type o.Rem a b = usual a b
binary_type o.BitAnd a b = usual a b
binary_type o.BitOr a b = usual a b
binary_type o.BitXor a b = usual a b
binary_type o.Shl a b = promoted a
binary_type o.Shr a b = promoted a
binary_type o.Eq a b = t.I32
binary_type o.Ne a b = t.I32
binary_type o.Lt a b = t.I32
binary_type o.Le a b = t.I32
binary_type o.Gt a b = t.I32
binary_type o.Ge a b = t.I32
binary_type o.And a b = t.I32
binary_type o.Or a b = t.I32

-- the type that both arms of `?:` have: the common type of two scalars, or their one type (6.5.15 paragraphs 3 and 5)
abbrev pub arms_type : CTy → CTy → Option CTy
arms_type (ty.Scalar s) (ty.Scalar t) = Some (ty.Scalar (usual s t))
arms_type a b = if is_same_type a b then Some a else None

abbrev pub arms_type_of : Option CTy → Option CTy → Option CTy
arms_type_of (Some a) (Some b) = arms_type a b
arms_type_of (Some a) None = None
arms_type_of None b = None

-- the members of an expression that is a struct
abbrev pub fields_in : List CDef → Option CTy → List CVar
fields_in ds (Some (ty.Struct x)) = option_map_or (λ fields. fields) (fields_of ds x) []
fields_in ds (Some (ty.Scalar t)) = []
fields_in ds (Some (ty.Array x n)) = []
fields_in ds None = []

-- this type, where the expression has a scalar type
abbrev pub where_scalar : Option CTy → Option CTy → Option CTy
where_scalar a t = option_and_then (λ s. t) (scalar_type a)

-- this type, where the expression has a type, and that is this other one
abbrev pub where_type : Option CTy → CTy → Option CTy → Option CTy
where_type (Some a) b t = if is_same_type a b then t else None
where_type None b t = None

abbrev pub where_true : Bool → Option CTy → Option CTy
where_true true t = t
where_true false t = None

-- whether an expression's type fits
abbrev pub fits_in : Option CTy → CTy → Bool
fits_in a t = option_map_or (λ s. fits s t) a false

-- as many types as there are members, each fitting its member
abbrev pub fit_members : List (Option CTy) → List CVar → Bool
fit_members [] [] = true
fit_members [] (x ∷ xs) = false
fit_members (a ∷ all) [] = false
fit_members (a ∷ all) (x ∷ xs) = fits_in a x.ty && fit_members all xs

-- as many types as the length, each fitting the element's
abbrev pub fit_elements : List (Option CTy) → ℕ → CTy → Bool
fit_elements all n t = nat_eq (length all) n && list_all (λ a. fits_in a t) all

abbrev mutual
  -- the type of an expression; None where it, or one of its parts, has none. An index is an uint32_t, the second
  -- argument of a `cp_ix` call converts to the parameter's uint32_t (6.5.2.2 paragraph 7), a subscript is scalar
  -- (6.5.2.1), and a compound literal has one value for each member or element (6.5.2.5, 6.7.8)
  pub type_of : CUnit → Expr → Option CTy
  type_of u (lit k n) = Some (ty.Scalar (literal_type k))
  type_of u yes = Some (ty.Scalar t.I32)
  type_of u no = Some (ty.Scalar t.I32)
  type_of u (copy x) = option_map (λ v. v.ty) (var_of u.externs x)
  type_of u (head r) = Some (ty.Scalar t.U32)
  type_of u (cell r) = option_map (λ ring. ring.ty) (ring_of u r)
  type_of u (ring_at r a) = where_scalar (type_of u a) (option_map (λ ring. ring.ty) (ring_of u r))
  type_of u (un op a) = option_map (λ s. ty.Scalar (unary_type op s)) (scalar_type (type_of u a))
  type_of u (bin op a b) =
      option_and_then (λ s. option_map (λ t. ty.Scalar (binary_type op s t)) (scalar_type (type_of u b))) (scalar_type (type_of u a))
  type_of u (choose c a b) = where_scalar (type_of u c) (arms_type_of (type_of u a) (type_of u b))
  type_of u (cast t a) = where_scalar (type_of u a) (Some (ty.Scalar t))
  type_of u (field a x) = option_map (λ v. v.ty) (var_of (fields_in u.types (type_of u a)) x)
  type_of u (pick x n a i) = where_type (type_of u a) (ty.Array x n) (where_scalar (type_of u i) (Some (elem_type x)))
  type_of u (arr x n all) = where_true (fit_elements (types_of u all) n (elem_type x)) (Some (ty.Array x n))
  type_of u (rec x all) =
      option_and_then (λ fields. where_true (fit_members (types_of u all) fields) (Some (ty.Struct x))) (fields_of u.types x)

  pub types_of : CUnit → Exprs → List (Option CTy)
  types_of u none = []
  types_of u (more e es) = type_of u e ∷ types_of u es
