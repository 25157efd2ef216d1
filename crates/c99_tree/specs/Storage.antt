-- The bytes of the objects that the source defines, without padding.
use Rattle.std.specs.Prelude.{ℕ, ◌+◌, ◌*◌, if◌then◌else◌, List, Option}
use Rattle.std.specs.List.{sum_by}
use Rattle.std.specs.Option.{option_map_or}
use Rattle.c99_tree.specs.declared.types.CScalar.{CScalar}
use Rattle.c99_tree.specs.declared.types.CScalar.TheVariants as t
use Rattle.c99_tree.specs.declared.types.CTy.{CTy}
use Rattle.c99_tree.specs.declared.types.CVar.{CVar}
use Rattle.c99_tree.specs.declared.types.CDef.{CDef}
use Rattle.c99_tree.specs.declared.unit.CRing.{CRing}
use Rattle.c99_tree.specs.declared.unit.Unit.{Unit as CUnit}
use Rattle.c99_tree.specs.Values.{Shape, Shapes, scalar, members, elements, no_shape, and_shape, shape_of}

-- the bytes of a scalar; a bool has one
abbrev pub scalar_size : CScalar → ℕ
scalar_size t.Bool = 1
scalar_size t.I8 = 1
scalar_size t.I16 = 2
scalar_size t.I32 = 4
scalar_size t.I64 = 8
scalar_size t.U8 = 1
scalar_size t.U16 = 2
scalar_size t.U32 = 4
scalar_size t.U64 = 8

abbrev mutual
  -- the bytes of all scalars of a type
  pub size_of_shape : Shape → ℕ
  size_of_shape (scalar t) = scalar_size t
  size_of_shape (members shapes) = size_of_shapes shapes
  size_of_shape (elements n shape) = n * size_of_shape shape

  pub size_of_shapes : Shapes → ℕ
  size_of_shapes no_shape = 0
  size_of_shapes (and_shape s shapes) = size_of_shape s + size_of_shapes shapes

-- the bytes of a shape, where there is one
abbrev pub size_or_none : Option Shape → ℕ
size_or_none s = option_map_or size_of_shape s 0

-- the bytes of a type; one that has no shape has none
abbrev pub size_of : List CDef → CTy → ℕ
size_of ds t = size_or_none (shape_of ds t)

-- the bytes of a struct's members' shapes, where there are such
abbrev pub sizes_or_none : Option Shapes → ℕ
sizes_or_none s = option_map_or size_of_shapes s 0

-- the bytes of a ring's index, an uint32_t
abbrev pub index_size : ℕ
index_size = 4

-- a ring's values and its index; a ring without an index is one value, whatever its length says
abbrev pub ring_storage : List CDef → CRing → ℕ
ring_storage ds r = if r.indexed then r.len * size_of ds r.ty + index_size else size_of ds r.ty

-- an extern's copy
abbrev pub copy_storage : List CDef → CVar → ℕ
copy_storage ds x = size_of ds x.ty

abbrev pub storage_of : CUnit → ℕ
storage_of u = sum_by (ring_storage u.types) u.rings + sum_by (copy_storage u.types) u.externs
