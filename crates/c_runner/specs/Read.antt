-- How a unit's definitions and types read as a type list and types.
use Rattle.std.specs.Prelude.{ℕ, Bool, false, ◌&&◌, nat_eq, List, map}
use Rattle.std.specs.List.{position_or_len}
use Rattle.stream_types.specs.declared.scalar.Scalar.{Scalar}
use Rattle.stream_types.specs.declared.scalar.Scalar.TheVariants as scalar
use Rattle.stream_types.specs.declared.scalar.Ty.{Ty}
use Rattle.stream_types.specs.declared.scalar.Ty.TheVariants as ty
use Rattle.stream_types.specs.declared.types.Field.{Field}
use Rattle.stream_types.specs.declared.types.TypeEntry.{TypeEntry}
use Rattle.stream_types.specs.declared.types.TypeEntry.TheVariants as entry
use Rattle.c99_tree.specs.declared.types.CScalar.{CScalar}
use Rattle.c99_tree.specs.declared.types.CScalar.TheVariants as c
use Rattle.c99_tree.specs.declared.types.CTy.{CTy}
use Rattle.c99_tree.specs.declared.types.CTy.TheVariants as cty
use Rattle.c99_tree.specs.declared.types.CVar.{CVar}
use Rattle.c99_tree.specs.declared.types.CDef.{CDef}
use Rattle.c99_tree.specs.declared.types.CDef.TheVariants as def
use Rattle.c99_tree.specs.Words.{is_same, elem_type}

-- the scalar of the same width and sign
abbrev pub scalar_of : CScalar → Scalar
scalar_of c.Bool = scalar.Bool
scalar_of c.I8 = scalar.Int8
scalar_of c.I16 = scalar.Int16
scalar_of c.I32 = scalar.Int32
scalar_of c.I64 = scalar.Int64
scalar_of c.U8 = scalar.Word8
scalar_of c.U16 = scalar.Word16
scalar_of c.U32 = scalar.Word32
scalar_of c.U64 = scalar.Word64

-- a definition is that of the struct of this name, or of the array of this word and length
abbrev pub defines_struct : List ℕ → CDef → Bool
defines_struct x (def.Struct name fields) = is_same x name
defines_struct x (def.Array elem n) = false

abbrev pub defines_array : List ℕ → ℕ → CDef → Bool
defines_array x n (def.Struct name fields) = false
defines_array x n (def.Array elem m) = is_same x elem && nat_eq n m

-- a type by the place of the first definition that is its own; the place behind all where there is none
abbrev pub read_type : List CDef → CTy → Ty
read_type ds (cty.Scalar t) = ty.Scalar (scalar_of t)
read_type ds (cty.Struct x) = ty.Struct (position_or_len (defines_struct x) ds)
read_type ds (cty.Array x n) = ty.Array (position_or_len (defines_array x n) ds)

abbrev pub read_field : List CDef → CVar → Field
read_field ds x = record { name = x.name; ty = read_type ds x.ty }

abbrev pub read_entry : List CDef → CDef → TypeEntry
read_entry ds (def.Struct name fields) = entry.Struct name (map (read_field ds) fields)
read_entry ds (def.Array elem n) = entry.Array (read_type ds (elem_type elem)) n

-- one entry for each definition, in order
abbrev pub read_types : List CDef → List TypeEntry
read_types ds = map (read_entry ds) ds
