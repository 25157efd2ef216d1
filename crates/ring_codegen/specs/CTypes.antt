-- The C types of a specification's types, externs and handlers.
-- Sections are those of ISO/IEC 9899:1999.
use Rattle.std.specs.Prelude.{ℕ, List, [], map, nat_eq, slice_get, Option, Some}
use Rattle.std.specs.List.{find}
use Rattle.std.specs.Option.{option_map_or}
use Rattle.std.specs.Cmp.Lexicographic.{pointwise}
use Rattle.stream_types.specs.declared.scalar.Scalar.{Scalar}
use Rattle.stream_types.specs.declared.scalar.Scalar.TheVariants as scalar
use Rattle.stream_types.specs.declared.scalar.Ty.{Ty}
use Rattle.stream_types.specs.declared.scalar.Ty.TheVariants as ty
use Rattle.stream_types.specs.declared.types.Field.{Field}
use Rattle.stream_types.specs.declared.types.TypeEntry.{TypeEntry}
use Rattle.stream_types.specs.declared.types.TypeEntry.TheVariants as entry
use Rattle.stream_core.specs.declared.spec.ExternItem.{ExternItem}
use Rattle.stream_core.specs.Term.{TreeSpec, TreeRoot, TreeTrigger}
use Rattle.stream_core.specs.Handlers.{handlers}
use Rattle.c99_tree.specs.declared.types.CScalar.{CScalar}
use Rattle.c99_tree.specs.declared.types.CScalar.TheVariants as c
use Rattle.c99_tree.specs.declared.types.CTy.{CTy}
use Rattle.c99_tree.specs.declared.types.CTy.TheVariants as cty
use Rattle.c99_tree.specs.declared.types.CVar.{CVar}
use Rattle.c99_tree.specs.declared.types.CDef.{CDef}
use Rattle.c99_tree.specs.declared.types.CDef.TheVariants as def
use Rattle.c99_tree.specs.declared.types.CProto.{CProto}
use Rattle.c99_tree.specs.Words.{word_of}

-- Bool is `bool`, and the integers are the types of one width (7.18.1.1)
abbrev pub c_scalar : Scalar → CScalar
c_scalar scalar.Bool = c.Bool
c_scalar scalar.Int8 = c.I8
c_scalar scalar.Int16 = c.I16
c_scalar scalar.Int32 = c.I32
c_scalar scalar.Int64 = c.I64
c_scalar scalar.Word8 = c.U8
c_scalar scalar.Word16 = c.U16
c_scalar scalar.Word32 = c.U32
c_scalar scalar.Word64 = c.U64

-- a struct's name; an array and a type that isn't there have none
abbrev pub struct_name : Option TypeEntry → List ℕ
struct_name (Some (entry.Struct name fields)) = name
struct_name _ = []

-- the word of an array's element: a scalar's word or a struct's name
abbrev pub element_word : List TypeEntry → Ty → List ℕ
element_word types (ty.Scalar s) = word_of (c_scalar s)
element_word types (ty.Array i) = []
element_word types (ty.Struct i) = struct_name (slice_get types i)

-- the struct around an array of its elements
abbrev pub array_type : List TypeEntry → Option TypeEntry → CTy
array_type types (Some (entry.Array elem n)) = cty.Array (element_word types elem) n
array_type types _ = cty.Struct []

abbrev pub c_type : List TypeEntry → Ty → CTy
c_type types (ty.Scalar s) = cty.Scalar (c_scalar s)
c_type types (ty.Array i) = array_type types (slice_get types i)
c_type types (ty.Struct i) = cty.Struct (struct_name (slice_get types i))

abbrev pub c_field : List TypeEntry → Field → CVar
c_field types f = record { name = f.name; ty = c_type types f.ty }

-- the definition of a type in the header
abbrev pub c_def : List TypeEntry → TypeEntry → CDef
c_def types (entry.Array elem n) = def.Array (element_word types elem) n
c_def types (entry.Struct name fields) = def.Struct name (map (c_field types) fields)

abbrev pub c_extern : List TypeEntry → ExternItem → CVar
c_extern types x = record { name = x.name; ty = c_type types x.ty }

-- the C types of a trigger's arguments
abbrev pub c_arguments : List TypeEntry → TreeTrigger → List CTy
c_arguments types x = map (λ (r : TreeRoot). c_type types r.ty) x.args

-- a handler has the arguments of the first trigger of its name
abbrev pub c_handler : TreeSpec → List ℕ → CProto
c_handler s name = record { name = name; params = option_map_or (c_arguments s.types) (find (λ (x : TreeTrigger). pointwise nat_eq x.name name) s.triggers) [] }

-- the prototypes of the handlers, in the order of their first triggers
abbrev pub c_handlers : TreeSpec → List CProto
c_handlers s = map (c_handler s) (handlers s)
