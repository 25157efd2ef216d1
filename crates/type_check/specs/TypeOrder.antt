-- The type list of a text, made by walking the text in postorder.
use Rattle.std.specs.Prelude.{ℕ, Bool, false, ◌&&◌, ◌||◌, not, if◌then◌else◌, List, [], ◌∷◌, ◌++◌, map, bytes_eq, Option, Some, None}
use Rattle.std.specs.List.{list_any, position_or_len}
use Rattle.stream_types.specs.declared.scalar.Ty.{Ty}
use Rattle.stream_types.specs.declared.scalar.Ty.TheVariants as ty
use Rattle.stream_types.specs.declared.types.Field.{Field}
use Rattle.stream_types.specs.declared.types.TypeEntry.{TypeEntry}
use Rattle.stream_types.specs.declared.types.TypeEntry.TheVariants as entry
use Rattle.spec_text.specs.declared.surface.FieldForm.{FieldForm}
use Rattle.spec_text.specs.declared.surface.Decl.{Decl}
use Rattle.spec_text.specs.declared.surface.Decl.TheVariants as d
use Rattle.spec_text.specs.declared.surface.Surface.{Surface}
use Rattle.type_check.specs.NamedType.{NamedType, scalar, struct, array, same_type, Declarations, Struct, struct_in}
use Rattle.type_check.specs.Judged.{judge_form, type_of}
use Rattle.type_check.specs.Untyped.{judge_decl, all_of}

-- what the walk comes upon: a node of this type, or the end of a struct's declaration
pub data Event : Type 0 where
  met : NamedType → Event
  ends : List ℕ → Event

abbrev pub closings : Decl → List Event
closings (d.Struct at x fields) = ends x.name ∷ []
closings _ = []

abbrev pub events_from : Declarations → Declarations → List Decl → List Event
events_from all before [] = []
events_from all before (x ∷ xs) = map met (judge_decl all before x).types ++ closings x ++ events_from all (x ∷ before) xs

abbrev pub events : Surface → List Event
events s = events_from (all_of s) [] s.decls

-- ---- where each type comes into the list

abbrev pub is_met : NamedType → Event → Bool
is_met t (met u) = same_type t u
is_met t (ends name) = false

abbrev pub is_closed : List ℕ → Event → Bool
is_closed name (met t) = false
is_closed name (ends x) = bytes_eq name x

-- an array of a struct that isn't closed yet waits for it
abbrev pub waits : List Event → NamedType → Bool
waits earlier (struct name) = not (list_any (is_closed name) earlier)
waits earlier _ = false

abbrev pub is_array_of : List ℕ → NamedType → Bool
is_array_of name (array (struct x) n) = bytes_eq name x
is_array_of name _ = false

-- the arrays of a struct that were met before its end, each once, in the order in which they were first met
abbrev pub waiting : List ℕ → List Event → List Event → List NamedType
waiting name earlier [] = []
waiting name earlier (met t ∷ es) =
    (if is_array_of name t && not (list_any (is_met t) earlier) then t ∷ [] else []) ++ waiting name (earlier ++ met t ∷ []) es
waiting name earlier (ends x ∷ es) = waiting name (earlier ++ ends x ∷ []) es

-- What an event adds: an array type that is met first, unless it waits, and at the end of a struct the struct and the
-- arrays that waited for it.
abbrev pub added : List Event → Event → List NamedType
added earlier (met (array t n)) = if list_any (is_met (array t n)) earlier || waits earlier t then [] else array t n ∷ []
added earlier (met _) = []
added earlier (ends name) = struct name ∷ waiting name [] earlier

abbrev pub listed : List Event → List Event → List NamedType
listed earlier [] = []
listed earlier (e ∷ es) = added earlier e ++ listed (earlier ++ e ∷ []) es

-- the structs and arrays of a text, in the order of its type list
unfoldable pub type_order : Surface → List NamedType
type_order s = listed [] (events s)

-- ---- the list

-- a type by its number in an order
abbrev pub number_of : List NamedType → NamedType → ℕ
number_of order t = position_or_len (same_type t) order

abbrev pub ty_of : List NamedType → NamedType → Ty
ty_of order (scalar s) = ty.Scalar s
ty_of order (struct name) = ty.Struct (number_of order (struct name))
ty_of order (array t n) = ty.Array (number_of order (array t n))

abbrev pub field_of : List NamedType → Declarations → FieldForm → Field
field_of order before f = record { name = f.name.name; ty = ty_of order (type_of (judge_form before f.ty)) }

abbrev pub fields_of : List NamedType → Option Struct → List Field
fields_of order None = []
fields_of order (Some s) = map (field_of order s.before) s.fields

abbrev pub entry_of : Declarations → List NamedType → NamedType → List TypeEntry
entry_of all order (scalar s) = []
entry_of all order (struct name) = entry.Struct name (fields_of order (struct_in all name)) ∷ []
entry_of all order (array t n) = entry.Array (ty_of order t) n ∷ []

abbrev pub entries : Declarations → List NamedType → List NamedType → List TypeEntry
entries all order [] = []
entries all order (t ∷ ts) = entry_of all order t ++ entries all order ts

-- the type list of a text
abbrev pub types_of_text : Surface → List TypeEntry
types_of_text s = entries (all_of s) (type_order s) (type_order s)
