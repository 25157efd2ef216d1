-- Types as a text writes them: a struct by its name, and an array by its element.
use Rattle.std.specs.Prelude.{ℕ, ◌*◌, Bool, true, false, ◌&&◌, nat_eq, if◌then◌else◌, List, [], ◌∷◌, map, bytes_eq, sum, is_some, Option, Some, None}
use Rattle.stream_types.specs.declared.scalar.Scalar.{Scalar}
use Rattle.stream_types.specs.declared.scalar.Scalar.TheVariants as s_
use Rattle.spec_text.specs.declared.surface.FieldForm.{FieldForm}
use Rattle.spec_text.specs.declared.surface.TypeForm.{TypeForm}
use Rattle.spec_text.specs.declared.surface.TypeForm.TheOpen.{TypeForm-F}
use Rattle.spec_text.specs.declared.surface.TypeForm.TheFolds.{fold-TypeForm}
use Rattle.spec_text.specs.declared.surface.Decl.{Decl}
use Rattle.spec_text.specs.declared.surface.Decl.TheVariants as d

pub data NamedType : Type 0 where
  scalar : Scalar → NamedType
  struct : List ℕ → NamedType
  array : NamedType → ℕ → NamedType

abbrev pub bool : NamedType
bool = scalar s_.Bool

abbrev pub word32 : NamedType
word32 = scalar s_.Word32

-- ---- scalars and types that are the same

abbrev pub same_scalar : Scalar → Scalar → Bool
same_scalar s_.Bool s_.Bool = true
same_scalar s_.Int8 s_.Int8 = true
same_scalar s_.Int16 s_.Int16 = true
same_scalar s_.Int32 s_.Int32 = true
same_scalar s_.Int64 s_.Int64 = true
same_scalar s_.Word8 s_.Word8 = true
same_scalar s_.Word16 s_.Word16 = true
same_scalar s_.Word32 s_.Word32 = true
same_scalar s_.Word64 s_.Word64 = true
same_scalar _ _ = false

abbrev pub same_type : NamedType → NamedType → Bool
same_type (scalar s) (scalar t) = same_scalar s t
same_type (struct x) (struct y) = bytes_eq x y
same_type (array s m) (array t n) = same_type s t && nat_eq m n
same_type _ _ = false

abbrev pub is_array : NamedType → Bool
is_array (array t n) = true
is_array _ = false

-- ---- the structs of a text

-- Declarations with the last first. Where a text declares no name twice in a space, a name finds one of them.
abbrev pub Declarations : Type 0
Declarations = List Decl

-- a struct's fields, and the declarations before it
pub record Struct : Type 0 where
  pub fields : List FieldForm
  pub before : Declarations

abbrev pub struct_in : Declarations → List ℕ → Option Struct
struct_in [] name = None
struct_in (d.Struct at x fields ∷ ds) name = if bytes_eq x.name name then Some (record { fields = fields; before = ds }) else struct_in ds name
struct_in (_ ∷ ds) name = struct_in ds name

abbrev pub declares_struct : Declarations → List ℕ → Bool
declares_struct ds name = is_some (struct_in ds name)

-- ---- words

-- the words of a written type, by those of the structs
abbrev pub words_step : (List ℕ → ℕ) → TypeForm-F ℕ → ℕ
words_step of_struct (TypeForm-F.Scalar at s) = 1
words_step of_struct (TypeForm-F.Named x) = of_struct x.name
words_step of_struct (TypeForm-F.Array at elem n) = n * elem

unfoldable pub form_words : (List ℕ → ℕ) → TypeForm → ℕ
form_words of_struct = fold-TypeForm ℕ (words_step of_struct)

-- the words of a struct, whose fields have types that are declared before it
abbrev pub struct_words : Declarations → List ℕ → ℕ
struct_words [] name = 0
struct_words (d.Struct at x fields ∷ ds) name =
    if bytes_eq x.name name then sum (map (λ (f : FieldForm). form_words (struct_words ds) f.ty) fields) else struct_words ds name
struct_words (_ ∷ ds) name = struct_words ds name

abbrev pub words : Declarations → NamedType → ℕ
words ds (scalar s) = 1
words ds (struct name) = struct_words ds name
words ds (array t n) = n * words ds t

-- the most words of a type
abbrev pub most_words : ℕ
most_words = 1024
