-- Types and values: how wide they are, and of which words they are made.
use Rattle.std.specs.Prelude.{ℕ, zero, suc, ◌+◌, ◌*◌, ◌/◌, List, [], ◌∷◌, ◌++◌, slice_index, slice_get, take, Option, Some, None, IsTrue, unwrap_or}
use Rattle.stream_types.specs.declared.scalar.Scalar.{Scalar}
use Rattle.stream_types.specs.declared.scalar.Ty.{Ty}
use Rattle.stream_types.specs.declared.scalar.Ty.TheVariants as ty
use Rattle.stream_types.specs.declared.types.Field.{Field}
use Rattle.stream_types.specs.declared.types.TypeEntry.{TypeEntry}
use Rattle.stream_types.specs.declared.types.TypeEntry.TheVariants as entry
pub use Rattle.stream_types.specs.Scalars.{bits, signed}
use Rattle.stream_types.specs.Numbers.{is_word}

-- ---- how wide a type is

-- a measure of a type, given those of the entries before it
abbrev pub at_type : (Scalar → ℕ) → List ℕ → Ty → ℕ
at_type of_scalar before (ty.Scalar s) = of_scalar s
at_type of_scalar before (ty.Array i) = slice_index before i
at_type of_scalar before (ty.Struct i) = slice_index before i

-- the sum over the fields
abbrev pub at_fields : (Scalar → ℕ) → List ℕ → List Field → ℕ
at_fields of_scalar before [] = 0
at_fields of_scalar before (f ∷ fs) = at_type of_scalar before f.ty + at_fields of_scalar before fs

-- so often that of the element, or the sum over the fields
abbrev pub at_entry : (Scalar → ℕ) → List ℕ → TypeEntry → ℕ
at_entry of_scalar before (entry.Array elem n) = n * at_type of_scalar before elem
at_entry of_scalar before (entry.Struct name fields) = at_fields of_scalar before fields

-- the measures of a type list's entries, behind those already found
abbrev pub measures : (Scalar → ℕ) → List ℕ → List TypeEntry → List ℕ
measures of_scalar before [] = before
measures of_scalar before (e ∷ es) = measures of_scalar (before ++ at_entry of_scalar before e ∷ []) es

-- a scalar is one word
abbrev pub one_word : Scalar → ℕ
one_word s = 1

-- the size of a scalar in bytes, 1 for Bool
abbrev pub scalar_bytes : Scalar → ℕ
scalar_bytes s = bits s / 8

-- the words of each entry
abbrev pub entry_words : List TypeEntry → List ℕ
entry_words types = measures one_word [] types

-- the bytes of each entry
abbrev pub entry_bytes : List TypeEntry → List ℕ
entry_bytes types = measures scalar_bytes [] types

-- how many words a value has
abbrev pub words : List TypeEntry → Ty → ℕ
words types t = at_type one_word (entry_words types) t

-- the words of all members together
abbrev pub fields_words : List TypeEntry → List Field → ℕ
fields_words types fields = at_fields one_word (entry_words types) fields

-- the sum of the scalar sizes in bytes
abbrev pub size : List TypeEntry → Ty → ℕ
size types t = at_type scalar_bytes (entry_bytes types) t

-- ---- the parts of a type

-- the entry that a type stands for, where it is no scalar
abbrev pub entry_of : List TypeEntry → Ty → Option TypeEntry
entry_of types (ty.Scalar s) = None
entry_of types (ty.Array i) = slice_get types i
entry_of types (ty.Struct i) = slice_get types i

-- how many elements an array type has, and how many words each of them
abbrev pub elem_count : Option TypeEntry → ℕ
elem_count None = 0
elem_count (Some (entry.Array elem n)) = n
elem_count (Some (entry.Struct name fields)) = 0

abbrev pub elem_words : List TypeEntry → Option TypeEntry → ℕ
elem_words types None = 0
elem_words types (Some (entry.Array elem n)) = words types elem
elem_words types (Some (entry.Struct name fields)) = 0

-- the members of a struct type; other types have none
abbrev pub fields_of : Option TypeEntry → List Field
fields_of None = []
fields_of (Some (entry.Array elem n)) = []
fields_of (Some (entry.Struct name fields)) = fields

-- the words before a member
abbrev pub field_first : List TypeEntry → List Field → ℕ → ℕ
field_first types fields i = fields_words types (take i fields)

-- the words of a member
abbrev pub field_words : List TypeEntry → List Field → ℕ → ℕ
field_words types [] i = 0
field_words types (f ∷ fs) zero = words types f.ty
field_words types (f ∷ fs) (suc i) = field_words types fs i

-- how many words a value has, by the entry of its type: n times those of an element, or the sum over the members
abbrev pub words_of : List TypeEntry → Option TypeEntry → ℕ
words_of types None = 1
words_of types (Some (entry.Array elem n)) = n * words types elem
words_of types (Some (entry.Struct name fields)) = fields_words types fields

-- ---- the scalars of a value

-- a list, so often
abbrev pub repeated : ℕ → List Scalar → List Scalar
repeated zero xs = []
repeated (suc n) xs = xs ++ repeated n xs

-- the scalars of a value, given those of the entries before its type
abbrev pub leaves_at : List (List Scalar) → Ty → List Scalar
leaves_at before (ty.Scalar s) = s ∷ []
leaves_at before (ty.Array i) = unwrap_or (slice_get before i) []
leaves_at before (ty.Struct i) = unwrap_or (slice_get before i) []

abbrev pub leaves_of_fields : List (List Scalar) → List Field → List Scalar
leaves_of_fields before [] = []
leaves_of_fields before (f ∷ fs) = leaves_at before f.ty ++ leaves_of_fields before fs

abbrev pub leaves_of_entry : List (List Scalar) → TypeEntry → List Scalar
leaves_of_entry before (entry.Array elem n) = repeated n (leaves_at before elem)
leaves_of_entry before (entry.Struct name fields) = leaves_of_fields before fields

-- the scalars of each entry, behind those already found
abbrev pub all_leaves : List (List Scalar) → List TypeEntry → List (List Scalar)
all_leaves before [] = before
all_leaves before (e ∷ es) = all_leaves (before ++ leaves_of_entry before e ∷ []) es

-- a value's scalars, in order of elements and members
abbrev pub leaves : List TypeEntry → Ty → List Scalar
leaves types t = leaves_at (all_leaves [] types) t

-- one word for each scalar, each a word of its scalar
abbrev pub AreWords : List Scalar → List ℕ → Type 0
AreWords [] [] = Unit {0}
AreWords [] (w ∷ ws) = ⊥
AreWords (s ∷ ss) [] = ⊥
AreWords (s ∷ ss) (w ∷ ws) = IsTrue (is_word s w) × AreWords ss ws
