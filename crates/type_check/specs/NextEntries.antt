-- What holds of each type of an order when it comes into the type list, behind those before it.
use Rattle.std.specs.Prelude.{◌≡◌, ◌<◌, ◌≤◌, ℕ, ◌*◌, List, length, take, slice_get, All, Some}
use Rattle.stream_types.specs.declared.types.Field.{Field}
use Rattle.stream_types.specs.declared.types.TypeEntry.{TypeEntry}
use Rattle.stream_types.specs.declared.types.TypeEntry.TheVariants as entry
use Rattle.stream_types.specs.Types.{words as entry_words_of, fields_words}
use Rattle.stream_types.specs.TypeList.{Stands, IsElement, IsNewName, IsNewEntry, HasTwins}
use Rattle.type_check.specs.NamedType.{NamedType, scalar, struct, array, Declarations, Struct, struct_in}
use Rattle.type_check.specs.TypeOrder.{ty_of, fields_of, entries}

-- an array: of an element that stands before it, not too wide, and new
pub record IsNextArray (order : List NamedType) (before : List TypeEntry) (t : NamedType) (n : ℕ) : Type 0 where
  pub element : IsElement before (ty_of order t)
  pub least : 1 ≤ n
  pub most : n ≤ 1024
  pub fresh : IsNewEntry before (entry.Array (ty_of order t) n)
  pub narrow : n * entry_words_of before (ty_of order t) ≤ 1024

-- a struct: it is declared, of fields of different names whose types stand before it, not too wide, and new
pub record IsNextStruct (all : Declarations) (order : List NamedType) (before : List TypeEntry) (x : List ℕ) : Type 0 where
  pub found : Struct
  pub is : struct_in all x ≡ Some found
  pub parts : All (λ (f : Field). Stands before f.ty) (fields_of order (struct_in all x))
  pub least : 1 ≤ length (fields_of order (struct_in all x))
  pub most : length (fields_of order (struct_in all x)) ≤ 64
  pub apart : ¬ HasTwins (fields_of order (struct_in all x))
  pub fresh : IsNewName before x
  pub narrow : fields_words before (fields_of order (struct_in all x)) ≤ 1024

-- no scalar has an entry
abbrev pub MayBeAdded : Declarations → List NamedType → List TypeEntry → NamedType → Type 0
MayBeAdded all order before (scalar s) = ⊥
MayBeAdded all order before (struct x) = IsNextStruct all order before x
MayBeAdded all order before (array t n) = IsNextArray order before t n

-- Each type of the order may be added behind the entries of those before it, which are as many, and there is room.
pub record IsListable (all : Declarations) (order : List NamedType) : Type 0 where
  pub each : (i : ℕ) (t : NamedType) → slice_get order i ≡ Some t → MayBeAdded all order (entries all order (take i order)) t
  pub counts : (i : ℕ) → i ≤ length order → length (entries all order (take i order)) ≡ i
  pub room : length order < 4294967295
