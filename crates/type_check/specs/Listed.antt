-- The numbers of the types in an order, and what the entries of a type list are made of.
use Rattle.std.specs.Prelude.{◌≡◌, ◌<◌, ◌≤◌, ℕ, List, [], ◌∷◌, length, slice_get, Option, Some}
use Rattle.std.specs.Map.{lookup}
use Rattle.std.specs.List.{position_or_len}
use Rattle.std.specs.Option.{option_map_or}
use Rattle.stream_types.specs.declared.types.TypeEntry.{TypeEntry}
use Rattle.stream_types.specs.declared.types.TypeEntry.TheVariants as entry
use Rattle.stream_types.specs.Types.{words_of}
use Rattle.stream_types.specs.TypeList.{IsGoodEntry, IsNewEntry}
use Rattle.spec_text.specs.declared.surface.Surface.{Surface}
use Rattle.type_check.specs.declared.list.StructParts.{StructParts}
use Rattle.type_check.specs.declared.known.Known.{Known}
use Rattle.type_check.specs.declared.structs.Struct.{Struct as CodeStruct}
use Rattle.type_check.specs.NamedType.{Declarations}
use Rattle.type_check.specs.Untyped.{all_of}
use Rattle.type_check.specs.TypeOrder.{type_order}
use Rattle.type_check.specs.Standing.{IsDistinct, AllMean, IsStructAt}
use Rattle.type_check.specs.Table.{struct_names}
use Rattle.type_check.specs.NextEntries.{IsListable}
use Rattle.type_check.specs.contracts.known.KnownPartialEq.TheImpl.{ghosts as known_eq}

-- each type by its first number in an order of so many, and their count for a type that isn't there
pub record AreNumbers (placed : List Known) (numbers : List (Known × ℕ)) (count : ℕ) : Type 0 where
  pub numbers_are : (k : Known) → option_map_or (λ n. n) (lookup (known_eq.eq k) numbers) count ≡ position_or_len (known_eq.eq k) placed

-- the struct at each place of a text's names
pub record AreStructs (names : List (List ℕ)) (all : Declarations) (structs : List CodeStruct) : Type 0 where
  pub structs_are : (i : ℕ) (x : List ℕ) → slice_get names i ≡ Some x → IsStructAt names all structs x i

-- the entry of these parts, if there are some
abbrev pub struct_list : Option StructParts → List TypeEntry
struct_list o = option_map_or (λ (p : StructParts). entry.Struct p.name p.fields.items ∷ []) o []

-- an entry that may be put behind these: it is made of them, new and not too wide, and there is room for it
pub record MayFollow (types : List TypeEntry) (e : TypeEntry) : Type 0 where
  pub good : IsGoodEntry types e
  pub new : IsNewEntry types e
  pub narrow : words_of types (Some e) ≤ 1024
  pub room : length types < 4294967295

-- the types of a text in order, by the numbers of its structs, each of which may be added behind those before it
pub record IsOrderOf (s : Surface) (structs : List CodeStruct) (placed : List Known) : Type 0 where
  pub distinct : IsDistinct (struct_names (all_of s))
  pub structs_are : AreStructs (struct_names (all_of s)) (all_of s) structs
  pub types_are : AllMean (struct_names (all_of s)) placed (type_order s)
  pub listable : IsListable (all_of s) (type_order s)

-- there is such a text
pub record IsSomeOrder (structs : List CodeStruct) (placed : List Known) : Type 0 where
  pub text : Surface
  pub order : IsOrderOf text structs placed
