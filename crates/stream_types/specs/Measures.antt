-- What the code keeps beside each entry of a type list.
use Rattle.std.specs.Prelude.{◌≡◌, List, map}
use Rattle.stream_types.specs.declared.types.TypeEntry.{TypeEntry}
use Rattle.stream_types.specs.declared.types.Measured.{Measured}
use Rattle.stream_types.specs.Types.{entry_words, entry_bytes}
use Rattle.stream_types.specs.TypeList.{IsTypeList}

-- the entries alone
abbrev pub entries_of : List Measured → List TypeEntry
entries_of kept = map (λ (m : Measured). m.entry) kept

-- a type list, and the words and bytes of each of its types
pub record IsKept (kept : List Measured) : Type 0 where
  pub types : IsTypeList (entries_of kept)
  pub words_are : map (λ (m : Measured). m.extent.words) kept ≡ entry_words (entries_of kept)
  pub bytes_are : map (λ (m : Measured). m.extent.bytes) kept ≡ entry_bytes (entries_of kept)
