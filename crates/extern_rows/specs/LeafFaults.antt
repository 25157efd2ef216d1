-- The leaf that a fault of a row speaks of.
use Rattle.std.specs.Prelude.{◌≡◌, ℕ, ◌<◌, Bool, List, [], length, slice_get, Option, Some, None}
use Rattle.std.specs.Option.{option_map_or, option_and_then}
use Rattle.extern_rows.specs.declared.fault.RowFault.{RowFault}
use Rattle.extern_rows.specs.declared.fault.RowFault.TheVariants.{NoColumn, TwoColumns, BadField}
use Rattle.extern_rows.specs.declared.header.Leaf.{Leaf}
use Rattle.extern_rows.specs.SampleRows.{FaultAt, rows_in}

-- its number
abbrev pub fault_leaf : RowFault → Option ℕ
fault_leaf (NoColumn i) = Some i
fault_leaf (TwoColumns i) = Some i
fault_leaf (BadField i) = Some i
fault_leaf _ = None

-- its name, which stands in the line of the fault; nothing where the fault speaks of no leaf
abbrev pub leaf_name : List Leaf → RowFault → List ℕ
leaf_name leaves fault = option_map_or (λ (leaf : Leaf). leaf.name) (option_and_then (λ (i : ℕ). slice_get leaves i) (fault_leaf fault)) []

-- A fault speaks of no leaf, or of one of these.
abbrev pub SpeaksOfLeaf : List Leaf → RowFault → Type 0
SpeaksOfLeaf leaves fault = (i : ℕ) → fault_leaf fault ≡ Some i → i < length leaves

-- as each fault of a text's rows does
abbrev pub FaultsHaveLeaves : Type 0
FaultsHaveLeaves = (leaves : List Leaf) (ended : Bool) (text : List ℕ) (at : FaultAt) → (rows_in leaves ended text).fault ≡ Some at → SpeaksOfLeaf leaves at.fault
