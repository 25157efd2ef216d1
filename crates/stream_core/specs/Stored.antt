-- What the calls that build a specification do.
use Rattle.std.specs.Prelude.{◌≡◌, ◌≢◌, ◌⊎◌, ℕ, ◌<◌, List, [], ◌∷◌, ◌++◌, length, slice_get, Some}
use Rattle.stream_core.specs.declared.node.Node.{Node}
use Rattle.stream_core.specs.declared.spec.Item.{Item}
use Rattle.stream_core.specs.declared.spec.Item.TheVariants as item
use Rattle.stream_core.specs.Value.{SpecValue}

-- the node is nowhere in the list
abbrev pub IsNewNode : List Node → Node → Type 0
IsNewNode nodes n = (i : ℕ) → slice_get nodes i ≢ Some n

-- the node at this number was there already, or was new and came last
abbrev pub IsPlaced : SpecValue → SpecValue → Node → ℕ → Type 0
IsPlaced old new n i =
    ((slice_get old.nodes i ≡ Some n) × (new ≡ old)) ⊎ (IsNewNode old.nodes n × (i ≡ length old.nodes) × (new ≡ record old { nodes = old.nodes ++ n ∷ [] }))

-- the item comes last among its kind
abbrev pub with_item : SpecValue → Item → SpecValue
with_item s (item.Extern x) = record s { externs = s.externs ++ x ∷ [] }
with_item s (item.Stream x) = record s { streams = s.streams ++ x ∷ [] }
with_item s (item.Def x) = record s { defs = s.defs ++ x ∷ [] }
with_item s (item.Trigger x) = record s { triggers = s.triggers ++ x ∷ [] }
with_item s (item.Observer x) = record s { observers = s.observers ++ x ∷ [] }
with_item s (item.Lib x) = record s { libs = s.libs ++ x ∷ [] }

-- there are fewer than 4,294,967,295 of the item's kind
abbrev pub HasRoom : SpecValue → Item → Type 0
HasRoom s (item.Extern x) = length s.externs < 4294967295
HasRoom s (item.Stream x) = length s.streams < 4294967295
HasRoom s (item.Def x) = length s.defs < 4294967295
HasRoom s (item.Trigger x) = length s.triggers < 4294967295
HasRoom s (item.Observer x) = length s.observers < 4294967295
HasRoom s (item.Lib x) = length s.libs < 4294967295
