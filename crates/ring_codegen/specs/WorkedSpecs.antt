-- The specifications of the tests, which no other contract cites: externs of Bool, nodes that read them, and triggers
-- without arguments.
use Rattle.std.specs.Prelude.{ℕ, List, [], ◌∷◌, map, codes}
use Rattle.stream_types.specs.declared.scalar.Scalar.TheVariants as scalar
use Rattle.stream_types.specs.declared.scalar.Ty.TheVariants as ty
use Rattle.stream_core.specs.declared.node.Node.TheVariants as node
use Rattle.stream_core.specs.declared.spec.ExternItem.{ExternItem}
use Rattle.stream_core.specs.declared.spec.TriggerItem.{TriggerItem}
use Rattle.stream_core.specs.Value.{SpecValue}

-- an extern of Bool, by its name
abbrev pub bool_item : List ℕ → ExternItem
bool_item name = record { name = name; ty = ty.Scalar scalar.Bool }

-- a trigger by its name, the node of its guard, and the place of that in the text
pub record Bare : Type 0 where
  pub name : List ℕ
  pub guard : ℕ
  pub at : ℕ

abbrev pub bare : List ℕ → ℕ → ℕ → Bare
bare name guard at = record { name = name; guard = guard; at = at }

abbrev pub bare_trigger : Bare → TriggerItem
bare_trigger x = record { name = x.name; guard = record { expr = x.guard; ty = ty.Scalar scalar.Bool; at = x.at }; args = [] }

-- a specification by its name, its externs' names, the externs that its nodes read, and its triggers
abbrev pub bare_spec : List ℕ → List (List ℕ) → List ℕ → List Bare → SpecValue
bare_spec name names reads triggers = record {
  name = name;
  types = [];
  nodes = map node.Extern reads;
  externs = map bool_item names;
  streams = [];
  defs = [];
  triggers = map bare_trigger triggers;
  observers = [];
  libs = [];
}

-- (spec a)
abbrev pub empty : SpecValue
empty = bare_spec (codes "a") [] [] []

-- (spec door (extern ajar Bool) (trigger chime ajar))
abbrev pub door : SpecValue
door = bare_spec (codes "door") (codes "ajar" ∷ []) (0 ∷ []) (bare (codes "chime") 0 49 ∷ [])

-- (spec door (extern ajar Bool) (trigger chime ajar) (trigger chime ajar))
abbrev pub doors : SpecValue
doors = bare_spec (codes "door") (codes "ajar" ∷ []) (0 ∷ []) (bare (codes "chime") 0 49 ∷ bare (codes "chime") 0 72 ∷ [])
