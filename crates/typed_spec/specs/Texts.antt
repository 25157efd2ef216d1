-- What is kept of a text's names and types.
use Rattle.std.specs.Prelude.{◌≡◌, ℕ, ◌<◌, if◌then◌else◌, List, [], length, slice_get, bytes_eq, Option, Some, None}
use Rattle.std.specs.Map.{lookup}
use Rattle.std.specs.List.{position}
use Rattle.stream_core.specs.declared.node.Node.{Node}
use Rattle.stream_core.specs.declared.node.Node.TheVariants as node
use Rattle.type_check.specs.declared.known.Known.{Known}
use Rattle.type_check.specs.declared.structs.Struct.{Struct as CodeStruct}
use Rattle.type_check.specs.NamedType.{Struct, struct_in}
use Rattle.type_check.specs.Judged.{Scope}
use Rattle.type_check.specs.Standing.{IsScope, AllMean, AreMembers}
use Rattle.type_check.specs.Listed.{AreNumbers}
use Rattle.typed_spec.specs.declared.table.Table.{Table}
use Rattle.typed_spec.specs.declared.text.Text.{Text}
use Rattle.typed_text.specs.ReadSpec.{Numbers, is_in, number_in}

-- each of these names by its first place among them
pub record AreNumbered (all : List (List ℕ)) (table : Table) : Type 0 where
  pub numbers_are : (x : List ℕ) → lookup (bytes_eq x) table.numbers.entries ≡ position (bytes_eq x) all
  pub count : table.count ≡ length all

-- the names and types of a text, behind the declarations of a scope
pub record StandsFor (names : List (List ℕ)) (s : Scope) (n : Numbers) (text : Text) : Type 0 where
  pub scope : IsScope names s text.scope
  pub placed : List Known
  pub numbers : AreNumbers placed text.types.by_type.entries text.types.count
  pub order : AllMean names placed n.order
  pub externs : AreNumbered n.externs text.externs
  pub streams : AreNumbered n.streams text.streams
  pub defs : AreNumbered n.defs text.defs
  pub few : (i : ℕ) (x : CodeStruct) → slice_get text.scope.structs.all.items i ≡ Some x → length x.members < 4294967296
  pub nameless : struct_in s.all [] ≡ None

-- the node of a name
abbrev pub name_node : Numbers → List ℕ → Node
name_node n x =
    if is_in n.externs x then node.Extern (number_in n.externs x)
    else if is_in n.streams x then node.Stream (number_in n.streams x) else node.Def (number_in n.defs x)

-- a struct of a text, as it is kept
abbrev pub IsKept : List (List ℕ) → Option Struct → Option CodeStruct → Type 0
IsKept names None None = Unit {0}
IsKept names (Some s) (Some x) = AreMembers names s.before s.fields x.members × (length x.members < 4294967296)
IsKept names _ _ = ⊥
