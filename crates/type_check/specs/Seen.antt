-- What is known of the names that came before, while a text's names are walked over.
use Rattle.std.specs.Prelude.{ℕ, ◌≤◌, ◌≡◌, Bool, false, ◌&&◌, not, nat_eq, List, bytes_eq, Option}
use Rattle.std.specs.List.{list_any}
use Rattle.std.specs.Map.{lookup}
use Rattle.std.specs.Option.{option_map_or}
use Rattle.spec_text.specs.declared.surface.NameAt.{NameAt}
use Rattle.type_check.specs.Names.{Declared, structs, fields, items, declared_as, is_redeclared}

-- An item's name clashes with an earlier item of this name, unless each of the two lets triggers share it.
abbrev pub clashes : Bool → Option Bool → Bool
clashes shared earlier = option_map_or (λ (shares : Bool). not (shared && shares)) earlier false

-- The structs' names and the items' names tell which later names the earlier ones forbid, and no field of declaration
-- i or of a later one came before.
pub record IsSeen (version : ℕ) (before : List Declared) (i : ℕ) (struct_names : List (List ℕ)) (item_names : List (List ℕ × Bool)) : Type 0 where
  pub structs_are : (x : NameAt) → is_redeclared version before (declared_as structs x false) ≡ list_any (bytes_eq x.name) struct_names
  pub items_are : (x : NameAt) (trigger : Bool) → is_redeclared version before (declared_as items x trigger) ≡ clashes (nat_eq version 2 && trigger) (lookup (bytes_eq x.name) item_names)
  pub fields_are : (j : ℕ) (x : NameAt) → i ≤ j → is_redeclared version before (declared_as (fields j) x false) ≡ false
