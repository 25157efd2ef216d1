-- The names that a text declares, each in its space, and the first that is declared again.
use Rattle.std.specs.Prelude.{ℕ, suc, Bool, true, false, ◌&&◌, not, nat_eq, if◌then◌else◌, List, [], ◌∷◌, ◌++◌, map, bytes_eq, Option, Some, None}
use Rattle.std.specs.List.{list_any}
use Rattle.spec_text.specs.declared.surface.NameAt.{NameAt}
use Rattle.spec_text.specs.declared.surface.FieldForm.{FieldForm}
use Rattle.spec_text.specs.declared.surface.Decl.{Decl}
use Rattle.spec_text.specs.declared.surface.Decl.TheVariants as d
use Rattle.spec_text.specs.declared.surface.Surface.{Surface}

-- Names are told apart within a space: the structs, the fields of one struct, by its number among the declarations,
-- and the externs, streams, defs, triggers and observers together.
pub data Space : Type 0 where
  structs : Space
  fields : ℕ → Space
  items : Space

-- a name where it is declared
pub record Declared : Type 0 where
  pub space : Space
  pub name : List ℕ
  pub at : ℕ
  pub trigger : Bool

abbrev pub declared_as : Space → NameAt → Bool → Declared
declared_as space x trigger = record { space = space; name = x.name; at = x.at; trigger = trigger }

-- the names of declaration number i, in text order
abbrev pub names_of : ℕ → Decl → List Declared
names_of i (d.Struct at x fs) = declared_as structs x false ∷ map (λ (f : FieldForm). declared_as (fields i) f.name false) fs
names_of i (d.Extern at x ty) = declared_as items x false ∷ []
names_of i (d.Stream at x ty init e) = declared_as items x false ∷ []
names_of i (d.Def at x ty e) = declared_as items x false ∷ []
names_of i (d.Trigger at x guard args) = declared_as items x true ∷ []
names_of i (d.Observer at x e) = declared_as items x false ∷ []

abbrev pub names_from : ℕ → List Decl → List Declared
names_from i [] = []
names_from i (x ∷ xs) = names_of i x ++ names_from (suc i) xs

-- all names of a text, in text order; that of the specification itself is none of them
abbrev pub declared_names : Surface → List Declared
declared_names s = names_from 0 s.decls

abbrev pub is_same_space : Space → Space → Bool
is_same_space structs structs = true
is_same_space (fields i) (fields j) = nat_eq i j
is_same_space items items = true
is_same_space _ _ = false

-- In version 2 several triggers may have one name.
abbrev pub may_share : ℕ → Declared → Declared → Bool
may_share version a b = nat_eq version 2 && a.trigger && b.trigger

-- an earlier name of the same space forbids this one
abbrev pub forbids : ℕ → Declared → Declared → Bool
forbids version later earlier = is_same_space later.space earlier.space && bytes_eq later.name earlier.name && not (may_share version later earlier)

abbrev pub is_redeclared : ℕ → List Declared → Declared → Bool
is_redeclared version before x = list_any (forbids version x) before

-- the place of the first name that an earlier one forbids
abbrev pub first_redeclared : ℕ → List Declared → List Declared → Option ℕ
first_redeclared version before [] = None
first_redeclared version before (x ∷ xs) = if is_redeclared version before x then Some x.at else first_redeclared version (before ++ x ∷ []) xs

unfoldable pub name_fault : Surface → Option ℕ
name_fault s = first_redeclared s.version [] (declared_names s)
