-- What typing reads of a specification: its types, and the types of what is declared.
use Rattle.std.specs.Prelude.{ℕ, List, map}
use Rattle.stream_types.specs.declared.scalar.Ty.{Ty}
use Rattle.stream_types.specs.declared.types.TypeEntry.{TypeEntry}
use Rattle.stream_core.specs.declared.spec.ExternItem.{ExternItem}
use Rattle.stream_core.specs.declared.spec.StreamItem.{StreamItem}
use Rattle.stream_core.specs.declared.spec.DefItem.{DefItem}
use Rattle.stream_core.specs.Value.{SpecValue}
use Rattle.stream_core.specs.Term.{TreeSpec, TreeStream, TreeDef, value_count, initial_count}

-- a stream's type, and how many initial values it has
pub record StreamSignature : Type 0 where
  pub ty : Ty
  pub count : ℕ

pub record Signature : Type 0 where
  pub types : List TypeEntry
  pub externs : List Ty
  pub streams : List StreamSignature
  pub defs : List Ty

-- ---- of a specification

abbrev pub extern_types : List ExternItem → List Ty
extern_types xs = map (λ (x : ExternItem). x.ty) xs

abbrev pub stream_signature : List TypeEntry → TreeStream → StreamSignature
stream_signature types x = record { ty = x.ty; count = initial_count types x }

abbrev pub def_types : List TreeDef → List Ty
def_types xs = map (λ (x : TreeDef). x.ty) xs

-- what typing reads of a specification over trees
abbrev pub signature_of : TreeSpec → Signature
signature_of s = record { types = s.types; externs = extern_types s.externs; streams = map (stream_signature s.types) s.streams; defs = def_types s.defs }

-- the same, of a specification over nodes
abbrev pub item_signature : List TypeEntry → StreamItem → StreamSignature
item_signature types x = record { ty = x.ty; count = value_count types x.ty x.init }

abbrev pub items_signature : SpecValue → Signature
items_signature s = record { types = s.types; externs = extern_types s.externs; streams = map (item_signature s.types) s.streams; defs = map (λ (x : DefItem). x.ty) s.defs }
