-- A specification over trees whose parts have their types.
use Rattle.std.specs.Prelude.{All}
use Rattle.stream_types.specs.TypeList.{Stands, IsTypeList}
use Rattle.stream_core.specs.declared.spec.ExternItem.{ExternItem}
use Rattle.stream_core.specs.Term.{TreeSpec, TreeObserver}
use Rattle.stream_core.specs.Signature.{signature_of}
use Rattle.stream_core.specs.WellTyped.{RootHasType, IsGoodStream, IsGoodDef, IsGoodTrigger, IsGoodLib}

-- each declaration has its type over the specification's own signature
pub record HasTypedParts (s : TreeSpec) : Type 0 where
  pub types : IsTypeList s.types
  pub externs : All (λ (x : ExternItem). Stands s.types x.ty) s.externs
  pub streams : All (IsGoodStream (signature_of s)) s.streams
  pub defs : All (IsGoodDef (signature_of s)) s.defs
  pub triggers : All (IsGoodTrigger (signature_of s)) s.triggers
  pub observers : All (λ (x : TreeObserver). RootHasType (signature_of s) x.root) s.observers
  pub libs : All (IsGoodLib (signature_of s)) s.libs
