-- A specification as contracts see it.
use Rattle.std.specs.Prelude.{ℕ, List}
use Rattle.stream_types.specs.declared.types.TypeEntry.{TypeEntry}
use Rattle.stream_core.specs.declared.node.Node.{Node}
use Rattle.stream_core.specs.declared.spec.ExternItem.{ExternItem}
use Rattle.stream_core.specs.declared.spec.StreamItem.{StreamItem}
use Rattle.stream_core.specs.declared.spec.DefItem.{DefItem}
use Rattle.stream_core.specs.declared.spec.TriggerItem.{TriggerItem}
use Rattle.stream_core.specs.declared.spec.ObserverItem.{ObserverItem}
use Rattle.stream_core.specs.declared.spec.LibItem.{LibItem}

pub record SpecValue : Type 0 where
  pub name : List ℕ
  pub types : List TypeEntry
  pub nodes : List Node
  pub externs : List ExternItem
  pub streams : List StreamItem
  pub defs : List DefItem
  pub triggers : List TriggerItem
  pub observers : List ObserverItem
  pub libs : List LibItem
