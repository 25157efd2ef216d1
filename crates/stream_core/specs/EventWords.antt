-- The words of events, by the types of what happened.
use Rattle.std.specs.Prelude.{ℕ, ◌≡◌, List, slice_get, Some}
use Rattle.std.specs.List.{flat_map}
use Rattle.stream_types.specs.Types.{leaves, AreWords}
use Rattle.stream_core.specs.declared.spec.Root.{Root}
use Rattle.stream_core.specs.declared.spec.TriggerItem.{TriggerItem}
use Rattle.stream_core.specs.declared.spec.ObserverItem.{ObserverItem}
use Rattle.stream_core.specs.Value.{SpecValue}
use Rattle.stream_core.specs.Eval.{Who, trigger, observer}

-- a trigger's words are those of its arguments' types, one after another, and an observer's those of its type
abbrev pub AreWordsOf : SpecValue → Who → List ℕ → Type 0
AreWordsOf s (trigger i) ws = (x : TriggerItem) × (slice_get s.triggers i ≡ Some x) × AreWords (flat_map (λ (r : Root). leaves s.types r.ty) x.args) ws
AreWordsOf s (observer i) ws = (x : ObserverItem) × (slice_get s.observers i ≡ Some x) × AreWords (leaves s.types x.root.ty) ws
