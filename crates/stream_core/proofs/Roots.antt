-- The roots of a well typed specification are its nodes, and without a cycle its trees are there.
use Rattle.std.proofs.Common.{◌≡◌, ℕ, ◌<◌, List, length, map, get_or, Some, ap, ◌∙◌, subst, arith}
use Rattle.std.specs.Prelude.{slice_get, All}
use Rattle.std.specs.Option.{option_map}
use Rattle.std.proofs.lemmas.List.{length-map}
use Rattle.std.proofs.lemmas.Option.{slice_get-map, slice_get_within, slice_get-get_or, get_or_from_slice_get}
use Rattle.stream_core.specs.declared.spec.StreamItem.{StreamItem}
use Rattle.stream_core.specs.declared.spec.TriggerItem.{TriggerItem}
use Rattle.stream_core.specs.declared.spec.ObserverItem.{ObserverItem}
use Rattle.stream_core.specs.Value.{SpecValue}
use Rattle.stream_core.specs.Term.{TreeStream, TreeTrigger, TreeDef, TreeObserver, tree, trees, tree_root, defs_of}
use Rattle.stream_core.specs.Limits.{Mentions, mentions}
use Rattle.stream_core.specs.Acyclic.{Acyclic, WellFounded}
use Rattle.stream_core.specs.Soundness.{HasNoCycle}
use Rattle.stream_core.specs.Signature.{def_types, signature_of}
use Rattle.stream_core.specs.WellTyped.{IsGoodStream, IsGoodDef, IsGoodTrigger, RootHasType, WellTyped}
use Rattle.stream_core.specs.Weights.{IsTriggerThere, IsGoodItem}
use Rattle.stream_core.proofs.Cycles.{node_there, each_in, well_founded}
use Rattle.stream_core.proofs.GoodNodes.{good_item}
use Rattle.stream_core.proofs.Mentioned.{mentioned}
use Rattle.stream_core.proofs.Ranked.{ranked}

pub all_mapped : {A B : Type 0} (f : A → B) (P : B → Type 0) (xs : List A) → All P (map f xs) → (k : ℕ) (d : A) → k < length xs → P (f (get_or xs k d))
all_mapped f P xs all k d h =
    let x = get_or xs k d in
    let e : slice_get (map f xs) k ≡ Some (f x) = slice_get-map f xs k ∙ ap (option_map f) (slice_get-get_or xs k d h) in
    subst P (get_or_from_slice_get (map f xs) k (f x) (f x) e) (all k (f x) (slice_get_within (map f xs) k (f x) e))

module _ (s : SpecValue) (w : WellTyped s) where
  abbrev stream_tree : StreamItem → TreeStream
  stream_tree x = record { name = x.name; ty = x.ty; init = x.init; expr = tree s.nodes s.libs x.expr; at = x.at }

  abbrev trigger_tree : TriggerItem → TreeTrigger
  trigger_tree x = record { name = x.name; guard = tree_root (tree s.nodes s.libs) x.guard; args = map (tree_root (tree s.nodes s.libs)) x.args }

  abbrev observer_tree : ObserverItem → TreeObserver
  observer_tree x = record { name = x.name; root = tree_root (tree s.nodes s.libs) x.root }

  pub triggers_there : All (IsTriggerThere s) s.triggers
  triggers_there k d h =
      let x = get_or s.triggers k d in
      let good = all_mapped trigger_tree (IsGoodTrigger (signature_of (trees s))) s.triggers w.triggers k d h in
      (node_there s x.guard.expr x.guard.ty w good.guard, λ j r b. let y = get_or x.args j r in node_there s y.expr y.ty w (all_mapped (tree_root (tree s.nodes s.libs)) (RootHasType (signature_of (trees s))) x.args good.args j r b))

  pub observers_there : All (λ (x : ObserverItem). x.root.expr < length s.nodes) s.observers
  observers_there k d h = let x = get_or s.observers k d in node_there s x.root.expr x.root.ty w (all_mapped observer_tree (λ (x : TreeObserver). RootHasType (signature_of (trees s)) x.root) s.observers w.observers k d h)

  pub streams_there : All (λ (x : StreamItem). x.expr < length s.nodes) s.streams
  streams_there k d h = let x = get_or s.streams k d in let good = all_mapped stream_tree (IsGoodStream (signature_of (trees s))) s.streams w.streams k d h in node_there s x.expr x.ty w good.expr

  pub items_good : All (IsGoodItem s) s.libs
  items_good k d h = good_item s w k (get_or s.libs k d) (slice_get-get_or s.libs k d h)

  mentions_there : (a b : ℕ) → Mentions (defs_of s) a b → b < length (defs_of s)
  mentions_there a b m =
      let b_in = slice_get_within (trees s).defs a m.from m.is in
      let good : IsGoodDef (signature_of (trees s)) m.from = subst (IsGoodDef (signature_of (trees s))) (get_or_from_slice_get (trees s).defs a m.from m.from m.is) (w.defs a m.from b_in) in
      let types_in = each_in (λ d. d < length (def_types (trees s).defs)) (mentions m.from.expr) b (mentioned (signature_of (trees s)) m.from.expr m.from.ty good.expr) m.to in
      let l : length (def_types (trees s).defs) ≡ length (trees s).defs = length-map (trees s).defs (λ (x : TreeDef). x.ty) in
      omega (arith, types_in, l)

  pub acyclic : HasNoCycle (defs_of s) → Acyclic (defs_of s)
  acyclic none = ranked (defs_of s) none mentions_there

  pub founded : HasNoCycle (defs_of s) → WellFounded s
  founded none = well_founded s w (acyclic none)
