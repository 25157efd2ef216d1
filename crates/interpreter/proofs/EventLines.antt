-- The line of an event, by the parts of its trigger's arguments or its observer's value.
use Rattle.std.proofs.Common.{◌≡◌, ◌<◌, ℕ, true, false, List, [], ◌∷◌, ◌++◌, length, map, get_or, Option, Some, refl, sym, ap, ◌∙◌, subst, append-nil, arith}
use Rattle.std.specs.Prelude.{slice_get}
use Rattle.std.specs.List.{flat_map}
use Rattle.std.specs.Option.{option_map}
use Rattle.std.proofs.lemmas.Option.{get_or_from_slice_get, slice_get-map, slice_get_within}
use Rattle.std.proofs.lemmas.List.Concat.{flat_map-cons}
use Rattle.stream_types.specs.declared.scalar.Scalar.{Scalar}
use Rattle.stream_types.specs.declared.scalar.Ty.{Ty}
use Rattle.stream_types.specs.declared.types.TypeEntry.{TypeEntry}
use Rattle.stream_types.specs.Types.{AreWords, leaves}
use Rattle.stream_core.specs.declared.spec.Root.{Root}
use Rattle.stream_core.specs.declared.spec.TriggerItem.{TriggerItem}
use Rattle.stream_core.specs.declared.spec.ObserverItem.{ObserverItem}
use Rattle.stream_core.specs.Value.{SpecValue}
use Rattle.stream_core.specs.Term.{Term, TreeObserver, TreeRoot, TreeTrigger, tree, tree_root, trees}
use Rattle.stream_core.specs.Eval.{Event, Who, trigger, observer}
use Rattle.extern_rows.specs.Events.{Fits, event_text}
use Rattle.extern_rows.specs.ValueTexts.{EventOf, typed_event_text}
use Rattle.extern_rows.proofs.ValuePieces.{events_show_values}
use Rattle.interpreter.specs.Interpreted.{line_of_event, of_observer, of_trigger}
use Rattle.interpreter.specs.Lines.{ShapesValue, observer_shape, shapes_of, trigger_shape}

root_types : (f : ℕ → Term) (rs : List Root) → map (λ (r : TreeRoot). r.ty) (map (tree_root f) rs) ≡ map (λ (r : Root). r.ty) rs
root_types f [] = refl
root_types f (r ∷ rs) = ap (λ (ts : List Ty). r.ty ∷ ts) (root_types f rs)

leaves_of_roots : (types : List TypeEntry) (rs : List Root) → flat_map (leaves types) (map (λ (r : Root). r.ty) rs) ≡ flat_map (λ (r : Root). leaves types r.ty) rs
leaves_of_roots types [] = refl
leaves_of_roots types (r ∷ rs) =
    flat_map-cons (leaves types) r.ty (map (λ (r : Root). r.ty) rs)
    ∙ ap (λ (ss : List Scalar). leaves types r.ty ++ ss) (leaves_of_roots types rs)
    ∙ sym (flat_map-cons (λ (r : Root). leaves types r.ty) r rs)

one_line : (types : List TypeEntry) (n : ℕ) (e : EventOf) → flat_map (typed_event_text types n) (e ∷ []) ≡ typed_event_text types n e
one_line types n e = flat_map-cons (typed_event_text types n) e [] ∙ append-nil (typed_event_text types n e)

module _ (s : SpecValue) (n i : ℕ) (ws : List ℕ) where
  abbrev tree_trigger : TriggerItem → TreeTrigger
  tree_trigger x = record { name = x.name; guard = tree_root (tree s.nodes s.libs) x.guard; args = map (tree_root (tree s.nodes s.libs)) x.args }

  abbrev tree_observer : ObserverItem → TreeObserver
  tree_observer x = record { name = x.name; root = tree_root (tree s.nodes s.libs) x.root }

  abbrev triggered : TriggerItem → List Ty → EventOf
  triggered x args = record { mark = false; name = x.name; args = args; words = ws }

  pub trigger_line : (x : TriggerItem) → slice_get s.triggers i ≡ Some x → AreWords (flat_map (λ (r : Root). leaves s.types r.ty) x.args) ws
      → Fits (trigger_shape s x) ws × (event_text n false x.name (trigger_shape s x) ws ≡ line_of_event (trees s) n (record { who = trigger i; words = ws }))
  trigger_line x there words =
      let args : List Ty = map (λ (r : Root). r.ty) x.args in
      let shows = events_show_values s.types n (triggered x args) (subst (λ (ss : List Scalar). AreWords ss ws) (sym (leaves_of_roots s.types x.args)) words) in
      let line : line_of_event (trees s) n (record { who = trigger i; words = ws }) ≡ typed_event_text s.types n (triggered x args) =
      ap (λ (o : Option TreeTrigger). flat_map (typed_event_text s.types n) (of_trigger o ws)) (slice_get-map tree_trigger s.triggers i ∙ ap (option_map tree_trigger) there)
      ∙ ap (λ (ts : List Ty). flat_map (typed_event_text s.types n) (triggered x ts ∷ [])) (root_types (tree s.nodes s.libs) x.args)
      ∙ one_line s.types n (triggered x args) in
      (shows.fits, shows.text ∙ sym line)

  abbrev watched : ObserverItem → EventOf
  watched x = record { mark = true; name = x.name; args = x.root.ty ∷ []; words = ws }

  pub observer_line : (x : ObserverItem) → slice_get s.observers i ≡ Some x → AreWords (leaves s.types x.root.ty) ws
      → Fits (observer_shape s x) ws × (event_text n true x.name (observer_shape s x) ws ≡ line_of_event (trees s) n (record { who = observer i; words = ws }))
  observer_line x there words =
      let one : flat_map (leaves s.types) (x.root.ty ∷ []) ≡ leaves s.types x.root.ty = flat_map-cons (leaves s.types) x.root.ty [] ∙ append-nil (leaves s.types x.root.ty) in
      let shows = events_show_values s.types n (watched x) (subst (λ (ss : List Scalar). AreWords ss ws) (sym one) words) in
      let line : line_of_event (trees s) n (record { who = observer i; words = ws }) ≡ typed_event_text s.types n (watched x) =
      ap (λ (o : Option TreeObserver). flat_map (typed_event_text s.types n) (of_observer o ws)) (slice_get-map tree_observer s.observers i ∙ ap (option_map tree_observer) there)
      ∙ one_line s.types n (watched x) in
      (shows.fits, shows.text ∙ sym line)

-- ---- shapes by number

pub trigger_shape_at : (s : SpecValue) (shapes : ShapesValue) (i : ℕ) (x : TriggerItem) → shapes ≡ shapes_of s → slice_get s.triggers i ≡ Some x
    → slice_get shapes.triggers i ≡ Some (trigger_shape s x)
trigger_shape_at s shapes i x is there =
    ap (λ (v : ShapesValue). slice_get v.triggers i) is ∙ slice_get-map (trigger_shape s) s.triggers i ∙ ap (option_map (trigger_shape s)) there

pub observer_shape_at : (s : SpecValue) (shapes : ShapesValue) (i : ℕ) (x : ObserverItem) → shapes ≡ shapes_of s → slice_get s.observers i ≡ Some x
    → slice_get shapes.observers i ≡ Some (observer_shape s x)
observer_shape_at s shapes i x is there =
    ap (λ (v : ShapesValue). slice_get v.observers i) is ∙ slice_get-map (observer_shape s) s.observers i ∙ ap (option_map (observer_shape s)) there

-- an element by its place
pub picked : {X : Type 0} (xs ys : List X) (i : ℕ) (x y : X) → ys ≡ xs → slice_get xs i ≡ Some x → y ≡ get_or ys i y → y ≡ x
picked xs ys i x y e there is = is ∙ ap (λ (zs : List _). get_or zs i y) e ∙ get_or_from_slice_get xs i x y there

pub got : {X : Type 0} (xs ys : List X) (i : ℕ) (x d : X) → ys ≡ xs → slice_get xs i ≡ Some x → get_or ys i d ≡ x
got xs ys i x d e there = ap (λ (zs : List _). get_or zs i d) e ∙ get_or_from_slice_get xs i x d there

pub within : {X : Type 0} (xs ys : List X) (i : ℕ) (x : X) → ys ≡ xs → slice_get xs i ≡ Some x → i < length ys
within xs ys i x e there = let low = slice_get_within xs i x there in omega (arith, ap length e, low)

pub event_is : (e : Event) (who : Who) (ws : List ℕ) → who ≡ e.who → ws ≡ e.words → record { who = who; words = ws } ≡ e
event_is e who ws a b = λ j. record { who = a j; words = b j }
