-- Each expression of a sound plain specification can be evaluated with the greatest room.
use Rattle.std.proofs.Common.{◌≡◌, ℕ, zero, suc, ◌+◌, ◌*◌, ◌<◌, ◌≤◌, max, List, [], ◌∷◌, length, map, get_or, refl, sym, ap, ◌∙◌, subst, arith}
use Rattle.std.specs.Prelude.{All}
use Rattle.std.proofs.lemmas.List.Elements.{recursion_from_All, All-from_recursion}
use Rattle.stream_types.specs.declared.scalar.Ty.{Ty}
use Rattle.stream_types.specs.TypeList.{Stands}
use Rattle.stream_core.specs.declared.spec.Root.{Root}
use Rattle.stream_core.specs.declared.spec.StreamItem.{StreamItem}
use Rattle.stream_core.specs.declared.spec.TriggerItem.{TriggerItem}
use Rattle.stream_core.specs.declared.spec.ObserverItem.{ObserverItem}
use Rattle.stream_core.specs.Value.{SpecValue}
use Rattle.stream_core.specs.Term.{Term, Terms, lit, extern, stream, def, named, missing, dropped, un, bin, shift, cast, and, or, implies, choose, index, field, array, struct, abs, sign, majority, agreed, lib, end, more, TreeRoot, TreeStream, TreeTrigger, TreeObserver, tree, trees, tree_root, root_with, written_out, closed}
use Rattle.stream_core.specs.Plain.{IsPlain, IsPlainTrigger, IsPlainSpec}
use Rattle.stream_core.specs.Signature.{Signature, signature_of}
use Rattle.stream_core.specs.WellTyped.{HasType, IsGoodStream, IsGoodTrigger, RootHasType, WellTyped}
use Rattle.stream_core.specs.Weights.{loaded, heavy, roots_weight, triggers_weight, observers_weight, streams_weight, libs_weight}
use Rattle.stream_core.specs.Meaning.{closed_spec, weight}
use Rattle.stream_core.proofs.Cycles.{node_there}
use Rattle.stream_core.proofs.Roots.{all_mapped}
use Rattle.stream_core.proofs.PlainDefs.{plain_stays}
use Rattle.stream_core.proofs.WholeWeight.{weight_is}
use Rattle.stream_lib.specs.PlainSpecs.{IsSoundPlain}
use Rattle.stream_interp.specs.Reading.{IsReady}
use Rattle.stream_interp.specs.Room.{node_room, roots_room, triggers_room, observers_room, streams_room, spec_room}
use Rattle.stream_interp.specs.Roots.{IsReadyRoot, IsReadyTrigger, IsReadySpec, closed_root, closed_roots, closed_trigger, closed_triggers, closed_observer, closed_observers}
use Rattle.stream_interp.proofs.ClosedForms.{triggers_are, observers_are}
use Rattle.stream_interp.proofs.ReadItems.{item_of}
use Rattle.stream_interp.proofs.TypedStands.{typed_stands}

-- ---- the greatest room is enough for each

module _ (s : SpecValue) (n : ℕ) where
  root_room : (rs : List Root) → roots_room s rs ≤ n → (k : ℕ) (d : Root) → k < length rs → node_room s (get_or rs k d).expr ≤ n
  root_room [] b k d h = absurd (omega (arith, h))
  root_room (r ∷ rs) b zero d h = omega (arith, b)
  root_room (r ∷ rs) b (suc k) d h = root_room rs (omega (arith, b)) k d (omega (arith, h))

  trigger_room : (xs : List TriggerItem) → triggers_room s xs ≤ n → (k : ℕ) (d : TriggerItem) → k < length xs → (node_room s (get_or xs k d).guard.expr ≤ n) × (roots_room s (get_or xs k d).args ≤ n)
  trigger_room [] b k d h = absurd (omega (arith, h))
  trigger_room (x ∷ xs) b zero d h = (omega (arith, b), omega (arith, b))
  trigger_room (x ∷ xs) b (suc k) d h = trigger_room xs (omega (arith, b)) k d (omega (arith, h))

  observer_room : (xs : List ObserverItem) → observers_room s xs ≤ n → (k : ℕ) (d : ObserverItem) → k < length xs → node_room s (get_or xs k d).root.expr ≤ n
  observer_room [] b k d h = absurd (omega (arith, h))
  observer_room (x ∷ xs) b zero d h = omega (arith, b)
  observer_room (x ∷ xs) b (suc k) d h = observer_room xs (omega (arith, b)) k d (omega (arith, h))

  stream_room : (xs : List StreamItem) → streams_room s xs ≤ n → (k : ℕ) (d : StreamItem) → k < length xs → node_room s (get_or xs k d).expr ≤ n
  stream_room [] b k d h = absurd (omega (arith, h))
  stream_room (x ∷ xs) b zero d h = omega (arith, b)
  stream_room (x ∷ xs) b (suc k) d h = stream_room xs (omega (arith, b)) k d (omega (arith, h))

-- ---- a plain expression weighs something

loaded_some : (e : Term) → IsPlain e → 1 ≤ loaded e
loaded_some (lit c w) h = omega arith
loaded_some (extern x) h = omega arith
loaded_some (stream x) h = omega arith
loaded_some (def d) h = omega arith
loaded_some (named d a) h = loaded_some a h
loaded_some missing h = omega arith
loaded_some (dropped x k) h = omega arith
loaded_some (un o c a) h = omega arith
loaded_some (bin o c a b) h = omega arith
loaded_some (shift d c a cs b) h = omega arith
loaded_some (cast f t a) h = omega arith
loaded_some (and a b) h = omega arith
loaded_some (or a b) h = omega arith
loaded_some (implies a b) h = omega arith
loaded_some (choose c a b) h = omega arith
loaded_some (index t a b) h = omega arith
loaded_some (field t k a) h = omega arith
loaded_some (array t es) h = omega arith
loaded_some (struct t es) h = omega arith
loaded_some (abs c a) h = absurd h
loaded_some (sign c a) h = absurd h
loaded_some (majority c es) h = absurd h
loaded_some (agreed c es) h = absurd h
loaded_some (lib k f es) h = absurd h

module _ (s : SpecValue) (plain : IsSoundPlain s) where
  abbrev sig : Signature
  sig = signature_of (trees s)

  abbrev at : ℕ → Term
  at i = tree s.nodes s.libs i

  written : IsPlainSpec (closed_spec s)
  written = plain_stays (trees s) plain.plain

  triggers_plain : All IsPlainTrigger (closed_triggers s s.triggers)
  triggers_plain = subst (All IsPlainTrigger) (triggers_are s) written.triggers

  abbrev ObserverPlain : TreeObserver → Type 0
  ObserverPlain x = IsPlain x.root.expr

  observers_plain : All ObserverPlain (closed_observers s s.observers)
  observers_plain = subst (All ObserverPlain) (observers_are s) written.observers

  abbrev stream_tree : StreamItem → TreeStream
  stream_tree x = record { name = x.name; ty = x.ty; init = x.init; expr = at x.expr; at = x.at }

  abbrev out : Term → Term
  out e = written_out (trees s).defs e

  abbrev stream_out : TreeStream → TreeStream
  stream_out x = record x { expr = out x.expr }

  stream_plain : (k : ℕ) (d : StreamItem) → k < length s.streams → IsPlain (closed s (get_or s.streams k d).expr)
  unfolding closed
  stream_plain k d h = all_mapped (λ (x : StreamItem). stream_out (stream_tree x)) (λ (x : TreeStream). IsPlain x.expr) s.streams (subst (All (λ (x : TreeStream). IsPlain x.expr)) (fused s.streams) written.streams) k d h
    where
      fused : (xs : List StreamItem) → map stream_out (map stream_tree xs) ≡ map (λ (x : StreamItem). stream_out (stream_tree x)) xs
      fused [] = refl
      fused (x ∷ xs) = ap (λ (ts : List TreeStream). stream_out (stream_tree x) ∷ ts) (fused xs)

  node_ready : (n i : ℕ) (t : Ty) → HasType sig (at i) t → IsPlain (closed s i) → node_room s i ≤ n → IsReady s n i t × Stands s.types t
  node_ready n i t has p b = (record { there = node_there s i t plain.typed has; typed = has; plain = p; enough = b }, typed_stands s plain.typed (at i) t has)

  abbrev trigger_tree : TriggerItem → TreeTrigger
  trigger_tree x = record { name = x.name; guard = tree_root at x.guard; args = map (tree_root at) x.args }

  abbrev observer_tree : ObserverItem → TreeObserver
  observer_tree x = record { name = x.name; root = tree_root at x.root }

  module _ (n : ℕ) (enough : spec_room s ≤ n) where
    parts_of_room : (triggers_room s s.triggers ≤ n) × (observers_room s s.observers ≤ n) × (streams_room s s.streams ≤ n)
    unfolding spec_room
    parts_of_room = (omega (arith, enough), omega (arith, enough), omega (arith, enough))

    trigger_ready : All (IsReadyTrigger s n) s.triggers
    trigger_ready k d h =
        let x = get_or s.triggers k d in
        let good : IsGoodTrigger sig (trigger_tree x) = all_mapped trigger_tree (IsGoodTrigger sig) s.triggers plain.typed.triggers k d h in
        let p : IsPlainTrigger (closed_trigger s x) = all_mapped (closed_trigger s) IsPlainTrigger s.triggers triggers_plain k d h in
        let r = trigger_room s n s.triggers parts_of_room.0 k d h in
        record {
          guard = node_ready n x.guard.expr x.guard.ty good.guard p.0 r.0;
          truth = good.truth;
          args = λ j e b.
              let y = get_or x.args j e in
              node_ready n y.expr y.ty (all_mapped (tree_root at) (RootHasType sig) x.args good.args j e b)
              (all_mapped (closed_root s) (λ (r : TreeRoot). IsPlain r.expr) x.args p.1 j e b) (root_room s n x.args r.1 j e b);
        }

    observer_ready : All (λ (x : ObserverItem). IsReadyRoot s n x.root) s.observers
    observer_ready k d h =
        let x = get_or s.observers k d in
        node_ready n x.root.expr x.root.ty (all_mapped observer_tree (λ (x : TreeObserver). RootHasType sig x.root) s.observers plain.typed.observers k d h)
        (all_mapped (closed_observer s) ObserverPlain s.observers observers_plain k d h) (observer_room s n s.observers parts_of_room.1 k d h)

    stream_ready : All (λ (x : StreamItem). IsReady s n x.expr x.ty × Stands s.types x.ty) s.streams
    stream_ready k d h =
        let x = get_or s.streams k d in
        let good : IsGoodStream sig (stream_tree x) = all_mapped stream_tree (IsGoodStream sig) s.streams plain.typed.streams k d h in
        node_ready n x.expr x.ty good.expr (stream_plain k d h) (stream_room s n s.streams parts_of_room.2 k d h)

  -- ---- as few as the weight allows

  few_triggers : (xs : List TriggerItem) → All IsPlainTrigger (closed_triggers s xs) → length xs ≤ triggers_weight s xs
  few_triggers [] h = omega arith
  few_triggers (x ∷ xs) h =
      let own : IsPlainTrigger (closed_trigger s x) = h 0 (closed_trigger s x) (omega arith) in
      let b = loaded_some (closed s x.guard.expr) own.0 in
      let rest = few_triggers xs (λ k d less. h (suc k) d (omega (arith, less))) in
      omega (arith, b, rest)

  few_observers : (xs : List ObserverItem) → All ObserverPlain (closed_observers s xs) → length xs ≤ observers_weight s xs
  few_observers [] h = omega arith
  few_observers (x ∷ xs) h =
      let own : ObserverPlain (closed_observer s x) = h 0 (closed_observer s x) (omega arith) in
      let b = loaded_some (closed s x.root.expr) own in
      let rest = few_observers xs (λ k d less. h (suc k) d (omega (arith, less))) in
      omega (arith, b, rest)

  few : length s.triggers + length s.observers ≤ 262144
  few =
      let limit : weight s ≤ 262144 = plain.limits.whole in
      let w = weight_is s in
      let t = few_triggers s.triggers triggers_plain in
      let o = few_observers s.observers observers_plain in
      omega (arith, limit, w, t, o)

  pub spec_ready : (n : ℕ) → spec_room s ≤ n → IsReadySpec s n
  spec_ready n enough = record { triggers = trigger_ready n enough; observers = observer_ready n enough; streams = stream_ready n enough; few = few }

-- what a whole step weighs
pub roots_weigh : (s : SpecValue) → triggers_weight s s.triggers + observers_weight s s.observers + streams_weight s s.streams ≤ weight s
roots_weigh s = let w = weight_is s in omega (arith, w)

-- ---- the types of what is read

module _ (s : SpecValue) (plain : IsSoundPlain s) where
  ready : IsReadySpec s (spec_room s)
  ready = spec_ready s plain (spec_room s) (omega arith)

  pub trigger_stands : (xs : List TriggerItem) → xs ≡ s.triggers → (i : ℕ) (x : TriggerItem) → x ≡ get_or xs i x → i < length xs → All (λ (r : Root). Stands s.types r.ty) x.args
  trigger_stands xs e i x is less =
      let t = item_of (IsReadyTrigger s (spec_room s)) xs i x (subst (All (IsReadyTrigger s (spec_room s))) (sym e) ready.triggers) is less in
      λ k d h. (t.args k d h).1

  pub observer_stands : (xs : List ObserverItem) → xs ≡ s.observers → (i : ℕ) (x : ObserverItem) → x ≡ get_or xs i x → i < length xs → Stands s.types x.root.ty
  observer_stands xs e i x is less =
      (item_of (λ (y : ObserverItem). IsReadyRoot s (spec_room s) y.root) xs i x (subst (All (λ (y : ObserverItem). IsReadyRoot s (spec_room s) y.root)) (sym e) ready.observers) is less).1

  pub stream_stands : (xs : List StreamItem) → xs ≡ s.streams → (i : ℕ) (x : StreamItem) → x ≡ get_or xs i x → i < length xs → Stands s.types x.ty
  stream_stands xs e i x is less =
      (item_of (λ (y : StreamItem). IsReady s (spec_room s) y.expr y.ty × Stands s.types y.ty) xs i x
      (subst (All (λ (y : StreamItem). IsReady s (spec_room s) y.expr y.ty × Stands s.types y.ty)) (sym e) ready.streams) is less).1
