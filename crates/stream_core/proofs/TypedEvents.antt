-- The words of a step's events are words of their types.
use Rattle.std.proofs.Common.{◌≡◌, ℕ, suc, ◌+◌, ◌<◌, List, [], ◌∷◌, ◌++◌, length, map, inl, inr, Ok, refl, sym, ap, ◌∙◌, arith, subst}
use Rattle.std.specs.Prelude.{slice_get, Some, All}
use Rattle.std.specs.List.{AllByRecursion, flat_map}
use Rattle.stream_types.specs.Types.{leaves, AreWords}
use Rattle.stream_types.proofs.LeafParts.{AreWords-append}
use Rattle.stream_core.specs.declared.spec.Root.{Root}
use Rattle.stream_core.specs.declared.spec.TriggerItem.{TriggerItem}
use Rattle.stream_core.specs.declared.spec.ObserverItem.{ObserverItem}
use Rattle.stream_core.specs.Value.{SpecValue}
use Rattle.stream_core.specs.Term.{Term, TreeRoot, TreeTrigger, TreeObserver, tree, trees, tree_root, written_out, root_with, defs_of}
use Rattle.stream_core.specs.Eval.{Moment, Table, Event, StepValues, value, moment}
use Rattle.stream_core.specs.Acyclic.{Acyclic}
use Rattle.stream_core.specs.Signature.{signature_of}
use Rattle.stream_core.specs.WellTyped.{RootHasType, IsGoodTrigger, WellTyped}
use Rattle.stream_core.specs.Meaning.{IsHistory, closed_spec, table}
use Rattle.stream_core.specs.StepParts.{HaveValues, Fires, AreFired, AreObserved, IsCleanStep}
use Rattle.stream_core.specs.EventWords.{AreWordsOf}
use Rattle.stream_core.proofs.ClosedTypes.{head, tail, node_words}

-- the items behind n others
abbrev IsBehind : {X : Type 0} → List X → ℕ → List X → Type 0
IsBehind {X} all n xs = (k : ℕ) (x : X) → slice_get xs k ≡ Some x → slice_get all (n + k) ≡ Some x

here : {X : Type 0} (all : List X) (n : ℕ) (x : X) (xs : List X) → IsBehind all n (x ∷ xs) → slice_get all n ≡ Some x
here all n x xs h = ap (slice_get all) (let e : n ≡ n + 0 = omega arith in e) ∙ h 0 x refl

behind : {X : Type 0} (all : List X) (n : ℕ) (x : X) (xs : List X) → IsBehind all n (x ∷ xs) → IsBehind all (n + 1) xs
behind all n x xs h = λ k y e. ap (slice_get all) (let q : n + 1 + k ≡ n + suc k = omega arith in q) ∙ h (suc k) y e

both : {X : Type 0} (P : X → Type 0) (xs ys : List X) → AllByRecursion P xs → AllByRecursion P ys → AllByRecursion P (xs ++ ys)
both P [] ys p q = q
both P (x ∷ xs) ys p q = (p.0, both P xs ys p.1 q)

module _ (s : SpecValue) (w : WellTyped s) (acyclic : Acyclic (defs_of s)) (h : List (List ℕ)) (history : IsHistory s h) (n : ℕ) (T : Table) (is : table s h n ≡ Ok T) (within : n < length h) where
  abbrev at : ℕ → Term
  at i = tree s.nodes s.libs i

  abbrev out : Term → Term
  out e = written_out (trees s).defs e

  abbrev now : Moment
  now = moment (closed_spec s) T h n

  abbrev Good : Event → Type 0
  Good e = AreWordsOf s e.who e.words

  root_words : (r : Root) (v : List ℕ) → RootHasType (signature_of (trees s)) (tree_root at r) → value now (out (at r.expr)) ≡ Ok v → AreWords (leaves s.types r.ty) v
  root_words r v g e = node_words s w acyclic h history n T is within r.expr r.ty v g e

  abbrev root_out : TreeRoot → TreeRoot
  root_out r = root_with out r

  args_words : (rs : List Root) → All (RootHasType (signature_of (trees s))) (map (tree_root at) rs) → (vs : List (List ℕ)) → HaveValues now (map (λ (r : TreeRoot). r.expr) (map root_out (map (tree_root at) rs))) vs → AreWords (flat_map (λ (r : Root). leaves s.types r.ty) rs) (flat_map (λ v. v) vs)
  args_words [] g [] e = tt
  args_words [] g (v ∷ vs) e = absurd e
  args_words (r ∷ rs) g [] e = absurd e
  args_words (r ∷ rs) g (v ∷ vs) e =
      AreWords-append (leaves s.types r.ty) (flat_map (λ (r : Root). leaves s.types r.ty) rs) v (flat_map (λ v. v) vs)
      (root_words r v (head (RootHasType (signature_of (trees s))) (tree_root at r) (map (tree_root at) rs) g) e.0)
      (args_words rs (tail (RootHasType (signature_of (trees s))) (tree_root at r) (map (tree_root at) rs) g) vs e.1)

  abbrev trigger_tree : TriggerItem → TreeTrigger
  trigger_tree x = record { name = x.name; guard = tree_root at x.guard; args = map (tree_root at) x.args }

  abbrev trigger_out : TreeTrigger → TreeTrigger
  trigger_out x = record x { guard = root_out x.guard; args = map root_out x.args }

  fires_words : (i : ℕ) (x : TriggerItem) (e : Event) → slice_get s.triggers i ≡ Some x → IsGoodTrigger (signature_of (trees s)) (trigger_tree x) → Fires now i (trigger_out (trigger_tree x)) e → Good e
  fires_words i x e there g f = subst Good (sym f.event) (x, there, args_words x.args g.args f.args f.are)

  fired_words : (xs : List TriggerItem) (i : ℕ) → IsBehind s.triggers i xs → All (IsGoodTrigger (signature_of (trees s))) (map trigger_tree xs) → (es : List Event) → AreFired now i (map trigger_out (map trigger_tree xs)) es → AllByRecursion Good es
  fired_words [] i b g es f = subst (AllByRecursion Good) (sym f) tt
  fired_words (x ∷ xs) i b g es (inl f) =
      fired_words xs (i + 1) (behind s.triggers i x xs b) (tail (IsGoodTrigger (signature_of (trees s))) (trigger_tree x) (map trigger_tree xs) g) es f.1
  fired_words (x ∷ xs) i b g es (inr f) =
      subst (AllByRecursion Good) (sym f.2) (
        fires_words i x f.0 (here s.triggers i x xs b) (head (IsGoodTrigger (signature_of (trees s))) (trigger_tree x) (map trigger_tree xs) g) f.3,
        fired_words xs (i + 1) (behind s.triggers i x xs b) (tail (IsGoodTrigger (signature_of (trees s))) (trigger_tree x) (map trigger_tree xs) g) f.1 f.4,
      )

  abbrev observer_tree : ObserverItem → TreeObserver
  observer_tree x = record { name = x.name; root = tree_root at x.root }

  abbrev observer_out : TreeObserver → TreeObserver
  observer_out x = record x { root = root_out x.root }

  abbrev Typed : TreeObserver → Type 0
  Typed x = RootHasType (signature_of (trees s)) x.root

  observed_words : (xs : List ObserverItem) (i : ℕ) → IsBehind s.observers i xs → All Typed (map observer_tree xs) → (es : List Event) → AreObserved now i (map observer_out (map observer_tree xs)) es → AllByRecursion Good es
  observed_words [] i b g es f = subst (AllByRecursion Good) (sym f) tt
  observed_words (x ∷ xs) i b g es f =
      subst (AllByRecursion Good) (sym f.2) (
        (x, here s.observers i x xs b, root_words x.root f.0 (head Typed (observer_tree x) (map observer_tree xs) g) f.3),
        observed_words xs (i + 1) (behind s.observers i x xs b) (tail Typed (observer_tree x) (map observer_tree xs) g) f.1 f.4,
      )

  pub event_words : (v : StepValues) → IsCleanStep (closed_spec s) now v → AllByRecursion Good (v.triggered ++ v.observed)
  event_words v clean =
      both Good v.triggered v.observed
      (fired_words s.triggers 0 (λ k x e. ap (slice_get s.triggers) (let q : 0 + k ≡ k = omega arith in q) ∙ e) w.triggers v.triggered clean.triggered)
      (observed_words s.observers 0 (λ k x e. ap (slice_get s.observers) (let q : 0 + k ≡ k = omega arith in q) ∙ e) w.observers v.observed clean.observed)
