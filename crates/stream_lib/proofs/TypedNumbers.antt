-- In a well typed specification each expression is a node.
use Rattle.std.proofs.Common.{◌≡◌, ap, ℕ, zero, suc, ◌<◌, ◌≤◌, List, [], ◌∷◌, length, map, Bool, true, false, refl, subst, arith}
use Rattle.std.specs.Prelude.{slice_get, Option, None, All, nat_lt}
use Rattle.std.proofs.lemmas.Bool.Decides.{nat_tests}
use Rattle.std.specs.List.{AllByRecursion}
use Rattle.stream_types.specs.declared.scalar.Ty.{Ty}
use Rattle.stream_core.specs.declared.node.Node.{Node}
use Rattle.stream_core.specs.declared.spec.Root.{Root}
use Rattle.stream_core.specs.declared.spec.StreamItem.{StreamItem}
use Rattle.stream_core.specs.declared.spec.DefItem.{DefItem}
use Rattle.stream_core.specs.declared.spec.TriggerItem.{TriggerItem}
use Rattle.stream_core.specs.declared.spec.ObserverItem.{ObserverItem}
use Rattle.stream_core.specs.declared.spec.LibItem.{LibItem}
use Rattle.stream_core.specs.Value.{SpecValue}
use Rattle.stream_core.specs.Term.{Term, TreeLib, TreeObserver, TreeSpec, build_at, tree, tree_root, tree_to, trees}
use Rattle.stream_core.specs.Lower.{lowered_spec}
use Rattle.stream_lib.specs.Renamed.{AreNumbers, HasNumbers}
use Rattle.std.proofs.lemmas.List.Elements.{All-head, All-tail}
use Rattle.stream_core.specs.WellTyped.{HasType, IsGoodDef, IsGoodLib, IsGoodStream, IsGoodTrigger, ListHasTypes, RootHasType, WellTyped, operand_types}
use Rattle.stream_core.specs.Signature.{Signature}
use Rattle.stream_core.specs.Signature.{signature_of}

outside : (nodes : List Node) (i : ℕ) → length nodes ≤ i → slice_get nodes i ≡ None
outside [] i h = refl
outside (n ∷ ns) zero h = absurd (omega (arith, h))
outside (n ∷ ns) (suc i) h = outside ns i (omega (arith, h))

pub typed_inside : (nodes : List Node) (libs : List LibItem) (sig : Signature) (t : Ty) (i : ℕ) → HasType sig (tree nodes libs i) t → i < length nodes
unfolding tree
typed_inside nodes libs sig t i typed = by (nat_lt i (length nodes)) refl
  where
    by : (b : Bool) → nat_lt i (length nodes) ≡ b → i < length nodes
    by true e = grind (arith, nat_tests, e)
    by false e =
        let far : length nodes ≤ i = grind (arith, nat_tests, e) in
        absurd (subst (λ (o : Option Node). HasType sig (build_at libs (tree_to nodes libs i) o) t) (outside nodes i far) typed)

module _ (nodes : List Node) (libs : List LibItem) (sig : Signature) where
  abbrev T : ℕ → Term
  T = tree nodes libs

  streams_in : (xs : List StreamItem) → All (IsGoodStream sig) (map (λ (x : StreamItem). record { name = x.name; ty = x.ty; init = x.init; expr = T x.expr; at = x.at }) xs)
      → AllByRecursion (λ (x : StreamItem). x.expr < length nodes) xs
  streams_in [] h = tt
  streams_in (x ∷ xs) h = (typed_inside nodes libs sig x.ty x.expr (All-head (IsGoodStream sig) _ _ h).expr, streams_in xs (All-tail (IsGoodStream sig) _ _ h))

  defs_in : (xs : List DefItem) → All (IsGoodDef sig) (map (λ (x : DefItem). record { name = x.name; ty = x.ty; expr = T x.expr; at = x.at }) xs)
      → AllByRecursion (λ (x : DefItem). x.expr < length nodes) xs
  defs_in [] h = tt
  defs_in (x ∷ xs) h = (typed_inside nodes libs sig x.ty x.expr (All-head (IsGoodDef sig) _ _ h).expr, defs_in xs (All-tail (IsGoodDef sig) _ _ h))

  roots_in : (xs : List Root) → All (RootHasType sig) (map (tree_root T) xs) → AllByRecursion (λ (r : Root). r.expr < length nodes) xs
  roots_in [] h = tt
  roots_in (x ∷ xs) h = (typed_inside nodes libs sig x.ty x.expr (All-head (RootHasType sig) _ _ h), roots_in xs (All-tail (RootHasType sig) _ _ h))

  observers_in : (xs : List ObserverItem) → All (λ (x : TreeObserver). RootHasType sig x.root) (map (λ (x : ObserverItem). record { name = x.name; root = tree_root T x.root }) xs)
      → AllByRecursion (λ (x : ObserverItem). x.root.expr < length nodes) xs
  observers_in [] h = tt
  observers_in (x ∷ xs) h = (typed_inside nodes libs sig x.root.ty x.root.expr (All-head (λ (y : TreeObserver). RootHasType sig y.root) _ _ h), observers_in xs (All-tail (λ (y : TreeObserver). RootHasType sig y.root) _ _ h))

  triggers_in : (xs : List TriggerItem) → All (IsGoodTrigger sig) (map (λ (x : TriggerItem). record { name = x.name; guard = tree_root T x.guard; args = map (tree_root T) x.args }) xs)
      → AllByRecursion (HasNumbers (length nodes)) xs
  triggers_in [] h = tt
  triggers_in (x ∷ xs) h =
      let g = All-head (IsGoodTrigger sig) _ _ h in
      ((typed_inside nodes libs sig x.guard.ty x.guard.expr g.guard, roots_in x.args g.args), triggers_in xs (All-tail (IsGoodTrigger sig) _ _ h))

  args_in : (is : List ℕ) (ts : List Ty) → ListHasTypes sig (map T is) ts → AllByRecursion (λ j. j < length nodes) is
  args_in [] ts h = tt
  args_in (i ∷ is) [] h = absurd h
  args_in (i ∷ is) (t ∷ ts) h = (typed_inside nodes libs sig t i h.0, args_in is ts h.1)

  libs_in : (xs : List LibItem) → All (IsGoodLib sig) (map (λ (x : LibItem). record { form = x.form; args = map T x.args; at = x.at }) xs)
      → AllByRecursion (λ (x : LibItem). AllByRecursion (λ j. j < length nodes) x.args) xs
  libs_in [] h = tt
  libs_in (x ∷ xs) h = (args_in x.args (operand_types x.form) (All-head (IsGoodLib sig) _ _ h).args, libs_in xs (All-tail (IsGoodLib sig) _ _ h))

pub numbers_in : (s : SpecValue) → WellTyped s → AreNumbers (length s.nodes) s
numbers_in s w = let sig = signature_of (trees s) in record {
  streams = streams_in s.nodes s.libs sig s.streams w.streams;
  defs = defs_in s.nodes s.libs sig s.defs w.defs;
  triggers = triggers_in s.nodes s.libs sig s.triggers w.triggers;
  observers = observers_in s.nodes s.libs sig s.observers w.observers;
  libs = libs_in s.nodes s.libs sig s.libs w.libs;
}

no_items : (f : LibItem → TreeLib) (xs : List LibItem) → map f xs ≡ [] → xs ≡ []
no_items f [] e = refl
no_items f (x ∷ xs) e = absurd (cc)

pub no_libs : (s t : SpecValue) → trees t ≡ lowered_spec (trees s) → t.libs ≡ []
no_libs s t e = no_items _ t.libs (ap (λ (x : TreeSpec). x.libs) e)
