-- A well typed specification without a cycle of defs means what it is lowered to.
use Rattle.std.proofs.Common.{◌≡◌, ℕ, zero, suc, ◌<◌, ◌≤◌, List, [], ◌∷◌, ◌++◌, length, map, refl, sym, ap, ◌∙◌, arith, Some, Ok, Err}
use Rattle.std.specs.Prelude.{slice_get, slice_index_or}
use Rattle.std.specs.List.{AllByRecursion}
use Rattle.stream_types.specs.declared.scalar.Hazard.{Hazard}
use Rattle.stream_types.specs.declared.scalar.Ty.{Ty}
use Rattle.stream_core.specs.declared.spec.Root.{Root}
use Rattle.stream_core.specs.declared.spec.TriggerItem.{TriggerItem}
use Rattle.stream_core.specs.declared.spec.ObserverItem.{ObserverItem}
use Rattle.stream_core.specs.Value.{SpecValue}
use Rattle.stream_core.specs.Term.{Term, TreeSpec, TreeTrigger, TreeObserver, TreeRoot, TreeLib, tree, trees, tree_root, root_with, written_out, defs_of}
use Rattle.stream_core.specs.Acyclic.{Acyclic}
use Rattle.stream_core.specs.Soundness.{HasNoCycle}
use Rattle.stream_core.specs.Signature.{signature_of}
use Rattle.stream_core.specs.WellTyped.{HasType, RootHasType, IsGoodTrigger, WellTyped}
use Rattle.stream_core.specs.WrittenOut.{IsWrittenOut}
use Rattle.stream_core.specs.Eval.{Table, or_none, moment, value, table_after, step_events, place_of, log}
use Rattle.stream_core.specs.Meaning.{IsHistory, closed_spec}
use Rattle.stream_core.specs.KeptLimits.{plain_form}
use Rattle.stream_core.specs.Lower.{lowered_spec, buffer_of}
use Rattle.stream_core.proofs.Roots.{acyclic}
use Rattle.stream_core.proofs.ClosedTypes.{node_out, closed_is_typed}
use Rattle.form_laws.specs.Buffers.{HoldBuffers}
use Rattle.form_laws.specs.Kept.{lowered_in, samples_at}
use Rattle.form_laws.proofs.KeptForms.{AllFormsKept, PlainFormsKept, all_kept, plain_kept}
use Rattle.form_laws.proofs.OutOfSpecs.{commutes}
use Rattle.form_laws.proofs.PlainForms.{each_of}
use Rattle.form_laws.proofs.LoweredParts.{closed_parts}
use Rattle.form_laws.proofs.LoweredSteps.{RootsWritten, steps_same, hazards_same, table_there, stream_lists, buffer_lists, values_same}

module _ (s : SpecValue) (w : WellTyped s) (ranked : Acyclic (defs_of s)) where
  abbrev node_tree : ℕ → Term
  node_tree i = tree s.nodes s.libs i

  abbrev out : Term → Term
  out e = written_out (trees s).defs e

  abbrev whole : TreeSpec
  whole = closed_spec s

  abbrev Written : TreeRoot → Type 0
  Written r = IsWrittenOut whole.libs r.expr

  roots_out : (rs : List Root) → AllByRecursion (RootHasType (signature_of (trees s))) (map (tree_root node_tree) rs) → AllByRecursion Written (map (root_with out) (map (tree_root node_tree) rs))
  roots_out [] h = tt
  roots_out (r ∷ rs) h = (node_out s w ranked r.expr r.ty h.0, roots_out rs h.1)

  abbrev trigger_tree : TriggerItem → TreeTrigger
  trigger_tree x = record { name = x.name; guard = tree_root node_tree x.guard; args = map (tree_root node_tree) x.args }

  abbrev trigger_out : TreeTrigger → TreeTrigger
  trigger_out x = record x { guard = root_with out x.guard; args = map (root_with out) x.args }

  triggers_out : (xs : List TriggerItem) → AllByRecursion (IsGoodTrigger (signature_of (trees s))) (map trigger_tree xs) → AllByRecursion (λ (x : TreeTrigger). IsWrittenOut whole.libs x.guard.expr × AllByRecursion Written x.args) (map trigger_out (map trigger_tree xs))
  triggers_out [] h = tt
  triggers_out (x ∷ xs) h =
      ((node_out s w ranked x.guard.expr x.guard.ty h.0.guard, roots_out x.args (each_of (RootHasType (signature_of (trees s))) (map (tree_root node_tree) x.args) h.0.args)), triggers_out xs h.1)

  abbrev observer_tree : ObserverItem → TreeObserver
  observer_tree x = record { name = x.name; root = tree_root node_tree x.root }

  abbrev observer_out : TreeObserver → TreeObserver
  observer_out x = record x { root = root_with out x.root }

  observers_out : (xs : List ObserverItem) → AllByRecursion (λ (x : TreeObserver). RootHasType (signature_of (trees s)) x.root) (map observer_tree xs) → AllByRecursion (λ (x : TreeObserver). Written x.root) (map observer_out (map observer_tree xs))
  observers_out [] h = tt
  observers_out (x ∷ xs) h = (node_out s w ranked x.root.expr x.root.ty h.0, observers_out xs h.1)

  pub roots_written : RootsWritten whole
  roots_written = record {
    triggers = triggers_out s.triggers (each_of (IsGoodTrigger (signature_of (trees s))) (trees s).triggers w.triggers);
    observers = observers_out s.observers (each_of (λ (x : TreeObserver). RootHasType (signature_of (trees s)) x.root) (trees s).observers w.observers);
  }

module _ (s : SpecValue) (w : WellTyped s) (none : HasNoCycle (defs_of s)) (h : List (List ℕ)) (history : IsHistory s h) where
  abbrev all : TreeSpec
  all = closed_spec s

  kept : AllFormsKept
  kept = all_kept

  plain : PlainFormsKept
  plain = plain_kept

  ranked : Acyclic (defs_of s)
  ranked = acyclic s w none

  pub step_same : (t : ℕ) → t < length h → step_events (lowered_spec all) h t ≡ step_events all h t
  step_same t b = steps_same kept plain all (closed_parts s w) (closed_is_typed s w ranked) (roots_written s w ranked) h history t b

  pub plain_step_same : (t : ℕ) → t < length h → step_events (plain_form (trees s)) h t ≡ step_events all h t
  plain_step_same t b = ap (λ p. step_events p h t) (sym (commutes (trees s))) ∙ step_same t b

  pub plain_log_same : (n : ℕ) → n ≤ length h → log (plain_form (trees s)) h n ≡ log all h n
  plain_log_same zero b = refl
  plain_log_same (suc n) b =
      ap (λ es. es ++ or_none (step_events (plain_form (trees s)) h n) ∷ []) (plain_log_same n (omega (arith, b)))
      ∙ ap (λ e. log all h n ++ or_none e ∷ []) (plain_step_same n (omega (arith, b)))

  pub hazards_go : (t : ℕ) → t ≤ length h → (d : Hazard) → table_after all h t ≡ Err d → table_after (lowered_spec all) h t ≡ Err d
  hazards_go t b d e = hazards_same kept plain all (closed_parts s w) (closed_is_typed s w ranked) (roots_written s w ranked) h history t b d e

  pub table_goes : (t : ℕ) → t ≤ length h → (T : Table) → table_after all h t ≡ Ok T → (X : Table) × (table_after (lowered_spec all) h t ≡ Ok X)
  table_goes t b T e = table_there kept plain all (closed_parts s w) (closed_is_typed s w ranked) (roots_written s w ranked) h history t b T e

  module _ (t : ℕ) (T X : Table) (is : table_after all h t ≡ Ok T) (low_is : table_after (lowered_spec all) h t ≡ Ok X) where
    pub streams_go : t ≤ length h → (x : ℕ) → x < length all.streams → slice_index_or X x [] ≡ slice_index_or T x []
    streams_go b x less = stream_lists kept plain all (closed_parts s w) (closed_is_typed s w ranked) (roots_written s w ranked) h history t T X is low_is b x less

    pub buffers_go : t ≤ length h → (k : ℕ) (x : TreeLib) → slice_get all.libs k ≡ Some x → HoldBuffers x.form (buffer_of (length all.streams) all.libs k) X t (samples_at T (place_of (length all.streams) all.libs k))
    buffers_go b k x e = buffer_lists kept plain all (closed_parts s w) (closed_is_typed s w ranked) (roots_written s w ranked) h history t T X is low_is b k x e

    pub values_go : t < length h → (e : Term) (u : Ty) → HasType (signature_of all) e u → IsWrittenOut all.libs e → value (moment (lowered_spec all) X h t) (lowered_in all e) ≡ value (moment all T h t) e
    values_go b e u g o = values_same kept plain all (closed_parts s w) (closed_is_typed s w ranked) (roots_written s w ranked) h history t T X is low_is b e u g o
