-- The expressions of a specification with its defs written out are those of its items.
use Rattle.std.proofs.Common.{◌≡◌, ℕ, List, [], ◌∷◌, ◌++◌, length, map, refl, ap, ◌∙◌}
use Rattle.std.proofs.lemmas.List.{length-map}
use Rattle.stream_core.specs.declared.spec.Root.{Root}
use Rattle.stream_core.specs.declared.spec.StreamItem.{StreamItem}
use Rattle.stream_core.specs.declared.spec.TriggerItem.{TriggerItem}
use Rattle.stream_core.specs.declared.spec.ObserverItem.{ObserverItem}
use Rattle.stream_core.specs.declared.spec.LibItem.{LibItem}
use Rattle.stream_core.specs.Value.{SpecValue}
use Rattle.stream_core.specs.Term.{Term, TreeRoot, TreeStream, TreeTrigger, TreeObserver, TreeLib, tree, trees, tree_root, root_with, written_out, closed}
use Rattle.stream_core.specs.Eval.{Line, lines, stream_line, operand_lines}
use Rattle.stream_core.specs.Meaning.{closed_spec}
use Rattle.stream_interp.specs.Roots.{closed_root, closed_roots, closed_trigger, closed_triggers, closed_observer, closed_observers, closed_exprs}

module _ (s : SpecValue) where
  abbrev at : ℕ → Term
  at i = tree s.nodes s.libs i

  abbrev out : Term → Term
  out e = written_out (trees s).defs e

  roots_are : (rs : List Root) → map (root_with out) (map (tree_root at) rs) ≡ closed_roots s rs
  unfolding closed
  roots_are [] = refl
  roots_are (r ∷ rs) = ap (λ xs. closed_root s r ∷ xs) (roots_are rs)

  abbrev trigger_tree : TriggerItem → TreeTrigger
  trigger_tree x = record { name = x.name; guard = tree_root at x.guard; args = map (tree_root at) x.args }

  abbrev trigger_out : TreeTrigger → TreeTrigger
  trigger_out x = record x { guard = root_with out x.guard; args = map (root_with out) x.args }

  by_triggers : (xs : List TriggerItem) → map trigger_out (map trigger_tree xs) ≡ closed_triggers s xs
  unfolding closed
  by_triggers [] = refl
  by_triggers (x ∷ xs) =
      ap (λ (as_ : List TreeRoot). record { name = x.name; guard = root_with out (tree_root at x.guard); args = as_ } ∷ map trigger_out (map trigger_tree xs)) (roots_are x.args)
      ∙ ap (λ (ts : List TreeTrigger). closed_trigger s x ∷ ts) (by_triggers xs)

  pub triggers_are : (closed_spec s).triggers ≡ closed_triggers s s.triggers
  triggers_are = by_triggers s.triggers

  abbrev observer_tree : ObserverItem → TreeObserver
  observer_tree x = record { name = x.name; root = tree_root at x.root }

  abbrev observer_out : TreeObserver → TreeObserver
  observer_out x = record x { root = root_with out x.root }

  by_observers : (xs : List ObserverItem) → map observer_out (map observer_tree xs) ≡ closed_observers s xs
  unfolding closed
  by_observers [] = refl
  by_observers (x ∷ xs) = ap (λ (ts : List TreeObserver). closed_observer s x ∷ ts) (by_observers xs)

  pub observers_are : (closed_spec s).observers ≡ closed_observers s s.observers
  observers_are = by_observers s.observers

  -- ---- streams

  abbrev stream_tree : StreamItem → TreeStream
  stream_tree x = record { name = x.name; ty = x.ty; init = x.init; expr = at x.expr; at = x.at }

  abbrev stream_out : TreeStream → TreeStream
  stream_out x = record x { expr = out x.expr }

  by_streams : (xs : List StreamItem) → map (λ (l : Line). l.expr) (map (stream_line s.types) (map stream_out (map stream_tree xs)) ++ []) ≡ closed_exprs s xs
  unfolding closed
  by_streams [] = refl
  by_streams (x ∷ xs) = ap (λ (es : List Term). closed s x.expr ∷ es) (by_streams xs)

  pub no_operands : s.libs ≡ [] → operand_lines (closed_spec s).libs ≡ []
  no_operands e = ap (λ (xs : List LibItem). operand_lines (map (λ (x : TreeLib). record x { args = map out x.args }) (map (λ (x : LibItem). record { form = x.form; args = map (tree s.nodes s.libs) x.args; at = x.at }) xs))) e

  pub exprs_are : s.libs ≡ [] → map (λ (l : Line). l.expr) (lines (closed_spec s)) ≡ closed_exprs s s.streams
  exprs_are e = ap (λ (ls : List Line). map (λ (l : Line). l.expr) (map (stream_line s.types) (closed_spec s).streams ++ ls)) (no_operands e) ∙ by_streams s.streams

  pub streams_count : length (closed_spec s).streams ≡ length s.streams
  streams_count = length-map (map stream_tree s.streams) stream_out ∙ length-map s.streams stream_tree
