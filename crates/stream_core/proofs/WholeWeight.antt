-- The weight of a specification is that of its roots, each def and each form written out.
use Rattle.std.proofs.Common.{◌≡◌, ℕ, ◌+◌, List, [], ◌∷◌, ◌++◌, length, map, refl, ap, ◌∙◌, arith}
use Rattle.std.specs.Prelude.{sum}
use Rattle.std.proofs.lemmas.List.Sums.{sum_by-cons}
use Rattle.std.proofs.lemmas.List.{length-map}
use Rattle.stream_core.specs.declared.spec.Root.{Root}
use Rattle.stream_core.specs.declared.spec.StreamItem.{StreamItem}
use Rattle.stream_core.specs.declared.spec.TriggerItem.{TriggerItem}
use Rattle.stream_core.specs.declared.spec.ObserverItem.{ObserverItem}
use Rattle.stream_core.specs.declared.spec.LibItem.{LibItem}
use Rattle.stream_core.specs.Value.{SpecValue}
use Rattle.stream_core.specs.Term.{Term, TreeStream, TreeTrigger, TreeObserver, TreeLib, TreeRoot, tree, tree_root, root_with, trees, with_defs, def_to, defs_of, closed}
use Rattle.stream_core.specs.Lower.{lowered, buffer_of, buffers, buffers_of, all_buffers}
use Rattle.stream_core.specs.Limits.{plain_weight, trigger_weights}
use Rattle.stream_core.specs.Meaning.{weight}
use Rattle.stream_core.specs.Weights.{total, loaded, heavy, buffers_weight, roots_weight, triggers_weight, observers_weight, streams_weight, libs_weight}
use Rattle.stream_core.proofs.FormWeights.{over, stream_over, buffers_are}
use Rattle.stream_core.proofs.Loaded.{lowered_is, lowered_def, def_to_is}

pub sum_is : (xs : List ℕ) → sum xs ≡ total xs
sum_is [] = refl
sum_is (x ∷ xs) = sum_by-cons (λ w. w) x xs ∙ ap (λ w. x + w) (sum_is xs)

pub total-append : (xs ys : List ℕ) → total (xs ++ ys) ≡ total xs + total ys
total-append [] ys = omega arith
total-append (x ∷ xs) ys = let h = total-append xs ys in omega (arith, h)

module _ (s : SpecValue) where
  -- where the buffers of a form begin
  abbrev pub at : ℕ → ℕ
  at = buffer_of (length (trees s).streams) (trees s).libs

  abbrev pub low : ℕ → Term
  low i = lowered at (tree s.nodes s.libs i)

  abbrev pub G : ℕ → Term
  G = def_to (map (lowered_def at) (defs_of s)) (length (map (lowered_def at) (defs_of s)))

  pub root_is : (i : ℕ) → over G (low i) ≡ heavy s i
  unfolding closed
  root_is i =
      let l : length (map (lowered_def at) (defs_of s)) ≡ length (defs_of s) = length-map (defs_of s) (lowered_def at) in
      lowered_is G (def_to (defs_of s) (length (map (lowered_def at) (defs_of s)))) (λ d. def_to_is at (defs_of s) (length (map (lowered_def at) (defs_of s))) d) at (tree s.nodes s.libs i)
      ∙ ap (λ n. loaded (with_defs (def_to (defs_of s) n) (tree s.nodes s.libs i))) l

  abbrev pub root_out : Root → TreeRoot
  root_out r = root_with (with_defs G) (root_with (lowered at) (tree_root (tree s.nodes s.libs) r))

  roots_are : (rs : List Root) → total (map (λ (r : TreeRoot). plain_weight r.expr) (map (root_with (with_defs G)) (map (root_with (lowered at)) (map (tree_root (tree s.nodes s.libs)) rs)))) ≡ roots_weight s rs
  roots_are [] = refl
  roots_are (r ∷ rs) = let h = root_is r.expr in let t = roots_are rs in omega (arith, h, t)

  abbrev pub trigger_tree : TriggerItem → TreeTrigger
  trigger_tree x = record { name = x.name; guard = tree_root (tree s.nodes s.libs) x.guard; args = map (tree_root (tree s.nodes s.libs)) x.args }

  abbrev pub trigger_with : (Term → Term) → TreeTrigger → TreeTrigger
  trigger_with f x = record x { guard = root_with f x.guard; args = map (root_with f) x.args }

  triggers_are : (xs : List TriggerItem) → total (trigger_weights (map (trigger_with (with_defs G)) (map (trigger_with (lowered at)) (map trigger_tree xs)))) ≡ triggers_weight s xs
  triggers_are [] = refl
  triggers_are (x ∷ xs) =
      let h = root_is x.guard.expr in
      let r = roots_are x.args in
      let t = triggers_are xs in
      let a = total-append (map (λ (r : TreeRoot). plain_weight r.expr) (map (root_with (with_defs G)) (map (root_with (lowered at)) (map (tree_root (tree s.nodes s.libs)) x.args)))) (trigger_weights (map (trigger_with (with_defs G)) (map (trigger_with (lowered at)) (map trigger_tree xs)))) in
      omega (arith, h, r, t, a)

  abbrev pub observer_with : (Term → Term) → TreeObserver → TreeObserver
  observer_with f x = record x { root = root_with f x.root }

  abbrev pub observer_tree : ObserverItem → TreeObserver
  observer_tree x = record { name = x.name; root = tree_root (tree s.nodes s.libs) x.root }

  observers_are : (xs : List ObserverItem) → total (map (λ (x : TreeObserver). plain_weight x.root.expr) (map (observer_with (with_defs G)) (map (observer_with (lowered at)) (map observer_tree xs)))) ≡ observers_weight s xs
  observers_are [] = refl
  observers_are (x ∷ xs) = let h = root_is x.root.expr in let t = observers_are xs in omega (arith, h, t)

  abbrev pub stream_with : (Term → Term) → TreeStream → TreeStream
  stream_with f x = record x { expr = f x.expr }

  abbrev pub stream_tree : StreamItem → TreeStream
  stream_tree x = record { name = x.name; ty = x.ty; init = x.init; expr = tree s.nodes s.libs x.expr; at = x.at }

  abbrev pub lib_tree : LibItem → TreeLib
  lib_tree x = record { form = x.form; args = map (tree s.nodes s.libs) x.args; at = x.at }

  pub args_are : (is : List ℕ) → map (over G) (map (lowered at) (map (tree s.nodes s.libs) is)) ≡ map (heavy s) is
  args_are [] = refl
  args_are (i ∷ is) = let h = root_is i in let t = args_are is in cc

  written : (xs : List TreeStream) → total (map (λ (x : TreeStream). plain_weight x.expr) (map (stream_with (with_defs G)) xs)) ≡ total (map (stream_over G) xs)
  written [] = refl
  written (x ∷ xs) = let t = written xs in omega (arith, t)

  appended : (xs ys : List TreeStream) → total (map (stream_over G) (xs ++ ys)) ≡ total (map (stream_over G) xs) + total (map (stream_over G) ys)
  appended [] ys = omega arith
  appended (x ∷ xs) ys = let h = appended xs ys in omega (arith, h)

  declared_are : (xs : List StreamItem) → total (map (stream_over G) (map (stream_with (lowered at)) (map stream_tree xs))) ≡ streams_weight s xs
  declared_are [] = refl
  declared_are (x ∷ xs) = let h = root_is x.expr in let t = declared_are xs in omega (arith, h, t)

  libs_are : (xs : List LibItem) (number b : ℕ) → total (map (stream_over G) (all_buffers (lowered at) number b (map lib_tree xs))) ≡ libs_weight s xs
  libs_are [] number b = refl
  libs_are (x ∷ xs) number b =
      let own = buffers_are G x.form number b x.at (map (lowered at) (map (tree s.nodes s.libs) x.args)) in
      let args : buffers_weight x.form (map (over G) (map (lowered at) (map (tree s.nodes s.libs) x.args))) ≡ buffers_weight x.form (map (heavy s) x.args) = ap (buffers_weight x.form) (args_are x.args) in
      let t = libs_are xs (number + buffers x.form) (b + buffers x.form) in
      let a = appended (buffers_of x.form number b x.at (map (lowered at) (map (tree s.nodes s.libs) x.args))) (all_buffers (lowered at) (number + buffers x.form) (b + buffers x.form) (map lib_tree xs)) in
      omega (arith, own, args, t, a)

  pub weight_is : weight s ≡ triggers_weight s s.triggers + observers_weight s s.observers + streams_weight s s.streams + libs_weight s s.libs
  weight_is =
      let n = length (trees s).streams in
      let t = sum_is (trigger_weights (map (trigger_with (with_defs G)) (map (trigger_with (lowered at)) (map trigger_tree s.triggers)))) ∙ triggers_are s.triggers in
      let o = sum_is (map (λ (x : TreeObserver). plain_weight x.root.expr) (map (observer_with (with_defs G)) (map (observer_with (lowered at)) (map observer_tree s.observers)))) ∙ observers_are s.observers in
      let all = map (stream_with (lowered at)) (map stream_tree s.streams) ++ all_buffers (lowered at) 1 n (map lib_tree s.libs) in
      let b = sum_is (map (λ (x : TreeStream). plain_weight x.expr) (map (stream_with (with_defs G)) all)) ∙ written all ∙ appended (map (stream_with (lowered at)) (map stream_tree s.streams)) (all_buffers (lowered at) 1 n (map lib_tree s.libs)) in
      let d = declared_are s.streams in
      let l = libs_are s.libs 1 n in
      omega (arith, t, o, b, d, l)
