-- The first heavy root of a specification is that of its items.
use Rattle.std.proofs.Common.{◌≡◌, ⊎_elim, ℕ, suc, ◌+◌, max, min, Bool, true, false, List, [], ◌∷◌, ◌++◌, length, map, take, drop, Option, Some, None, refl, sym, ap, ◌∙◌, arith}
use Rattle.std.specs.Prelude.{nat_lt, if◌then◌else◌, All}
use Rattle.std.proofs.lemmas.Bool.{cases_lt}
use Rattle.std.proofs.lemmas.Bool.Decides.{nat_tests}
use Rattle.stream_core.specs.declared.node.LibForm.{LibForm}
use Rattle.stream_core.specs.declared.node.LibForm.TheVariants as form
use Rattle.stream_core.specs.declared.spec.Root.{Root}
use Rattle.stream_core.specs.declared.spec.StreamItem.{StreamItem}
use Rattle.stream_core.specs.declared.spec.TriggerItem.{TriggerItem}
use Rattle.stream_core.specs.declared.spec.ObserverItem.{ObserverItem}
use Rattle.stream_core.specs.declared.spec.LibItem.{LibItem}
use Rattle.stream_core.specs.Value.{SpecValue}
use Rattle.stream_core.specs.Term.{Term, TreeStream, TreeObserver, tree, tree_root, root_with, trees, with_defs}
use Rattle.stream_core.specs.Lower.{lowered, buffers, buffers_of, all_buffers}
use Rattle.stream_core.specs.Soundness.{Load, root_load, stream_load, trigger_loads, heavy_places, least_of, first_of_heavy, heavy_root}
use Rattle.stream_core.specs.WellTyped.{WellTyped, operand_types}
use Rattle.stream_core.specs.Weights.{heavy, heaviest_buffer, IsGoodItem}
use Rattle.stream_core.proofs.FormWeights.{over, buffers_are}
use Rattle.stream_core.proofs.Roots.{items_good}
use Rattle.stream_core.proofs.WholeWeight.{at, low, G, root_is, args_are, trigger_tree, trigger_with, observer_tree, observer_with, stream_tree, stream_with, lib_tree}
use Rattle.recursion_check.specs.Loads.{load, roots_of, triggers_of, observers_of, streams_of, least_heavy, first_form, or_form, first_heavy}
use Rattle.recursion_check.proofs.Counting.{args_count}

-- ---- the least place

abbrev first_of : List ℕ → Option ℕ
first_of [] = None
first_of (b ∷ bs) = Some b

least_some : (xs : List Load) (a : ℕ) → least_heavy (Some a) xs ≡ Some (least_of a (heavy_places xs))
least_some [] a = refl
least_some (x ∷ xs) a = by (nat_lt 2048 x.heavy) (least_some xs (min a x.at)) (least_some xs a)
  where
    by : (t : Bool) → least_heavy (Some (min a x.at)) xs ≡ Some (least_of (min a x.at) (heavy_places xs)) → least_heavy (Some a) xs ≡ Some (least_of a (heavy_places xs)) → least_heavy (if t then Some (min a x.at) else Some a) xs ≡ Some (least_of a (if t then x.at ∷ heavy_places xs else heavy_places xs))
    by true p q = p
    by false p q = q

least_none : (xs : List Load) (ys : List ℕ) → or_form (least_heavy None xs) (first_of ys) ≡ first_of_heavy (heavy_places xs) ys
least_none [] [] = refl
least_none [] (y ∷ ys) = refl
least_none (x ∷ xs) ys = by (nat_lt 2048 x.heavy) (least_none xs ys)
  where
    by : (t : Bool) → or_form (least_heavy None xs) (first_of ys) ≡ first_of_heavy (heavy_places xs) ys → or_form (least_heavy (if t then Some x.at else None) xs) (first_of ys) ≡ first_of_heavy (if t then x.at ∷ heavy_places xs else heavy_places xs) ys
    by true p = ap (λ o. or_form o (first_of ys)) (least_some xs x.at)
    by false p = p

-- ---- lists

places_append : (xs ys : List Load) → heavy_places (xs ++ ys) ≡ heavy_places xs ++ heavy_places ys
places_append [] ys = refl
places_append (x ∷ xs) ys = by (nat_lt 2048 x.heavy) (places_append xs ys)
  where
    by : (t : Bool) → heavy_places (xs ++ ys) ≡ heavy_places xs ++ heavy_places ys → (if t then x.at ∷ heavy_places (xs ++ ys) else heavy_places (xs ++ ys)) ≡ (if t then x.at ∷ heavy_places xs else heavy_places xs) ++ heavy_places ys
    by true p = ap (λ zs. x.at ∷ zs) p
    by false p = p

first_append : (xs ys : List ℕ) → first_of (xs ++ ys) ≡ or_form (first_of xs) (first_of ys)
first_append [] ys = refl
first_append (x ∷ xs) ys = refl

front : {A B C : Type 0} (g : B → C) (h : A → B) (zs : List A) (ys : List B) → take (length zs) (map g (map h zs ++ ys)) ≡ map g (map h zs)
front g h [] ys = refl
front g h (z ∷ zs) ys = ap (λ ws. g (h z) ∷ ws) (front g h zs ys)

rest : {A B C : Type 0} (g : B → C) (h : A → B) (zs : List A) (ys : List B) → drop (length zs) (map g (map h zs ++ ys)) ≡ map g ys
rest g h [] ys = refl
rest g h (z ∷ zs) ys = rest g h zs ys

two_heavy : (at p q : ℕ) → first_of (heavy_places (record { at = at; heavy = p } ∷ record { at = at; heavy = q } ∷ [])) ≡ (if nat_lt 2048 (max p q) then Some at else None)
two_heavy at p q =
    ⊎_elim
    (λ a. let t : nat_lt 2048 p ≡ true = grind (arith, nat_tests) in let m : nat_lt 2048 (max p q) ≡ true = grind (arith, nat_tests) in rw (t, m) refl)
    (λ a.
    let t : nat_lt 2048 p ≡ false = grind (arith, nat_tests) in
    ⊎_elim
    (λ b. let u : nat_lt 2048 q ≡ true = grind (arith, nat_tests) in let m : nat_lt 2048 (max p q) ≡ true = grind (arith, nat_tests) in rw (t, u, m) refl)
    (λ b. let u : nat_lt 2048 q ≡ false = grind (arith, nat_tests) in let m : nat_lt 2048 (max p q) ≡ false = grind (arith, nat_tests) in rw (t, u, m) refl)
    (cases_lt 2048 q))
    (cases_lt 2048 p)

one_by : (at : ℕ) (t : Bool) → first_of (if t then at ∷ [] else []) ≡ (if t then Some at else None)
one_by at true = refl
one_by at false = refl

one_heavy : (at p w : ℕ) → p ≡ w → first_of (heavy_places (record { at = at; heavy = p } ∷ [])) ≡ (if nat_lt 2048 w then Some at else None)
one_heavy at p w e = one_by at (nat_lt 2048 p) ∙ ap (λ k. if nat_lt 2048 k then Some at else None) e

or_if : (t : Bool) (at : ℕ) (o : Option ℕ) → or_form (if t then Some at else None) o ≡ (if t then Some at else o)
or_if true at o = refl
or_if false at o = refl

-- ---- a form's buffers

module _ (G : ℕ → Term) where
  abbrev loads_of : List TreeStream → List Load
  loads_of xs = map stream_load (map (λ (x : TreeStream). record x { expr = with_defs G x.expr }) xs)

  loads_append : (xs ys : List TreeStream) → loads_of (xs ++ ys) ≡ loads_of xs ++ loads_of ys
  loads_append [] ys = refl
  loads_append (x ∷ xs) ys = ap (λ zs. stream_load (record x { expr = with_defs G x.expr }) ∷ zs) (loads_append xs ys)

  form_heavy : (f : LibForm) (number b at : ℕ) (ps : List Term) → length ps ≡ length (operand_types f) → first_of (heavy_places (loads_of (buffers_of f number b at ps))) ≡ (if nat_lt 2048 (heaviest_buffer f (map (over G) ps)) then Some at else None)
  form_heavy form.Once number b at ps e = one_heavy at _ _ (let h = buffers_are G form.Once number b at ps in omega (arith, h))
  form_heavy form.Historically number b at ps e = one_heavy at _ _ (let h = buffers_are G form.Historically number b at ps in omega (arith, h))
  form_heavy form.Since number b at ps e = one_heavy at _ _ (let h = buffers_are G form.Since number b at ps in omega (arith, h))
  form_heavy (form.Clock period phase) number b at ps e = one_heavy at 8 8 refl
  form_heavy form.Yesterday number b at (p ∷ ps) e = one_heavy at _ _ refl
  form_heavy form.WeaklyYesterday number b at (p ∷ ps) e = one_heavy at _ _ refl
  form_heavy (form.OnceIn l h) number b at (p ∷ ps) e = one_heavy at _ _ refl
  form_heavy (form.HistoricallyIn l h) number b at (p ∷ ps) e = one_heavy at _ _ refl
  form_heavy (form.SinceIn l h) number b at (p ∷ q ∷ ps) e = two_heavy at (over G p) (over G q)
  form_heavy (form.WindowMax n s) number b at (p ∷ ps) e = one_heavy at _ _ refl
  form_heavy (form.WindowMin n s) number b at (p ∷ ps) e = one_heavy at _ _ refl
  form_heavy (form.WindowSum n s) number b at (p ∷ ps) e = one_heavy at _ _ refl
  form_heavy form.Yesterday number b at [] e = absurd (omega (arith, e))
  form_heavy form.WeaklyYesterday number b at [] e = absurd (omega (arith, e))
  form_heavy (form.OnceIn l h) number b at [] e = absurd (omega (arith, e))
  form_heavy (form.HistoricallyIn l h) number b at [] e = absurd (omega (arith, e))
  form_heavy (form.SinceIn l h) number b at [] e = absurd (omega (arith, e))
  form_heavy (form.SinceIn l h) number b at (p ∷ []) e = absurd (omega (arith, e))
  form_heavy (form.WindowMax n s) number b at [] e = absurd (omega (arith, e))
  form_heavy (form.WindowMin n s) number b at [] e = absurd (omega (arith, e))
  form_heavy (form.WindowSum n s) number b at [] e = absurd (omega (arith, e))

-- ---- the whole

module _ (s : SpecValue) where
  abbrev T : ℕ → Term
  T = tree s.nodes s.libs

  abbrev out : List TreeStream → List TreeStream
  out xs = map (stream_with s (with_defs (G s))) xs

  loaded_at : (i at_ : ℕ) → record { at = at_; heavy = over (G s) (low s i) } ≡ load s i at_
  loaded_at i at_ = ap (λ w. record { at = at_; heavy = w }) (root_is s i)

  roots_are : (rs : List Root) → map root_load (map (root_with (with_defs (G s))) (map (root_with (lowered (at s))) (map (tree_root T) rs))) ≡ roots_of s rs
  roots_are [] = refl
  roots_are (r ∷ rs) = let h = loaded_at r.expr r.at in let t = roots_are rs in cc

  triggers_are : (xs : List TriggerItem) → trigger_loads (map (trigger_with s (with_defs (G s))) (map (trigger_with s (lowered (at s))) (map (trigger_tree s) xs))) ≡ triggers_of s xs
  triggers_are [] = refl
  triggers_are (x ∷ xs) = let h = loaded_at x.guard.expr x.guard.at in let r = roots_are x.args in let t = triggers_are xs in cc

  observers_are : (xs : List ObserverItem) → map (λ (x : TreeObserver). root_load x.root) (map (observer_with s (with_defs (G s))) (map (observer_with s (lowered (at s))) (map (observer_tree s) xs))) ≡ observers_of s xs
  observers_are [] = refl
  observers_are (x ∷ xs) = let h = loaded_at x.root.expr x.root.at in let t = observers_are xs in cc

  streams_are : (xs : List StreamItem) → map stream_load (out (map (stream_with s (lowered (at s))) (map (stream_tree s) xs))) ≡ streams_of s xs
  streams_are [] = refl
  streams_are (x ∷ xs) = let h = loaded_at x.expr x.at in let t = streams_are xs in cc

  libs_are : (xs : List LibItem) (number b : ℕ) → All (IsGoodItem s) xs → first_of (heavy_places (map stream_load (out (all_buffers (lowered (at s)) number b (map (lib_tree s) xs))))) ≡ first_form s xs
  libs_are [] number b all = refl
  libs_are (x ∷ xs) number b all =
      let ps = map (lowered (at s)) (map T x.args) in
      let own = buffers_of x.form number b x.at ps in
      let more = all_buffers (lowered (at s)) (number + buffers x.form) (b + buffers x.form) (map (lib_tree s) xs) in
      let split = ap (λ ls. first_of (heavy_places ls)) (loads_append (G s) own more) ∙ ap first_of (places_append (loads_of (G s) own) (loads_of (G s) more)) ∙ first_append (heavy_places (loads_of (G s) own)) (heavy_places (loads_of (G s) more)) in
      let mine = form_heavy (G s) x.form number b x.at ps (args_count s x (lowered (at s)) (lowered (at s)) (all 0 x (omega arith))) in
      let tail = libs_are xs (number + buffers x.form) (b + buffers x.form) (λ k d h. all (suc k) d (omega (arith, h))) in
      split
      ∙ ap (λ o. or_form o (first_of (heavy_places (loads_of (G s) more)))) mine
      ∙ or_if (nat_lt 2048 (heaviest_buffer x.form (map (over (G s)) ps))) x.at (first_of (heavy_places (loads_of (G s) more)))
      ∙ ap (λ ws. if nat_lt 2048 (heaviest_buffer x.form ws) then Some x.at else first_of (heavy_places (loads_of (G s) more))) (args_are s x.args)
      ∙ ap (λ o. if nat_lt 2048 (heaviest_buffer x.form (map (heavy s) x.args)) then Some x.at else o) tail

  pub heavy_is : WellTyped s → heavy_root (trees s) ≡ first_heavy s
  heavy_is w =
      let n = length (trees s).streams in
      let declared = map (stream_with s (lowered (at s))) (map (stream_tree s) s.streams) in
      let own = all_buffers (lowered (at s)) 1 n (map (lib_tree s) s.libs) in
      let all = out (declared ++ own) in
      let front_is : take n all ≡ out declared = front (stream_with s (with_defs (G s))) (stream_with s (lowered (at s))) (map (stream_tree s) s.streams) own in
      let rest_is : drop n all ≡ out own = rest (stream_with s (with_defs (G s))) (stream_with s (lowered (at s))) (map (stream_tree s) s.streams) own in
      let ts = trigger_loads (map (trigger_with s (with_defs (G s))) (map (trigger_with s (lowered (at s))) (map (trigger_tree s) s.triggers))) in
      let os = map (λ (x : TreeObserver). root_load x.root) (map (observer_with s (with_defs (G s))) (map (observer_with s (lowered (at s))) (map (observer_tree s) s.observers))) in
      let ss = map stream_load (take n all) in
      let bs = map stream_load (drop n all) in
      let loads : ts ++ os ++ ss ≡ triggers_of s s.triggers ++ observers_of s s.observers ++ streams_of s s.streams =
      ap (λ xs. xs ++ os ++ ss) (triggers_are s.triggers)
      ∙ ap (λ xs. triggers_of s s.triggers ++ xs ++ ss) (observers_are s.observers)
      ∙ ap (λ xs. triggers_of s s.triggers ++ observers_of s s.observers ++ map stream_load xs) front_is
      ∙ ap (λ xs. triggers_of s s.triggers ++ observers_of s s.observers ++ xs) (streams_are s.streams) in
      let a = triggers_of s s.triggers ++ observers_of s s.observers ++ streams_of s s.streams in
      sym (least_none (ts ++ os ++ ss) (heavy_places bs))
      ∙ ap (λ ls. or_form (least_heavy None ls) (first_of (heavy_places bs))) loads
      ∙ ap (λ xs. or_form (least_heavy None a) (first_of (heavy_places (map stream_load xs)))) rest_is
      ∙ ap (or_form (least_heavy None a)) (libs_are s.libs 1 n (items_good s w))
