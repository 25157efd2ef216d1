-- The tally of all roots.
use Rattle.std.proofs.Common.{◌≡◌, ℕ, ◌+◌, ◌≤◌, min, List, [], ◌∷◌, ◌++◌, None, refl, ap, ◌∙◌, arith}
use Rattle.stream_core.specs.declared.spec.Root.{Root}
use Rattle.stream_core.specs.declared.spec.StreamItem.{StreamItem}
use Rattle.stream_core.specs.declared.spec.TriggerItem.{TriggerItem}
use Rattle.stream_core.specs.declared.spec.ObserverItem.{ObserverItem}
use Rattle.stream_core.specs.Value.{SpecValue}
use Rattle.stream_core.specs.Soundness.{Load}
use Rattle.stream_core.specs.Weights.{roots_weight, triggers_weight, observers_weight, streams_weight}
use Rattle.recursion_check.specs.declared.roots.Tally.{Tally}
use Rattle.recursion_check.specs.Loads.{declared_of, least_heavy, no_roots, observers_of, roots_of, streams_of, triggers_of, with_load, with_loads}

pub loads_append : (t : Tally) (xs ys : List Load) → with_loads (with_loads t xs) ys ≡ with_loads t (xs ++ ys)
loads_append t [] ys = refl
loads_append t (x ∷ xs) ys = loads_append (with_load t x) xs ys

first_is : (t : Tally) (xs : List Load) → (with_loads t xs).first ≡ least_heavy t.first xs
first_is t [] = refl
first_is t (x ∷ xs) = first_is (with_load t x) xs

abbrev together : List Load → ℕ
together [] = 0
together (x ∷ xs) = x.heavy + together xs

total_is : (t : Tally) (xs : List Load) → t.total ≤ 262145 → (with_loads t xs).total ≡ min (t.total + together xs) 262145
total_is t [] b = omega (arith, b)
total_is t (x ∷ xs) b = let h = total_is (with_load t x) xs (omega arith) in omega (arith, h)

together_append : (xs ys : List Load) → together (xs ++ ys) ≡ together xs + together ys
together_append [] ys = omega arith
together_append (x ∷ xs) ys = let h = together_append xs ys in omega (arith, h)

module _ (s : SpecValue) where
  roots_are : (rs : List Root) → together (roots_of s rs) ≡ roots_weight s rs
  roots_are [] = refl
  roots_are (r ∷ rs) = let h = roots_are rs in omega (arith, h)

  triggers_are : (xs : List TriggerItem) → together (triggers_of s xs) ≡ triggers_weight s xs
  triggers_are [] = refl
  triggers_are (x ∷ xs) =
      let h = triggers_are xs in
      let r = roots_are x.args in
      let a = together_append (roots_of s x.args) (triggers_of s xs) in
      omega (arith, h, r, a)

  observers_are : (xs : List ObserverItem) → together (observers_of s xs) ≡ observers_weight s xs
  observers_are [] = refl
  observers_are (x ∷ xs) = let h = observers_are xs in omega (arith, h)

  streams_are : (xs : List StreamItem) → together (streams_of s xs) ≡ streams_weight s xs
  streams_are [] = refl
  streams_are (x ∷ xs) = let h = streams_are xs in omega (arith, h)

  -- one kind of roots after another
  pub in_turn : (a b d : Tally) → a ≡ with_loads no_roots (triggers_of s s.triggers) → b ≡ with_loads a (observers_of s s.observers) → d ≡ with_loads b (streams_of s s.streams) → d ≡ with_loads no_roots (declared_of s)
  in_turn a b d e f g =
      g
      ∙ ap (λ t. with_loads t (streams_of s s.streams)) (f ∙ ap (λ t. with_loads t (observers_of s s.observers)) e ∙ loads_append no_roots (triggers_of s s.triggers) (observers_of s s.observers))
      ∙ loads_append no_roots (triggers_of s s.triggers ++ observers_of s s.observers) (streams_of s s.streams)

  pub declared_first : (with_loads no_roots (declared_of s)).first ≡ least_heavy None (declared_of s)
  declared_first = first_is no_roots (declared_of s)

  pub declared_total : (with_loads no_roots (declared_of s)).total ≡ min (triggers_weight s s.triggers + observers_weight s s.observers + streams_weight s s.streams) 262145
  declared_total =
      let t = total_is no_roots (declared_of s) (omega arith) in
      let a = together_append (triggers_of s s.triggers ++ observers_of s s.observers) (streams_of s s.streams) in
      let b = together_append (triggers_of s s.triggers) (observers_of s s.observers) in
      let x = triggers_are s.triggers in
      let y = observers_are s.observers in
      let z = streams_are s.streams in
      omega (arith, t, a, b, x, y, z)
