-- Events that are added one after another.
use Rattle.std.proofs.Common.{◌≡◌, ℕ, suc, ◌+◌, ◌<◌, ◌≤◌, List, [], ◌∷◌, ◌++◌, length, drop, get_or, Result, Ok, Err, refl, sym, ap, ◌∙◌, subst, arith, append-nil, append_assoc}
use Rattle.std.specs.Prelude.{if◌then◌else◌}
use Rattle.std.proofs.lemmas.List.{drop_more, drop_all}
use Rattle.stream_types.specs.declared.scalar.Hazard.{Hazard}
use Rattle.stream_types.specs.Types.{words}
use Rattle.stream_core.specs.declared.spec.Root.{Root}
use Rattle.stream_core.specs.declared.spec.TriggerItem.{TriggerItem}
use Rattle.stream_core.specs.declared.spec.ObserverItem.{ObserverItem}
use Rattle.stream_core.specs.Value.{SpecValue}
use Rattle.stream_core.specs.Term.{closed}
use Rattle.stream_core.specs.Library.{bind, is_true_word}
use Rattle.stream_core.specs.Eval.{Moment, Value, Event, observer, trigger, first_word, value, concat_values, events_of_trigger, fired, observed}
use Rattle.stream_interp.proofs.TestValues.{false_is, true_is}
use Rattle.stream_interp.specs.EventLog.{used}
use Rattle.stream_interp.specs.Roots.{closed_root, closed_roots, closed_trigger, closed_triggers, closed_observers, roots_words, triggers_words, observers_words, then_events}

then_bind : (old : List Event) (a b : Result (List Event) Hazard) → then_events old (bind a (λ es. bind b (λ more_. Ok (es ++ more_)))) ≡ bind (then_events old a) (λ es. then_events es b)
then_bind old (Ok es) (Ok fs) = ap Ok (sym (append_assoc old es fs))
then_bind old (Ok es) (Err z) = refl
then_bind old (Err z) b = refl

no_more : (old : List Event) → then_events old (Ok []) ≡ Ok old
no_more old = ap Ok (append-nil old)

-- from an answer behind some events, whether it is a hazard
pub then_err : (old : List Event) (r : Result (List Event) Hazard) (z : Hazard) → then_events old r ≡ Err z → r ≡ Err z
then_err old (Ok es) z e = absurd (cc)
then_err old (Err y) z e = let p : y ≡ z = cc in ap Err p

pub then_ok : (old : List Event) (r : Result (List Event) Hazard) (new : List Event) → then_events old r ≡ Ok new → (es : List Event) × (r ≡ Ok es) × (old ++ es ≡ new)
then_ok old (Ok es) new e = let p : old ++ es ≡ new = cc in (es, refl, p)
then_ok old (Err y) new e = absurd (cc)

module _ (m : Moment) (s : SpecValue) where
  -- ---- triggers

  abbrev fires : ℕ → List TriggerItem → Result (List Event) Hazard
  fires i xs = fired m i (closed_triggers s xs)

  pub record FiredSoFar (all : List TriggerItem) (i : ℕ) (old new : List Event) : Type 0 where
    pub found : then_events old (fired m 0 (closed_triggers s all)) ≡ then_events new (fired m i (closed_triggers s (drop i all)))
    pub taken : used new + triggers_words s.types (drop i all) ≤ used old + triggers_words s.types all
    pub few : length new + length (drop i all) ≤ length old + length all

  pub fired_first : (all : List TriggerItem) (old : List Event) → FiredSoFar all 0 old old
  fired_first all old = record { found = refl; taken = omega arith; few = omega arith }

  module _ (all : List TriggerItem) (i : ℕ) (old new : List Event) (so_far : FiredSoFar all i old new) where
    module _ (d : TriggerItem) (less : i < length all) where
      abbrev x : TriggerItem
      x = get_or all i d

      abbrev rest : List TriggerItem
      rest = drop (i + 1) all

      abbrev own : Result (List Event) Hazard
      own = events_of_trigger m i (closed_trigger s x)

      pub trigger_used : used new + roots_words s.types x.args ≤ used old + triggers_words s.types all
      trigger_used = let w = ap (triggers_words s.types) (drop_more all i d less) in let u = so_far.taken in omega (arith, w, u)

      pub trigger_few : length new < length old + length all
      trigger_few = let w = ap length (drop_more all i d less) in let u = so_far.few in omega (arith, w, u)

      more_fired : then_events old (fires 0 all) ≡ bind (then_events new own) (λ es. then_events es (fires (i + 1) rest))
      more_fired = so_far.found ∙ ap (λ (xs : List TriggerItem). then_events new (fires i xs)) (drop_more all i d less) ∙ then_bind new own (fires (i + 1) rest)

      pub fired_err : (z : Hazard) → then_events new own ≡ Err z → then_events old (fires 0 all) ≡ Err z
      fired_err z e = more_fired ∙ ap (λ (r : Result (List Event) Hazard). bind r (λ es. then_events es (fires (i + 1) rest))) e

      pub fired_next : (new' : List Event) → then_events new own ≡ Ok new' → used new' ≤ used new + roots_words s.types x.args → length new' ≤ length new + 1 → FiredSoFar all (i + 1) old new'
      fired_next new' e u n =
          let w = ap (triggers_words s.types) (drop_more all i d less) in
          let l = ap length (drop_more all i d less) in
          let u' = so_far.taken in
          let n' = so_far.few in
          record {
            found = more_fired ∙ ap (λ (r : Result (List Event) Hazard). bind r (λ es. then_events es (fires (i + 1) rest))) e;
            taken = omega (arith, u, u', w);
            few = omega (arith, n, n', l);
          }

    -- the same of the trigger that is read there
    module _ (y : TriggerItem) (is : y ≡ get_or all i y) (less : i < length all) where
      pub item_used : used new + roots_words s.types y.args ≤ used old + triggers_words s.types all
      item_used = subst (λ (t : TriggerItem). used new + roots_words s.types t.args ≤ used old + triggers_words s.types all) (sym is) (trigger_used y less)

      pub item_few : length new < length old + length all
      item_few = trigger_few y less

      pub item_err : (z : Hazard) → then_events new (events_of_trigger m i (closed_trigger s y)) ≡ Err z → then_events old (fires 0 all) ≡ Err z
      item_err z e = fired_err y less z (ap (λ (t : TriggerItem). then_events new (events_of_trigger m i (closed_trigger s t))) (sym is) ∙ e)

      pub item_next : (new' : List Event) → then_events new (events_of_trigger m i (closed_trigger s y)) ≡ Ok new' → used new' ≤ used new + roots_words s.types y.args → length new' ≤ length new + 1 → FiredSoFar all (i + 1) old new'
      item_next new' e u n =
          fired_next y less new' (ap (λ (t : TriggerItem). then_events new (events_of_trigger m i (closed_trigger s t))) (sym is) ∙ e)
          (subst (λ (t : TriggerItem). used new' ≤ used new + roots_words s.types t.args) is u) n

    module _ (over : length all ≤ i) where
      pub fired_all : then_events old (fires 0 all) ≡ Ok new
      fired_all = so_far.found ∙ ap (λ (xs : List TriggerItem). then_events new (fires i xs)) (drop_all i all over) ∙ no_more new

      pub fired_used : used new ≤ used old + triggers_words s.types all
      fired_used = let u = so_far.taken in omega (arith, u)

      pub fired_few : length new ≤ length old + length all
      fired_few = let u = so_far.few in omega (arith, u)

  -- ---- observers

  abbrev shows : ℕ → List ObserverItem → Result (List Event) Hazard
  shows i xs = observed m i (closed_observers s xs)

  -- an event whose words are those of one root, by a list of roots
  pub one_root : (i : ℕ) (old : List Event) (rs : List Root) (r : Root) (answer : Result (List Event) Hazard) → rs ≡ r ∷ [] → bind (concat_values m (closed_roots s rs)) (λ ws. Ok (old ++ record { who = observer i; words = ws } ∷ [])) ≡ answer
      → bind (concat_values m (closed_roots s (r ∷ []))) (λ ws. Ok (old ++ record { who = observer i; words = ws } ∷ [])) ≡ answer
  one_root i old rs r answer is e = ap (λ (qs : List Root). bind (concat_values m (closed_roots s qs)) (λ ws. Ok (old ++ record { who = observer i; words = ws } ∷ []))) (sym is) ∙ e

  pub record ObservedSoFar (all : List ObserverItem) (i : ℕ) (old new : List Event) : Type 0 where
    pub found : then_events old (observed m 0 (closed_observers s all)) ≡ then_events new (observed m i (closed_observers s (drop i all)))
    pub taken : used new + observers_words s.types (drop i all) ≡ used old + observers_words s.types all
    pub few : length new + length (drop i all) ≡ length old + length all

  pub observed_first : (all : List ObserverItem) (old : List Event) → ObservedSoFar all 0 old old
  observed_first all old = record { found = refl; taken = refl; few = refl }

  abbrev shown : ℕ → List ℕ → Event
  shown i ws = record { who = observer i; words = ws }

  then_shown : (i : ℕ) (old : List Event) (v : Value) (b : Result (List Event) Hazard) → then_events old (bind v (λ ws. bind b (λ es. Ok (shown i ws ∷ es)))) ≡ bind (bind (bind v (λ xs. Ok (xs ++ []))) (λ ws. Ok (old ++ shown i ws ∷ []))) (λ es. then_events es b)
  then_shown i old (Ok ws) (Ok es) =
      ap (λ (us : List ℕ). Ok (old ++ (shown i us ∷ es))) (sym (append-nil ws)) ∙ ap Ok (sym (append_assoc old (shown i (ws ++ []) ∷ []) es))
  then_shown i old (Ok ws) (Err z) = refl
  then_shown i old (Err z) b = refl

  module _ (all : List ObserverItem) (i : ℕ) (old new : List Event) (so_far : ObservedSoFar all i old new) where
    module _ (d : ObserverItem) (less : i < length all) where
      abbrev o : ObserverItem
      o = get_or all i d

      abbrev others : List ObserverItem
      others = drop (i + 1) all

      -- the events so far and the observer's
      abbrev with_own : Result (List Event) Hazard
      with_own = bind (concat_values m (closed_roots s (o.root ∷ []))) (λ ws. Ok (new ++ shown i ws ∷ []))

      pub observer_used : used new + roots_words s.types (o.root ∷ []) ≤ used old + observers_words s.types all
      observer_used = let w = ap (observers_words s.types) (drop_more all i d less) in let u = so_far.taken in omega (arith, w, u)

      pub observer_few : length new < length old + length all
      observer_few = let w = ap length (drop_more all i d less) in let u = so_far.few in omega (arith, w, u)

      more_observed : then_events old (shows 0 all) ≡ bind with_own (λ es. then_events es (shows (i + 1) others))
      more_observed = so_far.found ∙ ap (λ (xs : List ObserverItem). then_events new (shows i xs)) (drop_more all i d less) ∙ then_shown i new (value m (closed s o.root.expr)) (shows (i + 1) others)

      pub observed_err : (z : Hazard) → with_own ≡ Err z → then_events old (shows 0 all) ≡ Err z
      observed_err z e = more_observed ∙ ap (λ (r : Result (List Event) Hazard). bind r (λ es. then_events es (shows (i + 1) others))) e

      pub observed_next : (new' : List Event) → with_own ≡ Ok new' → used new' ≡ used new + roots_words s.types (o.root ∷ []) → length new' ≡ length new + 1 → ObservedSoFar all (i + 1) old new'
      observed_next new' e u n =
          let w = ap (observers_words s.types) (drop_more all i d less) in
          let l = ap length (drop_more all i d less) in
          let u' = so_far.taken in
          let n' = so_far.few in
          record {
            found = more_observed ∙ ap (λ (r : Result (List Event) Hazard). bind r (λ es. then_events es (shows (i + 1) others))) e;
            taken = omega (arith, u, u', w);
            few = omega (arith, n, n', l);
          }

    -- the same of the observer that is read there
    module _ (y : ObserverItem) (is : y ≡ get_or all i y) (less : i < length all) where
      pub shown_used : used new + roots_words s.types (y.root ∷ []) ≤ used old + observers_words s.types all
      shown_used = subst (λ (t : ObserverItem). used new + roots_words s.types (t.root ∷ []) ≤ used old + observers_words s.types all) (sym is) (observer_used y less)

      pub shown_few : length new < length old + length all
      shown_few = observer_few y less

      pub shown_err : (z : Hazard) → bind (concat_values m (closed_roots s (y.root ∷ []))) (λ ws. Ok (new ++ shown i ws ∷ [])) ≡ Err z → then_events old (shows 0 all) ≡ Err z
      shown_err z e = observed_err y less z (ap (λ (t : ObserverItem). bind (concat_values m (closed_roots s (t.root ∷ []))) (λ ws. Ok (new ++ shown i ws ∷ []))) (sym is) ∙ e)

      pub shown_next : (new' : List Event) → bind (concat_values m (closed_roots s (y.root ∷ []))) (λ ws. Ok (new ++ shown i ws ∷ [])) ≡ Ok new' → used new' ≡ used new + roots_words s.types (y.root ∷ []) → length new' ≡ length new + 1
          → ObservedSoFar all (i + 1) old new'
      shown_next new' e u n =
          observed_next y less new' (ap (λ (t : ObserverItem). bind (concat_values m (closed_roots s (t.root ∷ []))) (λ ws. Ok (new ++ shown i ws ∷ []))) (sym is) ∙ e)
          (u ∙ ap (λ (t : ObserverItem). used new + roots_words s.types (t.root ∷ [])) is) n

    pub observed_all : length all ≤ i → then_events old (shows 0 all) ≡ Ok new
    observed_all over = so_far.found ∙ ap (λ (xs : List ObserverItem). then_events new (shows i xs)) (drop_all i all over) ∙ no_more new

-- ---- one trigger

module _ (m : Moment) (s : SpecValue) (number : ℕ) (x : TriggerItem) (old : List Event) where
  abbrev called_with : Value → Result (List Event) Hazard
  called_with args = bind args (λ ws. Ok (record { who = trigger number; words = ws } ∷ []))

  abbrev by_word : Value → Result (List Event) Hazard
  by_word g = then_events old (bind g (λ v. if is_true_word (first_word v) then called_with (concat_values m (closed_roots s x.args)) else Ok []))

  own_event : (r : Value) → then_events old (called_with r) ≡ bind r (λ ws. Ok (old ++ record { who = trigger number; words = ws } ∷ []))
  own_event (Ok ws) = refl
  own_event (Err z) = refl

  pub silent : (w : ℕ) → value m (closed s x.guard.expr) ≡ Ok (w ∷ []) → w ≡ 0 → then_events old (events_of_trigger m number (closed_trigger s x)) ≡ Ok old
  silent w e none = ap by_word e ∙ ap (then_events old) (false_is (called_with (concat_values m (closed_roots s x.args))) (Ok []) w none) ∙ no_more old

  pub refused_guard : (z : Hazard) → value m (closed s x.guard.expr) ≡ Err z → then_events old (events_of_trigger m number (closed_trigger s x)) ≡ Err z
  refused_guard z e = ap by_word e

  pub called : (w : ℕ) → value m (closed s x.guard.expr) ≡ Ok (w ∷ []) → 0 < w
      → then_events old (events_of_trigger m number (closed_trigger s x)) ≡ bind (concat_values m (closed_roots s x.args)) (λ ws. Ok (old ++ record { who = trigger number; words = ws } ∷ []))
  called w e some =
      ap by_word e ∙ ap (then_events old) (true_is (called_with (concat_values m (closed_roots s x.args))) (Ok []) w some) ∙ own_event (concat_values m (closed_roots s x.args))
