-- A step without hazard, taken apart and put together.
use Rattle.std.proofs.Common.{◌≡◌, ℕ, suc, ◌+◌, List, [], ◌∷◌, ◌++◌, map, Bool, true, false, Result, Ok, Err, refl, sym, ap, ◌∙◌, subst, inl, inr}
use Rattle.std.specs.Prelude.{◌⊎◌, if◌then◌else◌}
use Rattle.std.specs.List.{flat_map}
use Rattle.stream_types.specs.declared.scalar.Hazard.{Hazard}
use Rattle.stream_core.specs.Term.{Term, TreeSpec, TreeTrigger, TreeObserver, TreeRoot}
use Rattle.stream_core.specs.Library.{bind, is_true_word}
use Rattle.stream_core.specs.Eval.{Moment, Table, Line, Event, StepValues, trigger, observer, first_word, value, values, concat_values, events_of_trigger, fired, observed, lines, step_at, moment, events_of, extend, grown, next_table, table_after, step_events}
use Rattle.stream_core.specs.StepParts.{HaveValues, HasGuard, Fires, AreFired, AreObserved, IsCleanStep}

-- an answer that goes on comes from an answer
pub bind_apart : {A B : Type 0} (r : Result A Hazard) (f : A → Result B Hazard) (y : B) → bind r f ≡ Ok y → (x : A) × (r ≡ Ok x) × (f x ≡ Ok y)
bind_apart (Ok x) f y e = (x, refl, e)
bind_apart (Err h) f y e = absurd (cc)

bind_with : {A B : Type 0} (r : Result A Hazard) (f : A → Result B Hazard) (x : A) (y : Result B Hazard) → r ≡ Ok x → f x ≡ y → bind r f ≡ y
bind_with r f x y e g = ap (λ q. bind q f) e ∙ g

same_ok : {A : Type 0} (x y : A) → ◌≡◌ {A = Result A Hazard} (Ok x) (Ok y) → x ≡ y
same_ok x y e = cc

-- ---- several values

pub values_apart : (m : Moment) (es : List Term) (vs : List (List ℕ)) → values m es ≡ Ok vs → HaveValues m es vs
values_apart m [] [] e = tt
values_apart m [] (v ∷ vs) e = absurd (cc)
values_apart m (x ∷ es) vs e =
    let a = bind_apart (value m x) (λ v. bind (values m es) (λ rest. Ok (v ∷ rest))) vs e in
    let b = bind_apart (values m es) (λ rest. Ok (a.0 ∷ rest)) vs a.2 in
    subst (HaveValues m (x ∷ es)) (same_ok (a.0 ∷ b.0) vs b.2) (a.1, values_apart m es b.0 b.1)

pub values_together : (m : Moment) (es : List Term) (vs : List (List ℕ)) → HaveValues m es vs → values m es ≡ Ok vs
values_together m [] [] h = refl
values_together m [] (v ∷ vs) h = absurd h
values_together m (x ∷ es) [] h = absurd h
values_together m (x ∷ es) (v ∷ vs) h =
    bind_with (value m x) (λ u. bind (values m es) (λ rest. Ok (u ∷ rest))) v (Ok (v ∷ vs)) h.0
    (bind_with (values m es) (λ rest. Ok (v ∷ rest)) vs (Ok (v ∷ vs)) (values_together m es vs h.1) refl)

abbrev exprs : List TreeRoot → List Term
exprs rs = map (λ (r : TreeRoot). r.expr) rs

abbrev joined : List (List ℕ) → List ℕ
joined vs = flat_map (λ v. v) vs

concat_apart : (m : Moment) (rs : List TreeRoot) (ws : List ℕ) → concat_values m rs ≡ Ok ws → (vs : List (List ℕ)) × HaveValues m (exprs rs) vs × (joined vs ≡ ws)
concat_apart m [] ws e = ([], tt, same_ok [] ws e)
concat_apart m (r ∷ rs) ws e =
    let a = bind_apart (value m r.expr) (λ v. bind (concat_values m rs) (λ rest. Ok (v ++ rest))) ws e in
    let b = bind_apart (concat_values m rs) (λ rest. Ok (a.0 ++ rest)) ws a.2 in
    let c = concat_apart m rs b.0 b.1 in
    (a.0 ∷ c.0, (a.1, c.1), ap (λ rest. a.0 ++ rest) c.2 ∙ same_ok (a.0 ++ b.0) ws b.2)

concat_together : (m : Moment) (rs : List TreeRoot) (vs : List (List ℕ)) → HaveValues m (exprs rs) vs → concat_values m rs ≡ Ok (joined vs)
concat_together m [] [] h = refl
concat_together m [] (v ∷ vs) h = absurd h
concat_together m (r ∷ rs) [] h = absurd h
concat_together m (r ∷ rs) (v ∷ vs) h =
    bind_with (value m r.expr) (λ u. bind (concat_values m rs) (λ rest. Ok (u ++ rest))) v (Ok (v ++ joined vs)) h.0
    (bind_with (concat_values m rs) (λ rest. Ok (v ++ rest)) (joined vs) (Ok (v ++ joined vs)) (concat_together m rs vs h.1) refl)

-- ---- triggers

abbrev event_at : ℕ → List ℕ → Event
event_at i ws = record { who = trigger i; words = ws }

-- one trigger's events
abbrev IsOne : Moment → ℕ → TreeTrigger → List Event → Type 0
IsOne m i x es = (HasGuard m x false × (es ≡ [])) ⊎ ((e : Event) × (es ≡ e ∷ []) × Fires m i x e)

by_guard : (m : Moment) (i : ℕ) (x : TreeTrigger) (g : List ℕ) (b : Bool) (es : List Event) → value m x.guard.expr ≡ Ok g → is_true_word (first_word g) ≡ b → (if b then bind (concat_values m x.args) (λ ws. Ok (event_at i ws ∷ [])) else Ok []) ≡ Ok es → IsOne m i x es
by_guard m i x g false es v t e = inl (record { guard = g; is = v; truth = t }, sym (same_ok [] es e))
by_guard m i x g true es v t e =
    let a = bind_apart (concat_values m x.args) (λ ws. Ok (event_at i ws ∷ [])) es e in
    let b = concat_apart m x.args a.0 a.1 in
    inr (event_at i a.0, sym (same_ok (event_at i a.0 ∷ []) es a.2), record { guard = record { guard = g; is = v; truth = t }; args = b.0; are = b.1; event = ap (event_at i) (sym b.2) })

one_apart : (m : Moment) (i : ℕ) (x : TreeTrigger) (es : List Event) → events_of_trigger m i x ≡ Ok es → IsOne m i x es
one_apart m i x es e =
    let a = bind_apart (value m x.guard.expr) (λ g. if is_true_word (first_word g) then bind (concat_values m x.args) (λ ws. Ok (event_at i ws ∷ [])) else Ok []) es e in
    by_guard m i x a.0 (is_true_word (first_word a.0)) es a.1 refl a.2

quiet : (m : Moment) (i : ℕ) (x : TreeTrigger) → HasGuard m x false → events_of_trigger m i x ≡ Ok []
quiet m i x h =
    bind_with (value m x.guard.expr) _ h.guard (Ok []) h.is
    (ap (λ (b : Bool). if b then bind (concat_values m x.args) (λ ws. Ok (event_at i ws ∷ [])) else Ok []) h.truth)

firing : (m : Moment) (i : ℕ) (x : TreeTrigger) (e : Event) → Fires m i x e → events_of_trigger m i x ≡ Ok (e ∷ [])
firing m i x e h =
    bind_with (value m x.guard.expr) _ h.guard.guard (Ok (e ∷ [])) h.guard.is
    (ap (λ (b : Bool). if b then bind (concat_values m x.args) (λ ws. Ok (event_at i ws ∷ [])) else Ok []) h.guard.truth
    ∙ bind_with (concat_values m x.args) (λ ws. Ok (event_at i ws ∷ [])) (joined h.args) (Ok (e ∷ [])) (concat_together m x.args h.args h.are) (ap (λ (f : Event). Ok (f ∷ [])) (sym h.event)))

fired_apart : (m : Moment) (i : ℕ) (xs : List TreeTrigger) (es : List Event) → fired m i xs ≡ Ok es → AreFired m i xs es
fired_apart m i [] es e = sym (same_ok [] es e)
fired_apart m i (x ∷ xs) es e =
    let a = bind_apart (events_of_trigger m i x) (λ own. bind (fired m (i + 1) xs) (λ rest. Ok (own ++ rest))) es e in
    let b = bind_apart (fired m (i + 1) xs) (λ rest. Ok (a.0 ++ rest)) es a.2 in
    let all : a.0 ++ b.0 ≡ es = same_ok (a.0 ++ b.0) es b.2 in
    let rest = fired_apart m (i + 1) xs b.0 b.1 in
    elim (one_apart m i x a.0 a.1) [
      | inl q ↦ inl (q.0, subst (AreFired m (i + 1) xs) (ap (λ own. own ++ b.0) (sym q.1) ∙ all) rest)
      | inr f ↦ inr (f.0, b.0, sym all ∙ ap (λ own. own ++ b.0) f.1, f.2, rest)
    ]

fired_together : (m : Moment) (i : ℕ) (xs : List TreeTrigger) (es : List Event) → AreFired m i xs es → fired m i xs ≡ Ok es
fired_together m i [] es h = ap Ok (sym h)
fired_together m i (x ∷ xs) es (inl q) =
    bind_with (events_of_trigger m i x) (λ own. bind (fired m (i + 1) xs) (λ rest. Ok (own ++ rest))) [] (Ok es) (quiet m i x q.0)
    (bind_with (fired m (i + 1) xs) (λ rest. Ok rest) es (Ok es) (fired_together m (i + 1) xs es q.1) refl)
fired_together m i (x ∷ xs) es (inr f) =
    bind_with (events_of_trigger m i x) (λ own. bind (fired m (i + 1) xs) (λ rest. Ok (own ++ rest))) (f.0 ∷ []) (Ok es) (firing m i x f.0 f.3)
    (bind_with (fired m (i + 1) xs) (λ rest. Ok (f.0 ∷ rest)) f.1 (Ok es) (fired_together m (i + 1) xs f.1 f.4) (ap Ok (sym f.2)))

-- ---- observers

observed_apart : (m : Moment) (i : ℕ) (xs : List TreeObserver) (es : List Event) → observed m i xs ≡ Ok es → AreObserved m i xs es
observed_apart m i [] es e = sym (same_ok [] es e)
observed_apart m i (x ∷ xs) es e =
    let a = bind_apart (value m x.root.expr) (λ ws. bind (observed m (i + 1) xs) (λ rest. Ok (record { who = observer i; words = ws } ∷ rest))) es e in
    let b = bind_apart (observed m (i + 1) xs) (λ rest. Ok (record { who = observer i; words = a.0 } ∷ rest)) es a.2 in
    (a.0, b.0, sym (same_ok (record { who = observer i; words = a.0 } ∷ b.0) es b.2), a.1, observed_apart m (i + 1) xs b.0 b.1)

observed_together : (m : Moment) (i : ℕ) (xs : List TreeObserver) (es : List Event) → AreObserved m i xs es → observed m i xs ≡ Ok es
observed_together m i [] es h = ap Ok (sym h)
observed_together m i (x ∷ xs) es h =
    bind_with (value m x.root.expr) (λ ws. bind (observed m (i + 1) xs) (λ rest. Ok (record { who = observer i; words = ws } ∷ rest))) h.0 (Ok es) h.3
    (bind_with (observed m (i + 1) xs) (λ rest. Ok (record { who = observer i; words = h.0 } ∷ rest)) h.1 (Ok es) (observed_together m (i + 1) xs h.1 h.4) (ap Ok (sym h.2)))

-- ---- the step

module _ (s : TreeSpec) (m : Moment) where
  abbrev next_exprs : List Term
  next_exprs = map (λ (l : Line). l.expr) (lines s)

  abbrev found : List Event → List Event → List (List ℕ) → StepValues
  found ts os ns = record { triggered = ts; observed = os; nexts = ns }

  pub step_apart : (v : StepValues) → step_at s m ≡ Ok v → IsCleanStep s m v
  step_apart v e =
      let a = bind_apart (fired m 0 s.triggers) (λ ts. bind (observed m 0 s.observers) (λ os. bind (values m next_exprs) (λ ns. Ok (found ts os ns)))) v e in
      let b = bind_apart (observed m 0 s.observers) (λ os. bind (values m next_exprs) (λ ns. Ok (found a.0 os ns))) v a.2 in
      let c = bind_apart (values m next_exprs) (λ ns. Ok (found a.0 b.0 ns)) v b.2 in
      subst (IsCleanStep s m) (same_ok (found a.0 b.0 c.0) v c.2)
      (record { triggered = fired_apart m 0 s.triggers a.0 a.1; observed = observed_apart m 0 s.observers b.0 b.1; nexts = values_apart m next_exprs c.0 c.1 })

  pub step_together : (v : StepValues) → IsCleanStep s m v → step_at s m ≡ Ok v
  step_together v h =
      bind_with (fired m 0 s.triggers) (λ ts. bind (observed m 0 s.observers) (λ os. bind (values m next_exprs) (λ ns. Ok (found ts os ns)))) v.triggered (Ok v) (fired_together m 0 s.triggers v.triggered h.triggered)
      (bind_with (observed m 0 s.observers) (λ os. bind (values m next_exprs) (λ ns. Ok (found v.triggered os ns))) v.observed (Ok v) (observed_together m 0 s.observers v.observed h.observed)
      (bind_with (values m next_exprs) (λ ns. Ok (found v.triggered v.observed ns)) v.nexts (Ok v) (values_together m next_exprs v.nexts h.nexts) refl))

-- ---- the step of a history

module _ (s : TreeSpec) (h : List (List ℕ)) (t : ℕ) (T : Table) (is : table_after s h t ≡ Ok T) where
  abbrev now : Moment
  now = moment s T h t

  step_is : step_events s h t ≡ bind (step_at s now) (λ v. Ok (events_of v))
  step_is = ap (λ r. bind (bind r (λ table. step_at s (moment s table h t))) (λ v. Ok (events_of v))) is

  pub events_apart : (es : List Event) → step_events s h t ≡ Ok es → (v : StepValues) × IsCleanStep s now v × (es ≡ v.triggered ++ v.observed)
  events_apart es e =
      let a = bind_apart (step_at s now) (λ v. Ok (events_of v)) es (sym step_is ∙ e) in
      (a.0, step_apart s now a.0 a.1, sym (same_ok (events_of a.0) es a.2))

  pub events_together : (es : List Event) (v : StepValues) → IsCleanStep s now v → es ≡ v.triggered ++ v.observed → step_events s h t ≡ Ok es
  events_together es v clean e = step_is ∙ bind_with (step_at s now) (λ v. Ok (events_of v)) v (Ok es) (step_together s now v clean) (ap Ok (sym e))

  table_is : table_after s h (suc t) ≡ bind (step_at s now) (grown T)
  table_is = ap (λ r. bind r (next_table s h t)) is

  pub table_apart : (next : Table) → table_after s h (suc t) ≡ Ok next → (v : StepValues) × IsCleanStep s now v × (next ≡ extend T v.nexts)
  table_apart next e =
      let a = bind_apart (step_at s now) (grown T) next (sym table_is ∙ e) in
      (a.0, step_apart s now a.0 a.1, sym (same_ok (extend T a.0.nexts) next a.2))

  pub table_together : (next : Table) (v : StepValues) → IsCleanStep s now v → next ≡ extend T v.nexts → table_after s h (suc t) ≡ Ok next
  table_together next v clean e = table_is ∙ bind_with (step_at s now) (grown T) v (Ok next) (step_together s now v clean) (ap Ok (sym e))
