-- What happens at a step that has no hazard.
use Rattle.std.specs.Prelude.{ℕ, ◌+◌, ◌≡◌, ◌⊎◌, List, [], ◌∷◌, map, Bool, true, false, Ok}
use Rattle.std.specs.List.{flat_map}
use Rattle.stream_core.specs.Term.{Term, TreeSpec, TreeTrigger, TreeObserver, TreeRoot}
use Rattle.stream_core.specs.Library.{is_true_word}
use Rattle.stream_core.specs.Eval.{Moment, Line, Event, StepValues, trigger, observer, first_word, lines, value}

-- as many expressions as values, each of its value
abbrev pub HaveValues : Moment → List Term → List (List ℕ) → Type 0
HaveValues m [] [] = Unit {0}
HaveValues m [] (v ∷ vs) = ⊥
HaveValues m (e ∷ es) [] = ⊥
HaveValues m (e ∷ es) (v ∷ vs) = (value m e ≡ Ok v) × HaveValues m es vs

-- the guard has a value, by which the trigger fires or not
pub record HasGuard (m : Moment) (x : TreeTrigger) (fires : Bool) : Type 0 where
  pub guard : List ℕ
  pub is : value m x.guard.expr ≡ Ok guard
  pub truth : is_true_word (first_word guard) ≡ fires

-- trigger i fires: its guard is true, and its arguments' values, one after another, are the words of its event
pub record Fires (m : Moment) (i : ℕ) (x : TreeTrigger) (e : Event) : Type 0 where
  pub guard : HasGuard m x true
  pub args : List (List ℕ)
  pub are : HaveValues m (map (λ (r : TreeRoot). r.expr) x.args) args
  pub event : e ≡ record { who = trigger i; words = flat_map (λ v. v) args }

-- the events of the triggers from number i on, in their order: one for each that fires
abbrev pub AreFired : Moment → ℕ → List TreeTrigger → List Event → Type 0
AreFired m i [] es = es ≡ []
AreFired m i (x ∷ xs) es = (HasGuard m x false × AreFired m (i + 1) xs es) ⊎ ((e : Event) × (rest : List Event) × (es ≡ e ∷ rest) × Fires m i x e × AreFired m (i + 1) xs rest)

-- the events of the observers from number i on, in their order: one for each, with its value
abbrev pub AreObserved : Moment → ℕ → List TreeObserver → List Event → Type 0
AreObserved m i [] es = es ≡ []
AreObserved m i (x ∷ xs) es = (v : List ℕ) × (rest : List Event) × (es ≡ record { who = observer i; words = v } ∷ rest) × (value m x.root.expr ≡ Ok v) × AreObserved m (i + 1) xs rest

-- each guard, the arguments of each true guard, each observer and each line have values, and these are the step's
pub record IsCleanStep (s : TreeSpec) (m : Moment) (v : StepValues) : Type 0 where
  pub triggered : AreFired m 0 s.triggers v.triggered
  pub observed : AreObserved m 0 s.observers v.observed
  pub nexts : HaveValues m (map (λ (l : Line). l.expr) (lines s)) v.nexts
