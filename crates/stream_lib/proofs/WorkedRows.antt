-- Worked specifications lowered: each step answers as the specification's own does, and the storage and weight are its own.
use Rattle.std.proofs.Common.{◌≡◌, refl, ℕ, ◌∷◌, [], List, Ok, Err}
use Rattle.stream_types.specs.declared.scalar.Hazard.TheVariants.{ZeroDivisor}
use Rattle.stream_core.specs.Term.{TreeSpec, tree, trees, without_defs}
use Rattle.stream_core.specs.Value.{SpecValue}
use Rattle.stream_core.specs.Lower.{lowered_spec}
use Rattle.stream_core.specs.Eval.{Event, Who, trigger}
use Rattle.stream_core.specs.Eval as eval
use Rattle.stream_core.specs.Limits.{storage, weight}
use Rattle.stream_lib.specs.WorkedForms.{starts, operands, voted, yesterdays}

abbrev event : Who → List ℕ → Event
event who words = record { who = who; words = words }

-- the lowered specification, with each def written out
abbrev low : SpecValue → TreeSpec
low s = without_defs (lowered_spec (trees s))

-- p,q
abbrev starts_rows : List (List ℕ)
starts_rows = (1 ∷ 0 ∷ []) ∷ (1 ∷ 1 ∷ []) ∷ (0 ∷ 0 ∷ []) ∷ (1 ∷ 0 ∷ []) ∷ (1 ∷ 1 ∷ []) ∷ (1 ∷ 0 ∷ []) ∷ []

start_of_history : eval.log (low starts) starts_rows 6 ≡ (event (trigger 0) (0 ∷ 0 ∷ 1 ∷ []) ∷ []) ∷ (event (trigger 0) (1 ∷ 1 ∷ 1 ∷ []) ∷ []) ∷ (event (trigger 0) (0 ∷ 0 ∷ 1 ∷ []) ∷ []) ∷ (event (trigger 0) (0 ∷ 0 ∷ 1 ∷ []) ∷ []) ∷ (event (trigger 0) (1 ∷ 1 ∷ 0 ∷ []) ∷ []) ∷ (event (trigger 0) (1 ∷ 0 ∷ 0 ∷ []) ∷ []) ∷ []
unfolding tree
start_of_history = refl

starts_storage : storage (lowered_spec (trees starts)) ≡ 12
unfolding tree
starts_storage = refl

-- d
abbrev operands_rows : List (List ℕ)
operands_rows = (2 ∷ []) ∷ (0 ∷ []) ∷ []

library_operands_run : eval.step_events (low operands) operands_rows 0 ≡ Ok (event (trigger 0) [] ∷ [])
unfolding tree
library_operands_run = refl

library_operands_hazard : eval.step_events (low operands) operands_rows 1 ≡ Err ZeroDivisor
unfolding tree
library_operands_hazard = refl

-- a,b,c
abbrev voted_rows : List (List ℕ)
voted_rows = (1 ∷ 1 ∷ 2 ∷ []) ∷ (3 ∷ 4 ∷ 5 ∷ []) ∷ (255 ∷ 7 ∷ 7 ∷ []) ∷ []

clocks_votes_windows : eval.log (low voted) voted_rows 3 ≡ (event (trigger 0) (1 ∷ 1 ∷ 1 ∷ 1 ∷ []) ∷ []) ∷ (event (trigger 0) (3 ∷ 0 ∷ 3 ∷ 4 ∷ []) ∷ event (trigger 1) [] ∷ []) ∷ (event (trigger 0) (7 ∷ 1 ∷ 255 ∷ 2 ∷ []) ∷ []) ∷ []
unfolding tree
clocks_votes_windows = refl

voted_storage : storage (lowered_spec (trees voted)) ≡ 9
unfolding tree
voted_storage = refl

-- p
abbrev yesterdays_rows : List (List ℕ)
yesterdays_rows = (1 ∷ []) ∷ (0 ∷ []) ∷ (1 ∷ []) ∷ []

yesterday : eval.log (low yesterdays) yesterdays_rows 3 ≡ (event (trigger 1) [] ∷ []) ∷ (event (trigger 0) [] ∷ event (trigger 1) [] ∷ []) ∷ [] ∷ []
unfolding tree
yesterday = refl

yesterdays_storage : storage (lowered_spec (trees yesterdays)) ≡ 3
unfolding tree
yesterdays_storage = refl

-- each form's value weighs 5, and its buffer 1
yesterdays_weight : weight (lowered_spec (trees yesterdays)) ≡ 12
unfolding tree
yesterdays_weight = refl

starts_weight : weight (lowered_spec (trees starts)) ≡ weight (trees starts)
unfolding tree
starts_weight = refl

voted_weight : weight (lowered_spec (trees voted)) ≡ weight (trees voted)
unfolding tree
voted_weight = refl
