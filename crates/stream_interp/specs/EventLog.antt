-- Events, as marks in a list of words.
use Rattle.std.specs.Prelude.{ℕ, ◌+◌, ◌-◌, ◌≤◌, ◌≡◌, List, [], ◌∷◌, length, map, take, drop}
use Rattle.std.specs.List.{AllByRecursion}
use Rattle.stream_core.specs.Eval as eval
use Rattle.stream_core.specs.Eval.{Event}
use Rattle.stream_interp.specs.declared.events.Who.{Who}
use Rattle.stream_interp.specs.declared.events.Who.TheVariants.{Trigger, Observer}
use Rattle.stream_interp.specs.declared.events.Mark.{Mark}

abbrev pub who_of : Who → eval.Who
who_of (Trigger i) = eval.trigger i
who_of (Observer i) = eval.observer i

abbrev pub event_at : List ℕ → Mark → Event
event_at words k = record { who = who_of k.who; words = take (k.end - k.first) (drop k.first words) }

abbrev pub events_in : List ℕ → List Mark → List Event
events_in words marks = map (event_at words) marks

-- each mark lies before a place
abbrev pub AreBefore : ℕ → List Mark → Type 0
AreBefore end marks = AllByRecursion (λ (k : Mark). (k.first ≤ k.end) × (k.end ≤ end)) marks

-- the words of all these events
abbrev pub used : List Event → ℕ
used [] = 0
used (e ∷ es) = length e.words + used es

-- the events, and for how many words and events there is room
pub record LogValue : Type 0 where
  pub events : List Event
  pub words : ℕ
  pub marks : ℕ

-- the first marks are those of the events, whose words fill the first words
pub record IsFilled (words : List ℕ) (end : ℕ) (marks : List Mark) (count : ℕ) : Type 0 where
  pub within : end ≤ length words
  pub counted : count ≤ length marks
  pub before : AreBefore end (take count marks)
  pub used_are : used (events_in words (take count marks)) ≡ end
