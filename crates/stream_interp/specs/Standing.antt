-- What a monitor stands for.
use Rattle.std.specs.Prelude.{ℕ, ◌≡◌, List, length, min, Ok}
use Rattle.stream_core.specs.Value.{SpecValue}
use Rattle.stream_core.specs.Eval.{Event, Table}
use Rattle.stream_core.specs.Plain.{lists_from}
use Rattle.stream_core.specs.Meaning.{IsHistory, table}
use Rattle.stream_lib.specs.PlainSpecs.{IsSoundPlain}

-- a specification, the entries of its streams from now on, the count of steps, and the last step's events
pub record MonitorValue : Type 0 where
  pub spec : SpecValue
  pub rings : Table
  pub time : ℕ
  pub events : List Event

-- The monitor has taken these rows: no step over them had a hazard, and its rings hold what the next steps can read.
-- The count of steps stays at its greatest number.
pub record StandsFor (m : MonitorValue) (h : List (List ℕ)) : Type 0 where
  pub plain : IsSoundPlain m.spec
  pub history : IsHistory m.spec h
  pub lists : Table
  pub are : table m.spec h (length h) ≡ Ok lists
  pub rings : m.rings ≡ lists_from (length h) lists
  pub time : m.time ≡ min (length h) 18446744073709551615

abbrev pub HasHistory : MonitorValue → Type 0
HasHistory m = (h : List (List ℕ)) × StandsFor m h
