-- What an evaluation reads: rings that hold each stream's values from now on, and a row.
use Rattle.std.specs.Prelude.{ℕ, ◌<◌, ◌≡◌, List, [], length, slice_index_or, Ok}
use Rattle.stream_core.specs.Value.{SpecValue}
use Rattle.stream_core.specs.Eval.{Moment, Table, place_of}
use Rattle.stream_core.specs.Meaning.{IsHistory, closed_spec, table}
use Rattle.stream_core.specs.Plain.{lists_from}
use Rattle.stream_lib.specs.PlainSpecs.{IsSoundPlain}

-- The rings and a row as a step. The rings hold the entries from now on, so the time is 0.
unfoldable pub now_moment : SpecValue → Table → List ℕ → Moment
now_moment s rings row = record { types = s.types; externs = s.externs; place = place_of (length s.streams) (closed_spec s).libs; table = rings; row = row; time = 0 }

-- some history has these rings before its step of this time, and this row there
pub record IsSeen (s : SpecValue) (rings : Table) (row : List ℕ) : Type 0 where
  pub plain : IsSoundPlain s
  pub history : List (List ℕ)
  pub time : ℕ
  pub lists : Table
  pub rows : IsHistory s history
  pub there : time < length history
  pub row_is : slice_index_or history time [] ≡ row
  pub table_is : table s history time ≡ Ok lists
  pub rings_are : rings ≡ lists_from time lists
