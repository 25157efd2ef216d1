-- What a monitor stands for after a step.
use Rattle.std.proofs.Common.{◌≡◌, ℕ, ◌+◌, min, List, [], ◌∷◌, ◌++◌, length, Ok, Err, refl, sym, ap, ◌∙◌, subst}
use Rattle.stream_types.specs.declared.scalar.Hazard.{Hazard}
use Rattle.stream_types.specs.Types.{AreWords}
use Rattle.stream_core.specs.Value.{SpecValue}
use Rattle.stream_core.specs.Eval.{Table, Event, StepValues, events_of, initial, row_leaves, step_at}
use Rattle.stream_core.specs.Plain.{moved}
use Rattle.stream_core.specs.Meaning.{closed_spec, step}
use Rattle.stream_lib.specs.PlainSpecs.{IsSoundPlain}
use Rattle.stream_interp.specs.declared.layout.Layout.{Layout}
use Rattle.stream_interp.specs.declared.steps.Work.{Work}
use Rattle.stream_interp.specs.Buffers.{FitsSpec}
use Rattle.stream_interp.specs.Reading.{IsLayout}
use Rattle.stream_interp.specs.Roots.{rows_in}
use Rattle.stream_interp.specs.Running.{value_of, IsRunning}
use Rattle.stream_interp.specs.Seen.{IsSeen, now_moment}
use Rattle.stream_interp.specs.Standing.{MonitorValue, StandsFor}
use Rattle.stream_interp.proofs.Taken.{first_stands, is_seen, taken, still_stands}

-- rings that are pushed by the rows in a list of words
pub rows_pushed : (s : SpecValue) (rings rings' : Table) (ws ws' : List ℕ) (nexts : List (List ℕ)) → rings' ≡ moved rings (rows_in s.types s.streams ws) → ws ≡ ws' → rows_in s.types s.streams ws' ≡ nexts → rings' ≡ moved rings nexts
rows_pushed s rings rings' ws ws' nexts p q r = p ∙ ap (λ (us : List ℕ). moved rings (rows_in s.types s.streams us)) q ∙ ap (moved rings) r

-- before the first step
module _ (s : SpecValue) (plain : IsSoundPlain s) (rings : Table) (first : rings ≡ initial (closed_spec s)) (work : Work) where
  pub stands_first : StandsFor (value_of s rings 0 work) []
  stands_first = still_stands (record { spec = s; rings = rings; time = 0; events = [] }) [] work.log.events (first_stands s plain rings first)

  pub running_first : (layout : Layout) → IsLayout s layout → FitsSpec s work → IsRunning s layout rings 0 work
  running_first layout laid fits = record { stands = ([], stands_first); laid = laid; fits = fits }

module _ (s : SpecValue) (layout : Layout) (rings : Table) (time : ℕ) (work : Work) (running : IsRunning s layout rings time work) where
  pub row_seen : (row : List ℕ) → AreWords (row_leaves (closed_spec s)) row → IsSeen s rings row
  row_seen row words = is_seen (value_of s rings time work) running.stands.0 row running.stands.1 words

  -- a step with a hazard
  pub running_same : (work' : Work) → FitsSpec s work' → IsRunning s layout rings time work'
  running_same work' fits =
      record {
        stands = (running.stands.0, still_stands (value_of s rings time work) running.stands.0 work'.log.events running.stands.1);
        laid = running.laid;
        fits = fits;
      }

  module _ (row : List ℕ) (words : AreWords (row_leaves (closed_spec s)) row) (v : StepValues) (is : step_at (closed_spec s) (now_moment s rings row) ≡ Ok v) (rings' : Table) (time' : ℕ) (work' : Work) (pushed : rings' ≡ moved rings v.nexts) (count : time' ≡ min (time + 1) 18446744073709551615) (shown : work'.log.events ≡ events_of v) where
    -- a step without one
    pub stands_next : (h : List (List ℕ)) → StandsFor (value_of s rings time work) h → StandsFor (value_of s rings' time' work') (h ++ row ∷ []) × (step s (h ++ row ∷ []) (length h) ≡ Ok work'.log.events)
    stands_next h stands =
        let r = taken (value_of s rings time work) h row v rings' time' stands words is pushed count in (
          still_stands (record { spec = s; rings = rings'; time = time'; events = events_of v }) (h ++ row ∷ []) work'.log.events r.0,
          r.1 ∙ ap (λ (es : List Event). Ok es) (sym shown),
        )

    pub running_next : FitsSpec s work' → IsRunning s layout rings' time' work'
    running_next fits = record { stands = (running.stands.0 ++ row ∷ [], (stands_next running.stands.0 running.stands.1).0); laid = running.laid; fits = fits }
