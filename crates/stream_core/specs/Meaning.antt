-- What a specification means: each word here writes its defs out.
use Rattle.std.specs.Prelude.{ℕ, List, Option, Result}
use Rattle.stream_types.specs.declared.scalar.Hazard.{Hazard}
use Rattle.stream_core.specs.Value.{SpecValue}
use Rattle.stream_core.specs.Term.{TreeSpec, trees, without_defs}
use Rattle.stream_core.specs.Eval as eval
use Rattle.stream_core.specs.Eval.{Table, Event}
use Rattle.stream_core.specs.Equations as equations
use Rattle.stream_core.specs.Handlers as called
use Rattle.stream_core.specs.Handlers.{Call}
use Rattle.stream_core.specs.Limits as limits
use Rattle.stream_core.specs.Soundness as soundness
use Rattle.stream_core.specs.Soundness.{SoundnessFault}

-- the specification as trees, with each def written out
abbrev pub closed_spec : SpecValue → TreeSpec
closed_spec s = without_defs (trees s)

-- rows of one word for each scalar of the externs
abbrev pub IsHistory : SpecValue → List (List ℕ) → Type 0
IsHistory s h = eval.IsHistory (closed_spec s) h

-- the values of each stream and operand after n steps, or the first hazard
abbrev pub table : SpecValue → List (List ℕ) → ℕ → Result Table Hazard
table s h n = eval.table_after (closed_spec s) h n

-- lists that begin with the initial values and go on with the expressions' values at each step below n
abbrev pub Meets : SpecValue → List (List ℕ) → ℕ → Table → Type 0
Meets s h n lists = equations.Meets (closed_spec s) h n lists

-- each stream that an expression reads is read within its initial values
abbrev pub Bounded : SpecValue → Type 0
Bounded s = equations.Bounded (closed_spec s)

-- step t: its first hazard, or its events
abbrev pub step : SpecValue → List (List ℕ) → ℕ → Result (List Event) Hazard
step s h t = eval.step_events (closed_spec s) h t

-- no step below n has a hazard, and there are rows for n steps
abbrev pub Clean : SpecValue → List (List ℕ) → ℕ → Type 0
Clean s h n = eval.Clean (closed_spec s) h n

-- the events of the steps below n, step by step
abbrev pub log : SpecValue → List (List ℕ) → ℕ → List (List Event)
log s h n = eval.log (closed_spec s) h n

-- the names of the handlers, each once
abbrev pub handlers : SpecValue → List (List ℕ)
handlers s = called.handlers (closed_spec s)

-- the calls of the steps below n, step by step
abbrev pub calls : SpecValue → List (List ℕ) → ℕ → List (List Call)
calls s h n = called.calls (closed_spec s) h n

-- the operators, literals and reads of all roots, with defs and library forms written out
abbrev pub weight : SpecValue → ℕ
weight s = limits.weight (trees s)

-- the bytes of all streams, buffers and externs
abbrev pub storage : SpecValue → ℕ
storage s = limits.storage (trees s)

-- the first fault of soundness, or none
abbrev pub IsFirstFault : SpecValue → Option SoundnessFault → Type 0
IsFirstFault s fault = soundness.IsFirstFault (trees s) fault
