-- What the program of a specification does over rows that the specification is interpreted over.
use Rattle.std.specs.Prelude.{◌≡◌, ℕ, Bool, true, false, List, [], ◌∷◌, Option, Result, Ok, Err}
use Rattle.std.specs.List.{filter, flat_map}
use Rattle.stream_types.specs.declared.scalar.Hazard.{Hazard}
use Rattle.stream_core.specs.Value.{SpecValue}
use Rattle.stream_core.specs.Term.{TreeSpec, trees, without_defs}
use Rattle.stream_core.specs.Eval.{Who, trigger, observer, Event, step_events}
use Rattle.c99_tree.specs.declared.unit.Unit.{Unit as CUnit}
use Rattle.extern_rows.specs.SampleRows.{FaultAt, rows_in}
use Rattle.row_sessions.specs.Session.{Sessions, Wrote, row_stop, session_over, session_text, words_of}
use Rattle.interpreter.specs.Interpreted.{columns_of, line_of_event}
use Rattle.c_runner.specs.Executed.{executed, unit_columns}
use Rattle.sm_io.specs.Files.{Files}
use Rattle.tool_top.specs.Answer.{IsSettled}
use Rattle.tool_top.specs.Compile.{IsCompiled}
use Rattle.tool_top.specs.Execute.{RunsExecute}
use Rattle.tool_top.specs.Interpret.{IsReadAs, RunsInterpret}
use Rattle.tool_top.specs.Outside.{Outside}
use Rattle.tool_top.specs.Runs.{IsTold}
use Rattle.tool_top.specs.Wanted.{contents, unit_files}
use Rattle.tool_top.specs.declared.outcome.Outcome.{Outcome}
use Rattle.tool_top.specs.declared.outcome.Outcome.TheVariants.{Done, BadRow}

-- a trigger's event, and no observer's
abbrev pub is_trigger : Who → Bool
is_trigger (trigger i) = true
is_trigger (observer i) = false

abbrev pub is_call : Event → Bool
is_call e = is_trigger e.who

-- a step's lines without those of observers, or its hazard
abbrev pub shown_calls : TreeSpec → ℕ → Result (List Event) Hazard → Result (List ℕ) Hazard
shown_calls t n (Ok events) = Ok (flat_map (line_of_event t n) (filter is_call events))
shown_calls t n (Err hazard) = Err hazard

-- the session of a specification, without the lines of its observers
abbrev pub called_by : TreeSpec → Sessions Hazard
called_by t text ended =
    let rows = rows_in (columns_of t) ended text in
    session_over (λ n. shown_calls t n (step_events (without_defs t) (words_of rows.rows) n)) rows

-- The program's session stops as the rows do, with this fault if they have one, and has the steps of the specification's
-- without its observers.
pub record Agrees (s : SpecValue) (u : CUnit) (text : List ℕ) (ended : Bool) (fault : Option FaultAt) : Type 0 where
  pub columns : unit_columns u ≡ columns_of (trees s)
  pub steps : (executed u text ended).steps ≡ (called_by (trees s) text ended).steps
  pub stop : (executed u text ended).stop ≡ row_stop fault

-- ---- of the two commands

-- the answers after which the rows of the input had ended, at its end or at a line that gives none
abbrev pub EndsWithRows : Outcome → Type 0
EndsWithRows Done = Unit {0}
EndsWithRows (BadRow line fault) = Unit {0}
EndsWithRows outcome = ⊥

-- An output took the lines of a specification's calls, without those of its observers, and no other byte.
abbrev pub WroteCalls : SpecValue → List ℕ → Outside → Outside → Type 0
WroteCalls s whole before after = Wrote before.taken after.taken (session_text (called_by (trees s) whole true))

-- Where `interpret` over a file answers Done or BadRow, `cexec` over the two files that `compile` puts for it answers the
-- same over the same input, unless it met a fault of the outside or found no memory, and writes the same without the
-- lines of observers.
abbrev pub CompiledFilesRunAlike : Type 0
CompiledFilesRunAlike =
    (spec name : List ℕ) (files made : Files) (header source left : List ℕ) (before after before' after' : Outside) (a b : Outcome)
    → IsCompiled spec name files header source → contents made (unit_files name) ≡ Ok (header ∷ source ∷ [])
    → IsTold before files left → IsTold before' made left → EndsWithRows a → IsSettled b
    → RunsInterpret spec before after a → RunsExecute name before' after' b
    → (b ≡ a) × ((s : SpecValue) → IsReadAs spec files s → WroteCalls s left before' after')
