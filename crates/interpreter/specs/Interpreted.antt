-- What an interpretation of a specification writes over the rows of a text: the lines of each step's events. All of it
-- is a function of the specification's trees.
use Rattle.std.specs.Prelude.{ℕ, ◌-◌, true, false, List, [], ◌∷◌, length, map, slice_get, Option, Some, None, Result, Ok, Err}
use Rattle.std.specs.List.{flat_map}
use Rattle.stream_types.specs.declared.scalar.Hazard.{Hazard}
use Rattle.stream_core.specs.Value.{SpecValue}
use Rattle.stream_core.specs.Term.{TreeSpec, TreeTrigger, TreeObserver, TreeRoot, trees, without_defs}
use Rattle.stream_core.specs.Eval.{Who, trigger, observer, Event, step_events}
use Rattle.stream_core.specs.Meaning.{step}
use Rattle.stream_core.specs.declared.spec.ExternItem.{ExternItem}
use Rattle.extern_rows.specs.declared.header.Leaf.{Leaf}
use Rattle.extern_rows.specs.Leaves.{leaf_columns}
use Rattle.extern_rows.specs.SampleRows.{rows_in}
use Rattle.extern_rows.specs.ValueTexts.{EventOf, typed_event_text}
use Rattle.row_sessions.specs.Session.{Sessions, session_over, words_of}

-- ---- of trees

-- the columns that the externs want, in order
abbrev pub columns_of : TreeSpec → List Leaf
columns_of t = flat_map (λ (x : ExternItem). leaf_columns t.types x.name x.ty) t.externs

-- an event with its name and types; what isn't there is never met
abbrev pub of_trigger : Option TreeTrigger → List ℕ → List EventOf
of_trigger None words = []
of_trigger (Some x) words = record { mark = false; name = x.name; args = map (λ (r : TreeRoot). r.ty) x.args; words = words } ∷ []

abbrev pub of_observer : Option TreeObserver → List ℕ → List EventOf
of_observer None words = []
of_observer (Some x) words = record { mark = true; name = x.name; args = x.root.ty ∷ []; words = words } ∷ []

abbrev pub named_event : TreeSpec → Who → List ℕ → List EventOf
named_event t (trigger i) words = of_trigger (slice_get t.triggers i) words
named_event t (observer i) words = of_observer (slice_get t.observers i) words

-- the line of an event of the step of this number
abbrev pub line_of_event : TreeSpec → ℕ → Event → List ℕ
line_of_event t n e = flat_map (typed_event_text t.types n) (named_event t e.who e.words)

-- a step's lines, or its hazard
abbrev pub shown : TreeSpec → ℕ → Result (List Event) Hazard → Result (List ℕ) Hazard
shown t n (Ok events) = Ok (flat_map (line_of_event t n) events)
shown t n (Err hazard) = Err hazard

-- the session over the first bytes of an input, which may have ended there
abbrev pub interpreted_by : TreeSpec → Sessions Hazard
interpreted_by t text ended =
    let rows = rows_in (columns_of t) ended text in
    session_over (λ n. shown t n (step_events (without_defs t) (words_of rows.rows) n)) rows

-- ---- of specifications

abbrev pub extern_columns : SpecValue → List Leaf
extern_columns s = columns_of (trees s)

-- what the step over the last of some rows writes, or its hazard
abbrev pub last_step : SpecValue → List (List ℕ) → Result (List ℕ) Hazard
last_step s rows = let n : ℕ = length rows - 1 in shown (trees s) n (step s rows n)

abbrev pub interpreted : SpecValue → Sessions Hazard
interpreted s = interpreted_by (trees s)
