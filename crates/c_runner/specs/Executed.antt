-- What an execution of a unit writes over the rows of a text: the lines of each step's calls.
use Rattle.std.specs.Prelude.{ℕ, ◌+◌, ◌-◌, false, List, [], ◌∷◌, length, map, slice_get, unwrap_or, Option, Some, None, Result, Ok, Err}
use Rattle.std.specs.List.{flat_map}
use Rattle.c99_tree.specs.declared.types.CVar.{CVar}
use Rattle.c99_tree.specs.declared.types.CProto.{CProto}
use Rattle.c99_tree.specs.declared.undefined.Undefined.{Undefined}
use Rattle.c99_tree.specs.declared.unit.Unit.{Unit as CUnit}
use Rattle.c99_tree.specs.Step.{Called}
use Rattle.c99_tree.specs.Run.{Stopped, run}
use Rattle.extern_rows.specs.declared.header.Leaf.{Leaf}
use Rattle.extern_rows.specs.Leaves.{leaf_columns}
use Rattle.extern_rows.specs.SampleRows.{rows_in}
use Rattle.extern_rows.specs.ValueTexts.{EventOf, typed_event_text}
use Rattle.row_sessions.specs.Session.{Sessions, session_over, words_of}
use Rattle.c_runner.specs.Read.{read_type, read_types}

-- the columns that the externs want, in order
abbrev pub unit_columns : CUnit → List Leaf
unit_columns u = flat_map (λ (x : CVar). leaf_columns (read_types u.types) x.name (read_type u.types x.ty)) u.externs

-- a call with its handler's name and its parameters' types; a handler that isn't there is never met
abbrev pub of_handler : CUnit → Option CProto → List ℕ → List EventOf
of_handler u None words = []
of_handler u (Some h) words = record { mark = false; name = h.name; args = map (read_type u.types) h.params; words = words } ∷ []

-- the line of a call of the step of this number
abbrev pub line_of_call : CUnit → ℕ → Called → List ℕ
line_of_call u n c = flat_map (typed_event_text (read_types u.types) n) (of_handler u (slice_get u.handlers c.handler) c.words)

-- the calls of the step of this number in a run, or the first thing that is undefined up to it
abbrev pub calls_at : ℕ → Result (List (List Called)) Stopped → Result (List Called) Undefined
calls_at n (Ok calls) = Ok (unwrap_or (slice_get calls n) [])
calls_at n (Err stop) = Err stop.kind

-- a step's lines, or what is undefined
abbrev pub shown : CUnit → ℕ → Result (List Called) Undefined → Result (List ℕ) Undefined
shown u n (Ok calls) = Ok (flat_map (line_of_call u n) calls)
shown u n (Err why) = Err why

-- what the step of this number writes in the run over these rows
abbrev pub step_lines : CUnit → List (List ℕ) → ℕ → Result (List ℕ) Undefined
step_lines u rows n = shown u n (calls_at n (run u rows (n + 1)))

-- what the step over the last of some rows writes
abbrev pub last_step : CUnit → List (List ℕ) → Result (List ℕ) Undefined
last_step u rows = step_lines u rows (length rows - 1)

-- the session over the first bytes of an input, which may have ended there
abbrev pub executed : CUnit → Sessions Undefined
executed u text ended =
    let rows = rows_in (unit_columns u) ended text in
    session_over (step_lines u (words_of rows.rows)) rows
