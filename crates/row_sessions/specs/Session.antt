-- A session: steps over the rows of an input, each of which writes lines or stops the session; and how its run ends.
use Rattle.std.specs.Prelude.{◌≡◌, ℕ, suc, ◌+◌, ◌<◌, ◌≤◌, ◌⊎◌, Bool, true, false, List, [], ◌∷◌, ◌++◌, length, map, take, slice_get, Option, Some, None, IfSome, Result, Ok, Err}
use Rattle.std.specs.List.{flat_map}
use Rattle.sm_io.specs.Causes.{Rose}
use Rattle.sm_io.specs.Known.{after_known}
use Rattle.extern_rows.specs.declared.header.Leaf.{Leaf}
use Rattle.extern_rows.specs.SampleRows.{RowAt, FaultAt, Rows, rows_in}
use Rattle.row_sessions.specs.declared.ending.Ending.{Ending}
use Rattle.row_sessions.specs.declared.ending.Ending.TheVariants.{Done, Stopped, BadRow, ReadFault, WriteFault, NoMemory}

-- a step that went well: its lines, and the offset behind its row
pub record SessionStep : Type 0 where
  pub text : List ℕ
  pub end : ℕ

-- how a session stops, and the offset behind the line at which it does, or, for a limit, behind the byte that shows it
pub record SessionStop (F : Type 0) : Type 0 where
  pub ending : Ending F
  pub end : ℕ

-- the steps before the first stop, and that stop, if the rows don't end first
pub record Session (F : Type 0) : Type 0 where
  pub steps : List SessionStep
  pub stop : Option (SessionStop F)

-- all that a session writes
abbrev pub text_of_steps : List SessionStep → List ℕ
text_of_steps steps = flat_map (λ (s : SessionStep). s.text) steps

abbrev pub session_text : {F : Type 0} → Session F → List ℕ
session_text s = text_of_steps s.steps

-- ---- over rows

-- what the step of each number writes, or its fault
abbrev pub StepAnswers : Type 0 → Type 0
StepAnswers F = ℕ → Result (List ℕ) F

abbrev pub row_stop : {F : Type 0} → Option FaultAt → Option (SessionStop F)
row_stop None = None
row_stop (Some at) = Some (record { ending = BadRow at.line at.fault; end = at.end })

-- the step of this number, whose row ends at this offset, and then what comes behind it
abbrev pub after_step : {F : Type 0} → ℕ → ℕ → Result (List ℕ) F → Session F → Session F
after_step n end (Ok text) later = record { steps = record { text = text; end = end } ∷ later.steps; stop = later.stop }
after_step n end (Err fault) later = record { steps = []; stop = Some (record { ending = Stopped n fault; end = end }) }

-- the steps from number n on, over these rows, and then the rows' fault
abbrev pub session_from : {F : Type 0} → StepAnswers F → ℕ → List RowAt → Option FaultAt → Session F
session_from answers n [] fault = record { steps = []; stop = row_stop fault }
session_from answers n (row ∷ rows) fault = after_step n row.end (answers n) (session_from answers (n + 1) rows fault)

abbrev pub session_over : {F : Type 0} → StepAnswers F → Rows → Session F
session_over answers rows = session_from answers 0 rows.rows rows.fault

abbrev pub words_of : List RowAt → List (List ℕ)
words_of rows = map (λ (row : RowAt). row.words) rows

-- ---- its run

-- the session over the first bytes of an input, which may have ended there
abbrev pub Sessions : Type 0 → Type 0
Sessions F = List ℕ → Bool → Session F

-- the sessions of a machine, by what its step over the last of some rows answers
abbrev pub machine_sessions : {F : Type 0} → (List (List ℕ) → Result (List ℕ) F) → List Leaf → Sessions F
machine_sessions answers leaves text ended =
    let rows = rows_in leaves ended text in
    session_over (λ n. answers (take (n + 1) (words_of rows.rows))) rows

-- an output took just this text
abbrev pub Wrote : Option (List ℕ) → Option (List ℕ) → List ℕ → Type 0
Wrote before after text = after ≡ after_known before text

-- An output took the first bytes of what a session writes.
abbrev pub WroteFront : {F : Type 0} → Option (List ℕ) → Option (List ℕ) → Session F → ℕ → Type 0
WroteFront before after session n = (n ≤ length (session_text session)) × Wrote before after (take n (session_text session))

-- Of a session's first bytes, the lines of this step aren't all there, and those of all earlier ones are.
pub record CutIn {F : Type 0} (session : Session F) (n : ℕ) (step : SessionStep) : Type 0 where
  pub k : ℕ
  pub is : slice_get session.steps k ≡ Some step
  pub before : length (text_of_steps (take k session.steps)) ≤ n
  pub cut : n < length (text_of_steps (take (suc k) session.steps))

-- the most bytes that a read takes
abbrev pub piece : ℕ
piece = 4096

-- No more than a piece was taken past a line that ends at this offset.
abbrev pub IsPrompt : List ℕ → ℕ → Type 0
IsPrompt taken end = length taken ≤ end + piece

-- The front of a session's text was written before a failure, at a step whose row ended no more than a piece before.
abbrev pub FailsIn : {F : Type 0} → Session F → List ℕ → Option (List ℕ) → Option (List ℕ) → Type 0
FailsIn session taken before after = (n : ℕ) × (step : SessionStep) × WroteFront before after session n × CutIn session n step × IsPrompt taken step.end

-- How a run over an input ends, of which these bytes were taken, by what its output took before and after. Done and the stops are those of the whole input; a fault
-- of reading comes where nothing in the bytes taken stops; a fault of writing and want of memory leave a front.
abbrev pub EndsSession : {F : Type 0} → Sessions F → List ℕ → List ℕ → Option (List ℕ) → Option (List ℕ) → Ending F → Type 0
EndsSession sessions whole taken before after Done =
    (taken ≡ whole) × ((sessions whole true).stop ≡ None) × Wrote before after (session_text (sessions whole true))
EndsSession sessions whole taken before after ReadFault =
    ((sessions taken false).stop ≡ None) × Wrote before after (session_text (sessions taken false))
EndsSession sessions whole taken before after WriteFault =
    FailsIn (sessions taken false) taken before after ⊎ (taken ≡ whole) × FailsIn (sessions whole true) taken before after
EndsSession sessions whole taken before after NoMemory =
    (n : ℕ) × (WroteFront before after (sessions taken false) n ⊎ (taken ≡ whole) × WroteFront before after (sessions whole true) n)
EndsSession {F} sessions whole taken before after ending =
    (stop : SessionStop F) × ((sessions whole true).stop ≡ Some stop) × (stop.ending ≡ ending)
    × Wrote before after (session_text (sessions whole true)) × IsPrompt taken stop.end

-- ---- over an input and an output

-- What a run sees of its input and its output: what is left of the one, what the other took, each where it is told,
-- and how often each has failed.
pub record Streams : Type 0 where
  pub left : Option (List ℕ)
  pub taken : Option (List ℕ)
  pub input_faults : ℕ
  pub out_faults : ℕ

abbrev pub streams : Option (List ℕ) → ℕ → Option (List ℕ) → ℕ → Streams
streams left input_faults taken out_faults = record { left = left; taken = taken; input_faults = input_faults; out_faults = out_faults }

-- The input held the whole bytes, of which the first were taken.
pub record Took (after : Streams) (whole taken : List ℕ) : Type 0 where
  pub rest : List ℕ
  pub left : after.left ≡ Some rest
  pub split : whole ≡ taken ++ rest

-- Where the input tells what it held, the run ends so. Nothing is said of an output that doesn't tell what it took.
abbrev pub RunsSession : {F : Type 0} → Sessions F → Streams → Streams → Ending F → Type 0
RunsSession sessions before after ending =
    IfSome before.left (λ whole. (taken : List ℕ) × Took after whole taken × EndsSession sessions whole taken before.taken after.taken ending)

-- The count has not fallen, and is higher now or stands at its last value.
abbrev pub HasFailed : ℕ → ℕ → Type 0
HasFailed before after = (before ≤ after) × Rose before after

-- A fault of reading is told only where the input failed, and a fault of writing only where the output did. No other
-- count changes.
abbrev pub TellsFaults : {F : Type 0} → Streams → Streams → Ending F → Type 0
TellsFaults before after ReadFault = HasFailed before.input_faults after.input_faults × (after.out_faults ≡ before.out_faults)
TellsFaults before after WriteFault = (after.input_faults ≡ before.input_faults) × HasFailed before.out_faults after.out_faults
TellsFaults before after ending = (after.input_faults ≡ before.input_faults) × (after.out_faults ≡ before.out_faults)
