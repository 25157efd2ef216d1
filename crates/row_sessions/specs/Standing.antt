-- Where a session stands between two lines, and what a line adds to it.
use Rattle.std.specs.Prelude.{◌≡◌, ◌⊎◌, ℕ, ◌+◌, ◌*◌, ◌<◌, ◌≤◌, Bool, true, false, if◌then◌else◌, List, [], ◌∷◌, ◌++◌, length, All, Option, Some, None, IfSome, IfErr, OnOk, Result, Ok, Err, take}
use Rattle.sm_io.specs.Known.{before_known, after_known}
use Rattle.extern_rows.specs.declared.fault.RowFault.{RowFault}
use Rattle.extern_rows.specs.declared.fault.RowFault.TheVariants.{Memory}
use Rattle.extern_rows.specs.declared.header.Leaf.{Leaf}
use Rattle.extern_rows.specs.Columns.{Columns, header_of, row_of, wanted_scalars}
use Rattle.extern_rows.specs.Feeding.{Feeding}
use Rattle.extern_rows.specs.Leaves.{scalars_of}
use Rattle.extern_rows.specs.Lines.{is_break, is_blank, parts, first_line, last_line, longest_line}
use Rattle.extern_rows.specs.SampleRows.{RowAt, FaultAt, Rows, rows_from}
use Rattle.row_sessions.specs.Session.{SessionStep, Session, row_stop, after_step, text_of_steps, machine_sessions, WroteFront, EndsSession, HasFailed}
use Rattle.row_sessions.specs.Stepping.{Output, output, WritesAll, WritesPart, WritesNothing}
use Rattle.row_sessions.specs.declared.ending.Ending.{Ending}
use Rattle.row_sessions.specs.declared.ending.Ending.TheVariants.{Done, Stopped, BadRow, ReadFault, WriteFault, NoMemory}
use Rattle.row_sessions.specs.declared.gather.Gather.{Gather}
use Rattle.row_sessions.specs.declared.lines.Lines.{Lines}

-- ---- a line

-- what a line reads as: the header behind it, and its row, if it is one
pub record LineRead : Type 0 where
  pub header : Option Columns
  pub row : Option (List ℕ)

abbrev pub header_read : Result Columns RowFault → Result LineRead RowFault
header_read (Ok columns) = Ok (record { header = Some columns; row = None })
header_read (Err fault) = Err fault

abbrev pub row_read : Columns → Result (List ℕ) RowFault → Result LineRead RowFault
row_read columns (Ok words) = Ok (record { header = Some columns; row = Some words })
row_read columns (Err fault) = Err fault

abbrev pub text_read : List Leaf → Option Columns → List ℕ → Result LineRead RowFault
text_read leaves None line = header_read (header_of leaves line)
text_read leaves (Some columns) line = row_read columns (row_of columns line)

-- what a line reads as under a header, if there is one
abbrev pub line_read : List Leaf → Option Columns → List ℕ → Result LineRead RowFault
line_read leaves header line = if is_blank line then Ok (record { header = header; row = None }) else text_read leaves header line

abbrev pub row_if : Bool → List ℕ → Option (List ℕ)
row_if true row = Some row
row_if false row = None

-- What reading a line answers; want of memory is free.
abbrev pub ReadsLine : List Leaf → Option Columns → List ℕ → Option Columns → List ℕ → Result Bool RowFault → Type 0
ReadsLine leaves header line header' row (Err Memory) = Unit {0}
ReadsLine leaves header line header' row (Err fault) = line_read leaves header line ≡ Err fault
ReadsLine leaves header line header' row (Ok is_row) = line_read leaves header line ≡ Ok (record { header = header'; row = row_if is_row row })

-- The header's columns, and the room for a row, are those of the leaves.
pub record FitsLeaves (leaves : List Leaf) (header : Option Columns) (row : List ℕ) : Type 0 where
  pub room : length row ≡ length leaves
  pub count : IfSome header (λ h. length h.wanted ≡ length leaves)
  pub scalars : IfSome header (λ h. wanted_scalars h.wanted ≡ scalars_of leaves)

-- ---- the step of a row

-- the lines that are held, as what an output took
abbrev pub held_in : Gather → Output
held_in held = output (Some held.bytes.items) held.starved

-- how a line ends a session that gives no row
abbrev pub row_ending : {F : Type 0} → ℕ → RowFault → Ending F
row_ending line Memory = NoMemory
row_ending line fault = BadRow line fault

-- what the step of this number writes and answers
abbrev pub StepEnds : {F : Type 0} → ℕ → Result (List ℕ) F → Output → Output → Result (Unit {0}) (Ending F) → Type 0
StepEnds n (Ok text) before after (Ok _) = WritesAll before after text
StepEnds n (Ok text) before after (Err NoMemory) = WritesPart before after text
StepEnds n (Err fault) before after (Err (Stopped step told)) = (step ≡ n) × (told ≡ fault) × WritesNothing before after
StepEnds n _ before after _ = ⊥

-- what a line does by the row that it is, if it is one, behind these rows
abbrev pub RowTaken : {F : Type 0} → (List (List ℕ) → Result (List ℕ) F) → List (List ℕ) → ℕ → Option (List ℕ) → Output → Output → Result (Unit {0}) (Ending F) → Type 0
RowTaken answers rows steps (Some row) before after result = StepEnds steps (answers (rows ++ row ∷ [])) before after result
RowTaken answers rows steps None before after (Ok _) = WritesNothing before after
RowTaken answers rows steps None before after (Err _) = ⊥

-- A line's step found no room for all that it writes.
pub record Starved {F : Type 0} (answers : List (List ℕ) → Result (List ℕ) F) (rows : List (List ℕ)) (read : Result LineRead RowFault) (before after : Output) : Type 0 where
  pub header : Option Columns
  pub row : List ℕ
  pub text : List ℕ
  pub reads : read ≡ Ok (record { header = header; row = Some row })
  pub answer : answers (rows ++ row ∷ []) ≡ Ok text
  pub wrote : WritesPart before after text

-- what a line does that reads so; want of memory is free where it is read
abbrev pub LineTaken : {F : Type 0} → (List (List ℕ) → Result (List ℕ) F) → List (List ℕ) → ℕ → ℕ → Result LineRead RowFault → Output → Output → Result (Unit {0}) (Ending F) → Type 0
LineTaken answers rows number steps read before after (Err NoMemory) = WritesNothing before after ⊎ Starved answers rows read before after
LineTaken answers rows number steps (Err fault) before after (Err (BadRow line told)) = (line ≡ number) × (told ≡ fault) × WritesNothing before after
LineTaken answers rows number steps (Err fault) before after _ = ⊥
LineTaken answers rows number steps (Ok read) before after result = RowTaken answers rows steps read.row before after result

-- the rows behind it
abbrev pub rows_with : List (List ℕ) → Option (List ℕ) → List (List ℕ)
rows_with rows None = rows
rows_with rows (Some row) = rows ++ row ∷ []

-- A line that was taken leaves its header; its row, if it is one, is the last that the machine was stepped over, and is
-- counted.
pub record LineKept (read : Result LineRead RowFault) (before after : Lines) (stands stands' : List (List ℕ) → Type 0) : Type 0 where
  pub row : Option (List ℕ)
  pub is : read ≡ Ok (record { header = after.header; row = row })
  pub stood : (rows : List (List ℕ)) → stands rows → stands' (rows_with rows row)
  pub counted : (rows : List (List ℕ)) → before.steps ≡ length rows → after.steps ≡ length (rows_with rows row)

-- ---- where a session stands

-- the steps over some rows behind others, and then the rows' fault
abbrev pub session_after : {F : Type 0} → (List (List ℕ) → Result (List ℕ) F) → List (List ℕ) → List RowAt → Option FaultAt → Session F
session_after answers before [] fault = record { steps = []; stop = row_stop fault }
session_after answers before (row ∷ rows) fault =
    after_step (length before) row.end (answers (before ++ row.words ∷ [])) (session_after answers (before ++ row.words ∷ []) rows fault)

abbrev pub session_behind : {F : Type 0} → (List (List ℕ) → Result (List ℕ) F) → List (List ℕ) → Rows → Session F
session_behind answers before rows = session_after answers before rows.rows rows.fault

-- steps, and then a session
abbrev pub then_session : {F : Type 0} → List SessionStep → Session F → Session F
then_session steps later = record { steps = steps ++ later.steps; stop = later.stop }

-- A feed holds the first bytes of a line that isn't whole yet, and refused nothing.
pub record IsOpen (f : Feeding) : Type 0 where
  pub clear : f.refusal ≡ None
  pub part : f.whole ≡ false
  pub unbroken : All (λ b. is_break b ≡ false) f.line
  pub short : length f.line ≤ longest_line
  pub low : (f.number ≤ last_line) ⊎ ((f.number ≡ last_line + 1) × (f.line ≡ []))

-- The sessions over a text of whole lines and what comes behind it are these steps, and then those of what comes
-- behind it, the first line of which has this number, under this header and behind these rows.
abbrev pub GoesOn : {F : Type 0} → (List (List ℕ) → Result (List ℕ) F) → List Leaf → List (List ℕ) → List SessionStep → List ℕ → ℕ → Option Columns → Type 0
GoesOn answers leaves rows steps front number header =
    (ended : Bool) (more : List ℕ)
    → machine_sessions answers leaves (front ++ more) ended ≡ then_session steps (session_behind answers rows (rows_from leaves ended number (length front) (parts more) header))

-- A session stands behind a text: nothing in it stops, each of its rows was stepped over, and the lines were written
-- behind what the output took first.
pub record Stands {F : Type 0} (answers : List (List ℕ) → Result (List ℕ) F) (leaves : List Leaf) (first : Option (List ℕ)) (lines : Lines) (stands : List (List ℕ) → Type 0) (taken : Option (List ℕ)) (text : List ℕ) : Type 0 where
  pub rows : List (List ℕ)
  pub steps : List SessionStep
  pub front : List ℕ
  pub is : text ≡ front ++ lines.feed.line
  pub feed : IsOpen lines.feed
  pub goes_on : GoesOn answers leaves rows steps front lines.feed.number lines.header
  pub wrote : taken ≡ after_known first (text_of_steps steps)
  pub stood : stands rows
  pub counted : lines.steps ≡ length rows
  pub few : length rows < lines.feed.number

-- It stands somewhere.
pub record MayGoOn {F : Type 0} (answers : List (List ℕ) → Result (List ℕ) F) (leaves : List Leaf) (lines : Lines) (stands : List (List ℕ) → Type 0) (taken : Option (List ℕ)) : Type 0 where
  pub first : Option (List ℕ)
  pub text : List ℕ
  pub there : Stands answers leaves first lines stands taken text
  pub fits : FitsLeaves leaves lines.header lines.row.items

-- How a run ends that took these bytes of an input, whatever comes behind them.
abbrev pub Ends : {F : Type 0} → (List (List ℕ) → Result (List ℕ) F) → List Leaf → Option (List ℕ) → List ℕ → Option (List ℕ) → Ending F → Type 0
Ends answers leaves first taken after ending = (back : List ℕ) → EndsSession (machine_sessions answers leaves) (taken ++ back) taken first after ending

-- What was written is a front of a session's text.
abbrev pub Fronts : {F : Type 0} → Session F → Option (List ℕ) → Option (List ℕ) → Type 0
Fronts session first after = (n : ℕ) × WroteFront first after session n

-- The same, where the lines are held behind those that were sent; what is held is a front of the session over the bytes
-- taken.
abbrev pub HoldsAtEnd : {F : Type 0} → (List (List ℕ) → Result (List ℕ) F) → List Leaf → List ℕ → List ℕ → List ℕ → Ending F → Type 0
HoldsAtEnd answers leaves taken sent held ending =
    Ends answers leaves (Some []) taken (Some (sent ++ held)) ending × Fronts (machine_sessions answers leaves taken false) (Some []) (Some (sent ++ held))

-- A session stands behind a text, some of its lines were sent, and the others are held.
abbrev pub Holds : {F : Type 0} → (List (List ℕ) → Result (List ℕ) F) → List Leaf → Lines → (List (List ℕ) → Type 0) → List ℕ → List ℕ → List ℕ → Type 0
Holds answers leaves lines stands sent held text = Stands answers leaves (Some []) lines stands (Some (sent ++ held)) text

-- It stands somewhere so.
pub record MayHold {F : Type 0} (answers : List (List ℕ) → Result (List ℕ) F) (leaves : List Leaf) (lines : Lines) (stands : List (List ℕ) → Type 0) (held : List ℕ) : Type 0 where
  pub sent : List ℕ
  pub text : List ℕ
  pub there : Holds answers leaves lines stands sent held text
  pub fits : FitsLeaves leaves lines.header lines.row.items

-- the endings that a line may have
abbrev pub IsLineEnding : {F : Type 0} → Ending F → Type 0
IsLineEnding NoMemory = Unit {0}
IsLineEnding (BadRow line fault) = Unit {0}
IsLineEnding (Stopped step fault) = Unit {0}
IsLineEnding _ = ⊥

-- Some of the held lines were sent, and the session stands behind this text.
pub record Went {F : Type 0} (answers : List (List ℕ) → Result (List ℕ) F) (leaves : List Leaf) (lines : Lines) (stands : List (List ℕ) → Type 0) (text sent : List ℕ) (taken taken' : Option (List ℕ)) (held : List ℕ) : Type 0 where
  pub gone : List ℕ
  pub wrote : taken' ≡ after_known taken gone
  pub there : Holds answers leaves lines stands (sent ++ gone) held text

-- All lines were sent, and the session ends.
pub record Ended {F : Type 0} (answers : List (List ℕ) → Result (List ℕ) F) (leaves : List Leaf) (text sent : List ℕ) (taken taken' : Option (List ℕ)) (ending : Ending F) : Type 0 where
  pub gone : List ℕ
  pub wrote : taken' ≡ after_known taken gone
  pub ends : Ends answers leaves (Some []) text (Some (sent ++ gone)) ending

-- Not all lines were sent.
pub record Missed {F : Type 0} (answers : List (List ℕ) → Result (List ℕ) F) (leaves : List Leaf) (text sent : List ℕ) (taken taken' : Option (List ℕ)) : Type 0 where
  pub all : List ℕ
  pub count : ℕ
  pub less : count < length all
  pub wrote : taken' ≡ after_known taken (take count all)
  pub front : Fronts (machine_sessions answers leaves text false) (Some []) (Some (sent ++ all))

-- What a part of a piece leaves: the text up to its end, and the text that was taken of it.
abbrev pub PartPassed : {T F : Type 0} → (List (List ℕ) → Result (List ℕ) F) → List Leaf → Lines → (List (List ℕ) → Type 0) → List ℕ → List ℕ → List ℕ → Option (List ℕ) → Option (List ℕ) → List ℕ → Result T (Ending F) → Type 0
PartPassed answers leaves lines stands text taken_text sent taken taken' held (Ok _) = Went answers leaves lines stands taken_text sent taken taken' held
PartPassed answers leaves lines stands text taken_text sent taken taken' held (Err WriteFault) = Missed answers leaves text sent taken taken'
PartPassed answers leaves lines stands text taken_text sent taken taken' held (Err ending) = Ended answers leaves text sent taken taken' ending

-- how far a feed came: it rises with each byte
abbrev pub reach : Feeding → ℕ
reach f = f.number * (longest_line + 1) + length f.line

-- No fault of writing is told without its cause, and none of reading.
abbrev pub TellsWrite : {T F : Type 0} → ℕ → ℕ → Result T (Ending F) → Type 0
TellsWrite before after (Err WriteFault) = HasFailed before after
TellsWrite before after (Err ReadFault) = ⊥
TellsWrite before after (Err Done) = ⊥
TellsWrite before after result = after ≡ before

-- The same, where the input may have failed too.
abbrev pub InputTells : {F : Type 0} → ℕ → ℕ → ℕ → ℕ → Result (Unit {0}) (Ending F) → Type 0
InputTells input input' before after (Err ReadFault) = HasFailed input input' × (after ≡ before)
InputTells input input' before after (Err Done) = ⊥
InputTells input input' before after (Err WriteFault) = (input' ≡ input) × HasFailed before after
InputTells input input' before after result = (input' ≡ input) × (after ≡ before)

-- what the end of the input answers
abbrev pub ending_of : {F : Type 0} → Result (Unit {0}) (Ending F) → Ending F
ending_of (Ok _) = Done
ending_of (Err ending) = ending

-- ---- what is said of a call, for all that may have come before it

-- With these bytes more a session stands there by what is held.
abbrev pub HoldsOn : {F : Type 0} → (List (List ℕ) → Result (List ℕ) F) → List Leaf → Lines → Lines → (List (List ℕ) → Type 0) → (List (List ℕ) → Type 0) → List ℕ → List ℕ → List ℕ → Type 0
HoldsOn answers leaves lines lines' stands stands' held held' bytes =
    (sent : List ℕ) (text : List ℕ) → Holds answers leaves lines stands sent held text → Holds answers leaves lines' stands' sent held' (text ++ bytes)

-- With these bytes more it ends.
abbrev pub HoldsEndOn : {F : Type 0} → (List (List ℕ) → Result (List ℕ) F) → List Leaf → Lines → (List (List ℕ) → Type 0) → List ℕ → List ℕ → List ℕ → Ending F → Type 0
HoldsEndOn answers leaves lines stands held held' bytes ending =
    (sent : List ℕ) (text : List ℕ) → Holds answers leaves lines stands sent held text → HoldsAtEnd answers leaves (text ++ bytes) sent held' ending

-- A part of a piece is taken, and lines may be written.
abbrev pub PassesOn : {F : Type 0} → (List (List ℕ) → Result (List ℕ) F) → List Leaf → Lines → Lines → (List (List ℕ) → Type 0) → (List (List ℕ) → Type 0) → List ℕ → List ℕ → Option (List ℕ) → Option (List ℕ) → List ℕ → Result ℕ (Ending F) → Type 0
PassesOn answers leaves lines lines' stands stands' held held' taken taken' part result =
    (sent : List ℕ) (text : List ℕ) → Holds answers leaves lines stands sent held text
    → PartPassed answers leaves lines' stands' (text ++ part) (text ++ first_line part) sent taken taken' held' result

-- With these bytes more it stands there by what the output took.
abbrev pub StandsOn : {F : Type 0} → (List (List ℕ) → Result (List ℕ) F) → List Leaf → Lines → Lines → (List (List ℕ) → Type 0) → (List (List ℕ) → Type 0) → Option (List ℕ) → Option (List ℕ) → List ℕ → Type 0
StandsOn answers leaves lines lines' stands stands' taken taken' bytes =
    (first : Option (List ℕ)) (text : List ℕ) → Stands answers leaves first lines stands taken text → Stands answers leaves first lines' stands' taken' (text ++ bytes)

-- With these bytes more it ends so.
abbrev pub EndsOn : {F : Type 0} → (List (List ℕ) → Result (List ℕ) F) → List Leaf → Lines → (List (List ℕ) → Type 0) → Option (List ℕ) → Option (List ℕ) → List ℕ → Ending F → Type 0
EndsOn answers leaves lines stands taken taken' bytes ending =
    (first : Option (List ℕ)) (text : List ℕ) → Stands answers leaves first lines stands taken text → Ends answers leaves first (text ++ bytes) taken' ending

-- An input is taken to its end, or to the session's.
abbrev pub InputTaken : {F : Type 0} → (List (List ℕ) → Result (List ℕ) F) → List Leaf → Lines → Lines → (List (List ℕ) → Type 0) → (List (List ℕ) → Type 0) → Option (List ℕ) → Option (List ℕ) → Option (List ℕ) → Option (List ℕ) → Result (Unit {0}) (Ending F) → Type 0
InputTaken answers leaves lines lines' stands stands' left left' taken taken' result =
    (first : Option (List ℕ)) (text : List ℕ) → Stands answers leaves first lines stands taken text
    → (x : List ℕ) × (left ≡ before_known x left')
    × OnOk result (IfSome left' (λ rest. rest ≡ []) × Stands answers leaves first lines' stands' taken' (text ++ x))
    × IfErr result (λ ending. Ends answers leaves first (text ++ x) taken' ending)

-- At the end of the input it ends so.
abbrev pub LastEnds : {F : Type 0} → (List (List ℕ) → Result (List ℕ) F) → List Leaf → Lines → (List (List ℕ) → Type 0) → Option (List ℕ) → Option (List ℕ) → Result (Unit {0}) (Ending F) → Type 0
LastEnds answers leaves lines stands taken taken' result =
    (first : Option (List ℕ)) (text : List ℕ) → Stands answers leaves first lines stands taken text → EndsSession (machine_sessions answers leaves) text text first taken' (ending_of result)

-- The same by what is held, which is a front of the session.
abbrev pub LastHolds : {F : Type 0} → (List (List ℕ) → Result (List ℕ) F) → List Leaf → Lines → (List (List ℕ) → Type 0) → List ℕ → List ℕ → Result (Unit {0}) (Ending F) → Type 0
LastHolds answers leaves lines stands held held' result =
    (sent : List ℕ) (text : List ℕ) → Holds answers leaves lines stands sent held text
    → EndsSession (machine_sessions answers leaves) text text (Some []) (Some (sent ++ held')) (ending_of result)

abbrev pub LastFronts : {F : Type 0} → (List (List ℕ) → Result (List ℕ) F) → List Leaf → Lines → (List (List ℕ) → Type 0) → List ℕ → List ℕ → Type 0
LastFronts answers leaves lines stands held held' =
    (sent : List ℕ) (text : List ℕ) → Holds answers leaves lines stands sent held text → Fronts (machine_sessions answers leaves text true) (Some []) (Some (sent ++ held'))
