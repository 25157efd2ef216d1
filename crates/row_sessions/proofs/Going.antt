-- A session goes on behind a line, or ends at it.
use Rattle.std.proofs.Common.{◌≡◌, ◌⊎◌, inl, inr, ℕ, ◌+◌, ◌<◌, ◌≤◌, Bool, true, false, nat_lt, List, [], ◌∷◌, ◌++◌, length, Option, Some, None, Result, Ok, Err, refl, ap, sym, ◌∙◌, arith, append_assoc, length-append}
use Rattle.std.specs.Prelude.{if◌then◌else◌}
use Rattle.std.proofs.Math.Seq.{take-length}
use Rattle.std.proofs.lemmas.Bool.Decides.{nat_tests}
use Rattle.std.proofs.lemmas.List.Splits.{slice_split_none}
use Rattle.sm_io.specs.Known.{after_known}
use Rattle.sm_io.proofs.Written.{after_known_append}
use Rattle.extern_rows.specs.declared.fault.RowFault.{RowFault}
use Rattle.extern_rows.specs.declared.header.Leaf.{Leaf}
use Rattle.extern_rows.specs.Columns.{Columns}
use Rattle.extern_rows.specs.Feeding.{Feeding}
use Rattle.extern_rows.specs.FeedStanding.{part_limit}
use Rattle.extern_rows.specs.Lines.{is_break, parts, longest_line, last_line, limit_fault, without_cr}
use Rattle.extern_rows.specs.SampleRows.{FaultAt, Rows, no_rows, stopped, limit_end, within_limits, at_line, rows_from}
use Rattle.extern_rows.proofs.RowLines.{rows_by_lines, rows_of_rest}
use Rattle.extern_rows.proofs.Feeds.{text_of}
use Rattle.row_sessions.specs.Session.{SessionStep, SessionStop, Session, Sessions, after_step, session_text, text_of_steps, machine_sessions, EndsSession, piece}
use Rattle.row_sessions.specs.Stepping.{Output}
use Rattle.row_sessions.specs.Standing.{LineRead, line_read, RowTaken, LineTaken, Fronts, rows_with, session_behind, then_session, GoesOn, IsOpen, ending_of}
use Rattle.row_sessions.specs.declared.ending.Ending.{Ending}
use Rattle.row_sessions.specs.declared.ending.Ending.TheVariants.{Done, Stopped, BadRow, ReadFault, WriteFault, NoMemory}
use Rattle.row_sessions.proofs.StepsOfRows.{over_is, row_then, read_rows, line_reads, then_row}
use Rattle.row_sessions.proofs.LineEnds.{texts-push, nothing_more, steps_front, line_session, LineEnds, line_front, line_ends}
use Rattle.row_sessions.proofs.Pushes.{NoBreak, within, first_part, text_more, text_grows}

-- ---- at the start

pub goes_first : {F : Type 0} (answers : List (List ℕ) → Result (List ℕ) F) (leaves : List Leaf) → GoesOn answers leaves [] [] [] 1 None
goes_first answers leaves ended more = over_is answers leaves more ended

-- ---- behind a whole line

-- the offset behind it
line_end : (front line : List ℕ) → length (front ++ line ++ 10 ∷ []) ≡ length front + length line + 1
line_end front line = length-append (front ++ line) (10 ∷ []) ∙ ap (λ (k : ℕ). k + 1) (length-append front line)

pub past_line : {F : Type 0} (answers : List (List ℕ) → Result (List ℕ) F) (leaves : List Leaf) (rows : List (List ℕ)) (steps : List SessionStep) (front line : List ℕ) (number : ℕ) (header : Option Columns)
    → GoesOn answers leaves rows steps front number header → NoBreak line → limit_fault number line ≡ None → (ended : Bool) (more : List ℕ)
    → machine_sessions answers leaves ((front ++ line ++ 10 ∷ []) ++ more) ended
    ≡ then_session steps (line_session answers rows number (length (front ++ line ++ 10 ∷ [])) (line_read leaves header (without_cr line)) (rows_from leaves ended (number + 1) (length (front ++ line ++ 10 ∷ [])) (parts more)))
past_line {F = F} answers leaves rows steps front line number header goes clean limit ended more =
    let end : ℕ = length front + length line + 1 in
    let later : ℕ → Option Columns → Rows = λ k. rows_from leaves ended (number + 1) k (parts more) in
    let text : (front ++ line ++ 10 ∷ []) ++ more ≡ front ++ (line ++ 10 ∷ more) = append_assoc (front ++ line) (10 ∷ []) more ∙ append_assoc front line (10 ∷ more) in
    let rows_are : rows_from leaves ended number (length front) (parts (line ++ 10 ∷ more)) header ≡ read_rows number end (line_read leaves header (without_cr line)) (later end) =
    rows_by_lines leaves ended number (length front) line more header clean
    ∙ ap (λ (o : Option RowFault). within_limits number (length front) o (at_line leaves number end line header (later end))) limit
    ∙ line_reads leaves number end line header (later end) in
    ap (λ (t : List ℕ). machine_sessions answers leaves t ended) text ∙ goes ended (line ++ 10 ∷ more)
    ∙ ap (λ (r : Rows). then_session steps (session_behind answers rows r)) rows_are
    ∙ ap (λ (k : ℕ). then_session steps (line_session answers rows number k (line_read leaves header (without_cr line)) (later k))) (sym (line_end front line))

-- the steps behind a line: that of its row, if it is one
pub record RowGoes {F : Type 0} (answers : List (List ℕ) → Result (List ℕ) F) (leaves : List Leaf) (rows : List (List ℕ)) (steps : List SessionStep) (front : List ℕ) (number : ℕ) (read : LineRead) (first : Option (List ℕ)) (after : Output) : Type 0 where
  pub steps' : List SessionStep
  pub goes : GoesOn answers leaves (rows_with rows read.row) steps' front number read.header
  pub wrote : after.taken ≡ after_known first (text_of_steps steps')

pub row_goes : {F : Type 0} (answers : List (List ℕ) → Result (List ℕ) F) (leaves : List Leaf) (rows : List (List ℕ)) (steps : List SessionStep) (front line : List ℕ) (number : ℕ) (header header' : Option Columns) (row : Option (List ℕ)) (count : ℕ) (first : Option (List ℕ)) (before after : Output)
    → GoesOn answers leaves rows steps front number header → NoBreak line → limit_fault number line ≡ None
    → line_read leaves header (without_cr line) ≡ Ok (record { header = header'; row = row }) → before.taken ≡ after_known first (text_of_steps steps)
    → RowTaken answers rows count row before after (Ok tt) → RowGoes answers leaves rows steps (front ++ line ++ 10 ∷ []) (number + 1) (record { header = header'; row = row }) first after
row_goes {F = F} answers leaves rows steps front line number header header' None count first before after goes clean limit is wrote h = record {
  steps' = steps;
  goes = λ ended more.
      past_line answers leaves rows steps front line number header goes clean limit ended more
      ∙ ap (λ (r : Result LineRead RowFault). then_session steps (line_session answers rows number (length (front ++ line ++ 10 ∷ [])) r (rows_from leaves ended (number + 1) (length (front ++ line ++ 10 ∷ [])) (parts more)))) is;
  wrote = h.same ∙ wrote;
}
row_goes {F = F} answers leaves rows steps front line number header header' (Some row) count first before after goes clean limit is wrote h = at (answers (rows ++ row ∷ [])) refl h where
  end : ℕ
  end = length (front ++ line ++ 10 ∷ [])

  at : (answer : Result (List ℕ) F) → answers (rows ++ row ∷ []) ≡ answer → RowTaken (λ _. answer) rows count (Some row) before after (Ok tt)
      → RowGoes answers leaves rows steps (front ++ line ++ 10 ∷ []) (number + 1) (record { header = header'; row = Some row }) first after
  at (Ok text) e w = record {
    steps' = steps ++ record { text = text; end = end } ∷ [];
    goes = λ ended more.
        let later : Rows = rows_from leaves ended (number + 1) end (parts more) header' in
        let behind : Session F = session_behind answers (rows ++ row ∷ []) later in
        past_line answers leaves rows steps front line number header goes clean limit ended more
        ∙ ap (λ (r : Result LineRead RowFault). then_session steps (line_session answers rows number end r (rows_from leaves ended (number + 1) end (parts more)))) is
        ∙ ap (λ (a : Result (List ℕ) F). then_session steps (after_step (length rows) end a behind)) e
        ∙ then_row steps (record { text = text; end = end }) behind;
    wrote =
        w.all ∙ ap (λ (known : Option (List ℕ)). after_known known text) wrote ∙ after_known_append first (text_of_steps steps) text
        ∙ ap (after_known first) (sym (texts-push steps (record { text = text; end = end })));
  }
  at (Err fault) e w = absurd w

-- ---- endings

-- in the midst of the input
mid_ends : {F : Type 0} (sessions : Sessions F) (whole taken : List ℕ) (first after : Option (List ℕ)) (end : ℕ) (ending : Ending F)
    → length taken ≤ end + piece → LineEnds (sessions whole true) (sessions taken false) first after end ending → EndsSession sessions whole taken first after ending
mid_ends sessions whole taken first after end Done prompt h = absurd h
mid_ends sessions whole taken first after end ReadFault prompt h = absurd h
mid_ends sessions whole taken first after end WriteFault prompt h = absurd h
mid_ends sessions whole taken first after end NoMemory prompt h = (h.0, inl h.1)
mid_ends sessions whole taken first after end (BadRow line fault) prompt h = (h.0, h.1, h.2, h.3, omega (arith, prompt, h.4))
mid_ends sessions whole taken first after end (Stopped step fault) prompt h = (h.0, h.1, h.2, h.3, omega (arith, prompt, h.4))

-- at its end
end_ends : {F : Type 0} (sessions : Sessions F) (text : List ℕ) (first after : Option (List ℕ)) (end : ℕ) (ending : Ending F)
    → length text ≤ end + piece → LineEnds (sessions text true) (sessions text true) first after end ending → EndsSession sessions text text first after ending
end_ends sessions text first after end Done prompt h = absurd h
end_ends sessions text first after end ReadFault prompt h = absurd h
end_ends sessions text first after end WriteFault prompt h = absurd h
end_ends sessions text first after end NoMemory prompt h = (h.0, inr (refl, h.1))
end_ends sessions text first after end (BadRow line fault) prompt h = (h.0, h.1, h.2, h.3, omega (arith, prompt, h.4))
end_ends sessions text first after end (Stopped step fault) prompt h = (h.0, h.1, h.2, h.3, omega (arith, prompt, h.4))

-- a whole line, and the rest of the bytes taken
pub line_stops : {F : Type 0} (answers : List (List ℕ) → Result (List ℕ) F) (leaves : List Leaf) (rows : List (List ℕ)) (steps : List SessionStep) (front line : List ℕ) (number : ℕ) (header : Option Columns) (count : ℕ) (tail : List ℕ) (first : Option (List ℕ)) (before after : Output) (ending : Ending F)
    → GoesOn answers leaves rows steps front number header → NoBreak line → limit_fault number line ≡ None → before.taken ≡ after_known first (text_of_steps steps) → count ≡ length rows → length tail ≤ piece
    → LineTaken answers rows number count (line_read leaves header (without_cr line)) before after (Err ending)
    → (back : List ℕ) → EndsSession (machine_sessions answers leaves) (((front ++ line ++ 10 ∷ []) ++ tail) ++ back) ((front ++ line ++ 10 ∷ []) ++ tail) first after.taken ending
line_stops answers leaves rows steps front line number header count tail first before after ending goes clean limit wrote counted small h back =
    let text : List ℕ = front ++ line ++ 10 ∷ [] in
    let end : ℕ = length text in
    let whole : List ℕ = (text ++ tail) ++ back in
    let is_whole : machine_sessions answers leaves whole true ≡ then_session steps (line_session answers rows number end (line_read leaves header (without_cr line)) (rows_from leaves true (number + 1) end (parts (tail ++ back)))) =
    ap (λ (t : List ℕ). machine_sessions answers leaves t true) (append_assoc text tail back) ∙ past_line answers leaves rows steps front line number header goes clean limit true (tail ++ back) in
    mid_ends (machine_sessions answers leaves) whole (text ++ tail) first after.taken end ending (omega (arith, length-append text tail, small))
    (line_ends answers rows steps number end count (line_read leaves header (without_cr line)) (rows_from leaves true (number + 1) end (parts (tail ++ back))) (rows_from leaves false (number + 1) end (parts tail))
    (machine_sessions answers leaves whole true) (machine_sessions answers leaves (text ++ tail) false) first before after ending
    is_whole (past_line answers leaves rows steps front line number header goes clean limit false tail) wrote counted h)

-- what was written then
pub line_fronts : {F : Type 0} (answers : List (List ℕ) → Result (List ℕ) F) (leaves : List Leaf) (rows : List (List ℕ)) (steps : List SessionStep) (front line : List ℕ) (number : ℕ) (header : Option Columns) (count : ℕ) (tail : List ℕ) (first : Option (List ℕ)) (before after : Output) (ending : Ending F)
    → GoesOn answers leaves rows steps front number header → NoBreak line → limit_fault number line ≡ None → before.taken ≡ after_known first (text_of_steps steps) → count ≡ length rows
    → LineTaken answers rows number count (line_read leaves header (without_cr line)) before after (Err ending)
    → Fronts (machine_sessions answers leaves ((front ++ line ++ 10 ∷ []) ++ tail) false) first after.taken
line_fronts answers leaves rows steps front line number header count tail first before after ending goes clean limit wrote counted h =
    let text : List ℕ = front ++ line ++ 10 ∷ [] in
    let end : ℕ = length text in
    let is = past_line answers leaves rows steps front line number header goes clean limit false tail in
    line_front (machine_sessions answers leaves (text ++ tail) false) (machine_sessions answers leaves (text ++ tail) false) first after.taken end ending
    (line_ends answers rows steps number end count (line_read leaves header (without_cr line)) (rows_from leaves false (number + 1) end (parts tail)) (rows_from leaves false (number + 1) end (parts tail))
    (machine_sessions answers leaves (text ++ tail) false) (machine_sessions answers leaves (text ++ tail) false) first before after ending
    is is wrote counted h)

-- a limit
limit_rows : (leaves : List Leaf) (number offset : ℕ) (text : List ℕ) (more : List (List ℕ)) (header : Option Columns) (fault : RowFault) → limit_fault number text ≡ Some fault → 0 < length text + length more
    → rows_from leaves true number offset (text ∷ more) header ≡ stopped (record { line = number; fault = fault; end = limit_end offset fault })
limit_rows leaves number offset text [] header fault limit some =
    let s : nat_lt 0 (length text + 0) ≡ true = grind (arith, nat_tests) in
    let e : part_limit number text [] ≡ Some fault = rw s limit in rw e refl
limit_rows leaves number offset text (next ∷ more) header fault limit some = rw limit refl

pub limit_stops : {F : Type 0} (answers : List (List ℕ) → Result (List ℕ) F) (leaves : List Leaf) (rows : List (List ℕ)) (steps : List SessionStep) (front line : List ℕ) (number : ℕ) (header : Option Columns) (x : List ℕ) (fault : RowFault) (first taken : Option (List ℕ))
    → GoesOn answers leaves rows steps front number header → NoBreak line → taken ≡ after_known first (text_of_steps steps) → 0 < length x → length x ≤ piece
    → ((q : List ℕ) → limit_fault number ((line ++ text_of x) ++ q) ≡ Some fault) → ((begin : ℕ) → begin + length line ≤ limit_end begin fault)
    → (back : List ℕ) → EndsSession (machine_sessions answers leaves) (((front ++ line) ++ x) ++ back) ((front ++ line) ++ x) first taken (BadRow number fault)
limit_stops {F = F} answers leaves rows steps front line number header x fault first taken goes clean wrote some small limit ahead back =
    let y : List ℕ = line ++ (x ++ back) in
    let whole : ((front ++ line) ++ x) ++ back ≡ front ++ y = append_assoc (front ++ line) x back ∙ append_assoc front line (x ++ back) in
    let p = first_part y in
    let q = text_grows x back in
    let text : text_of y ≡ (line ++ text_of x) ++ q.0 = text_more line (x ++ back) clean ∙ ap (λ (t : List ℕ). line ++ t) q.1 ∙ sym (append_assoc line (text_of x) q.0) in
    let stops : limit_fault number (text_of y) ≡ Some fault = ap (limit_fault number) text ∙ limit q.0 in
    let byte : 0 < length y = omega (arith, some, length-append line (x ++ back), length-append x back) in
    let at : FaultAt = record { line = number; fault = fault; end = limit_end (length front) fault } in
    let rows_are : rows_from leaves true number (length front) (parts y) header ≡ stopped at =
    ap (λ (ps : List (List ℕ)). rows_from leaves true number (length front) ps header) p.is ∙ limit_rows leaves number (length front) (text_of y) p.more header fault stops (p.some byte) in
    let stop : SessionStop F = record { ending = BadRow number fault; end = limit_end (length front) fault } in
    let session : machine_sessions answers leaves (((front ++ line) ++ x) ++ back) true ≡ then_session steps (record { steps = []; stop = Some stop }) =
    ap (λ (t : List ℕ). machine_sessions answers leaves t true) whole ∙ goes true y ∙ ap (λ (r : Rows). then_session steps (session_behind answers rows r)) rows_are in
    let n = nothing_more (machine_sessions answers leaves (((front ++ line) ++ x) ++ back) true) steps (Some stop) first taken taken session wrote refl in
    (stop, n.0, refl, n.1, omega (arith, ahead (length front), small, length-append (front ++ line) x, length-append front line))

-- what was written then, and where a session stands
pub stood_fronts : {F : Type 0} (answers : List (List ℕ) → Result (List ℕ) F) (leaves : List Leaf) (rows : List (List ℕ)) (steps : List SessionStep) (front line : List ℕ) (number : ℕ) (header : Option Columns) (x : List ℕ) (ended : Bool) (first taken : Option (List ℕ))
    → GoesOn answers leaves rows steps front number header → taken ≡ after_known first (text_of_steps steps) → Fronts (machine_sessions answers leaves ((front ++ line) ++ x) ended) first taken
stood_fronts answers leaves rows steps front line number header x ended first taken goes wrote = (
  length (text_of_steps steps),
  steps_front (machine_sessions answers leaves ((front ++ line) ++ x) ended) steps (session_behind answers rows (rows_from leaves ended number (length front) (parts (line ++ x)) header)) first taken
      (ap (λ (t : List ℕ). machine_sessions answers leaves t ended) (append_assoc front line x) ∙ goes ended (line ++ x)) wrote,
)

-- an open line has no limit
open_limit : (number : ℕ) (line : List ℕ) → length line ≤ longest_line → (number ≤ last_line) ⊎ ((number ≡ last_line + 1) × (line ≡ [])) → part_limit number line [] ≡ None
open_limit number line short (inl low) = at (nat_lt 0 (length line + 0)) where
  at : (v : Bool) → (if v then limit_fault number line else None) ≡ None
  at true = within number line low short
  at false = refl
open_limit number line short (inr (past, empty)) = rw empty refl

-- the input fails
pub read_fails : {F : Type 0} (answers : List (List ℕ) → Result (List ℕ) F) (leaves : List Leaf) (rows : List (List ℕ)) (steps : List SessionStep) (front : List ℕ) (f : Feeding) (header : Option Columns) (first taken : Option (List ℕ))
    → GoesOn answers leaves rows steps front f.number header → IsOpen f → taken ≡ after_known first (text_of_steps steps)
    → (back : List ℕ) → EndsSession (machine_sessions answers leaves) ((front ++ f.line) ++ back) (front ++ f.line) first taken ReadFault
read_fails answers leaves rows steps front f header first taken goes open_line wrote back =
    let rows_are : rows_from leaves false f.number (length front) (parts f.line) header ≡ no_rows =
    ap (λ (ps : List (List ℕ)). rows_from leaves false f.number (length front) ps header) (slice_split_none is_break f.line open_line.unbroken)
    ∙ ap (λ (o : Option RowFault). within_limits f.number (length front) o no_rows) (open_limit f.number f.line open_line.short open_line.low) in
    nothing_more (machine_sessions answers leaves (front ++ f.line) false) steps None first taken taken
    (goes false f.line ∙ ap (λ (r : Rows). then_session steps (session_behind answers rows r)) rows_are) wrote refl

-- ---- at the end of the input

pub ends_there : {F : Type 0} (answers : List (List ℕ) → Result (List ℕ) F) (leaves : List Leaf) (rows : List (List ℕ)) (steps : List SessionStep) (front line : List ℕ) (number : ℕ) (header : Option Columns) (first taken : Option (List ℕ))
    → GoesOn answers leaves rows steps front number header → line ≡ [] → taken ≡ after_known first (text_of_steps steps)
    → EndsSession (machine_sessions answers leaves) (front ++ line) (front ++ line) first taken Done
ends_there answers leaves rows steps front line number header first taken goes empty wrote =
    let none : rows_from leaves true number (length front) (parts line) header ≡ no_rows = rw empty refl in
    let n = nothing_more (machine_sessions answers leaves (front ++ line) true) steps None first taken taken
    (goes true line ∙ ap (λ (r : Rows). then_session steps (session_behind answers rows r)) none) wrote refl in
    (refl, n.0, n.1)

-- the session of a text's last line
last_session : {F : Type 0} (answers : List (List ℕ) → Result (List ℕ) F) (leaves : List Leaf) (rows : List (List ℕ)) (steps : List SessionStep) (front line : List ℕ) (number : ℕ) (header : Option Columns)
    → GoesOn answers leaves rows steps front number header → NoBreak line → 0 < length line → limit_fault number line ≡ None
    → machine_sessions answers leaves (front ++ line) true ≡ then_session steps (line_session answers rows number (length front + length line) (line_read leaves header (without_cr line)) (λ _. no_rows))
last_session answers leaves rows steps front line number header goes clean some limit =
    let end : ℕ = length front + length line in
    let s : nat_lt 0 (length line + 0) ≡ true = grind (arith, nat_tests) in
    let e : part_limit number line [] ≡ None = rw s limit in
    let rows_are : rows_from leaves true number (length front) (parts line) header ≡ read_rows number end (line_read leaves header (without_cr line)) (λ _. no_rows) =
    rows_of_rest leaves number (length front) line header clean
    ∙ ap (λ (o : Option RowFault). within_limits number (length front) o (at_line leaves number end line header (λ _. no_rows))) e
    ∙ line_reads leaves number end line header (λ _. no_rows) in
    goes true line ∙ ap (λ (r : Rows). then_session steps (session_behind answers rows r)) rows_are

row_done : {F : Type 0} (answers : List (List ℕ) → Result (List ℕ) F) (rows : List (List ℕ)) (steps : List SessionStep) (number end count : ℕ) (read : Result LineRead RowFault) (session : Session F) (first : Option (List ℕ)) (before after : Output)
    → session ≡ then_session steps (line_session answers rows number end read (λ _. no_rows)) → before.taken ≡ after_known first (text_of_steps steps)
    → LineTaken answers rows number count read before after (Ok tt) → (session.stop ≡ None) × (after.taken ≡ after_known first (session_text session))
row_done answers rows steps number end count (Err fault) session first before after is wrote h = absurd h
row_done {F = F} answers rows steps number end count (Ok read) session first before after is wrote h = of_row read.row is h where
  of_row : (row : Option (List ℕ)) → session ≡ then_session steps (session_behind answers rows (row_then end row no_rows)) → RowTaken answers rows count row before after (Ok tt)
      → (session.stop ≡ None) × (after.taken ≡ after_known first (session_text session))
  of_row None e w = nothing_more session steps None first before.taken after.taken e wrote w.same
  of_row (Some row) e w = at (answers (rows ++ row ∷ [])) refl w where
    at : (answer : Result (List ℕ) F) → answers (rows ++ row ∷ []) ≡ answer → RowTaken (λ _. answer) rows count (Some row) before after (Ok tt) → (session.stop ≡ None) × (after.taken ≡ after_known first (session_text session))
    at (Ok text) a k =
        let step : SessionStep = record { text = text; end = end } in
        let done : Session F = record { steps = []; stop = None } in
        nothing_more session (steps ++ step ∷ []) None first after.taken after.taken
        (e ∙ ap (λ (x : Result (List ℕ) F). then_session steps (after_step (length rows) end x done)) a ∙ then_row steps step done)
        (k.all ∙ ap (λ (known : Option (List ℕ)). after_known known text) wrote ∙ after_known_append first (text_of_steps steps) text ∙ ap (after_known first) (sym (texts-push steps step))) refl
    at (Err fault) a k = absurd k

pub last_line_ends : {F : Type 0} (answers : List (List ℕ) → Result (List ℕ) F) (leaves : List Leaf) (rows : List (List ℕ)) (steps : List SessionStep) (front line : List ℕ) (number : ℕ) (header : Option Columns) (count : ℕ) (first : Option (List ℕ)) (before after : Output) (result : Result (Unit {0}) (Ending F))
    → GoesOn answers leaves rows steps front number header → NoBreak line → 0 < length line → limit_fault number line ≡ None → before.taken ≡ after_known first (text_of_steps steps) → count ≡ length rows
    → LineTaken answers rows number count (line_read leaves header (without_cr line)) before after result
    → EndsSession (machine_sessions answers leaves) (front ++ line) (front ++ line) first after.taken (ending_of result)
last_line_ends answers leaves rows steps front line number header count first before after (Ok _) goes clean some limit wrote counted h =
    let n = row_done answers rows steps number (length front + length line) count (line_read leaves header (without_cr line)) (machine_sessions answers leaves (front ++ line) true) first before after
    (last_session answers leaves rows steps front line number header goes clean some limit) wrote h in
    (refl, n.0, n.1)
last_line_ends answers leaves rows steps front line number header count first before after (Err ending) goes clean some limit wrote counted h =
    let is = last_session answers leaves rows steps front line number header goes clean some limit in
    end_ends (machine_sessions answers leaves) (front ++ line) first after.taken (length front + length line) ending (omega (arith, length-append front line))
    (line_ends answers rows steps number (length front + length line) count (line_read leaves header (without_cr line)) (λ _. no_rows) (λ _. no_rows)
    (machine_sessions answers leaves (front ++ line) true) (machine_sessions answers leaves (front ++ line) true) first before after ending is is wrote counted h)

-- all of a session's text is a front of it
whole_front : {F : Type 0} (session : Session F) (first after : Option (List ℕ)) → after ≡ after_known first (session_text session) → Fronts session first after
whole_front session first after wrote = (length (session_text session), (omega arith, wrote ∙ ap (after_known first) (sym (take-length (session_text session)))))

pub last_line_fronts : {F : Type 0} (answers : List (List ℕ) → Result (List ℕ) F) (leaves : List Leaf) (rows : List (List ℕ)) (steps : List SessionStep) (front line : List ℕ) (number : ℕ) (header : Option Columns) (count : ℕ) (first : Option (List ℕ)) (before after : Output) (result : Result (Unit {0}) (Ending F))
    → GoesOn answers leaves rows steps front number header → NoBreak line → 0 < length line → limit_fault number line ≡ None → before.taken ≡ after_known first (text_of_steps steps) → count ≡ length rows
    → LineTaken answers rows number count (line_read leaves header (without_cr line)) before after result
    → Fronts (machine_sessions answers leaves (front ++ line) true) first after.taken
last_line_fronts answers leaves rows steps front line number header count first before after (Ok _) goes clean some limit wrote counted h =
    whole_front (machine_sessions answers leaves (front ++ line) true) first after.taken
    (row_done answers rows steps number (length front + length line) count (line_read leaves header (without_cr line)) (machine_sessions answers leaves (front ++ line) true) first before after
    (last_session answers leaves rows steps front line number header goes clean some limit) wrote h).1
last_line_fronts answers leaves rows steps front line number header count first before after (Err ending) goes clean some limit wrote counted h =
    let is = last_session answers leaves rows steps front line number header goes clean some limit in
    line_front (machine_sessions answers leaves (front ++ line) true) (machine_sessions answers leaves (front ++ line) true) first after.taken (length front + length line) ending
    (line_ends answers rows steps number (length front + length line) count (line_read leaves header (without_cr line)) (λ _. no_rows) (λ _. no_rows)
    (machine_sessions answers leaves (front ++ line) true) (machine_sessions answers leaves (front ++ line) true) first before after ending is is wrote counted h)
