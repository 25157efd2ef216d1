-- How a line ends a session.
use Rattle.std.proofs.Common.{◌≡◌, inl, inr, ℕ, min, ◌+◌, ◌≤◌, List, [], ◌∷◌, ◌++◌, length, take, Option, Some, None, Result, Ok, Err, refl, ap, sym, ◌∙◌, arith, append-nil, length-append}
use Rattle.std.specs.Prelude.{slice_get}
use Rattle.std.proofs.Math.Seq.{take-append-add, take-length}
use Rattle.std.proofs.lemmas.List.{take-append-le}
use Rattle.std.proofs.lemmas.Grind.{flat_map-append, common_steps}
use Rattle.sm_io.specs.Known.{after_known}
use Rattle.sm_io.proofs.Written.{after_known_append}
use Rattle.extern_rows.specs.declared.fault.RowFault.{RowFault}
use Rattle.extern_rows.specs.Columns.{Columns}
use Rattle.extern_rows.specs.SampleRows.{Rows}
use Rattle.row_sessions.specs.Session.{SessionStep, SessionStop, Session, after_step, session_text, text_of_steps, Wrote, WroteFront}
use Rattle.row_sessions.specs.Stepping.{Output, WritesPart, WritesNothing}
use Rattle.row_sessions.specs.Standing.{LineRead, StepEnds, RowTaken, LineTaken, Fronts, session_after, session_behind, then_session}
use Rattle.row_sessions.specs.declared.ending.Ending.{Ending}
use Rattle.row_sessions.specs.declared.ending.Ending.TheVariants.{Done, Stopped, BadRow, ReadFault, WriteFault, NoMemory}
use Rattle.row_sessions.proofs.StepsOfRows.{row_then, read_rows}

-- ---- what was written

texts-append : (a b : List SessionStep) → text_of_steps (a ++ b) ≡ text_of_steps a ++ text_of_steps b
texts-append a b = flat_map-append (λ (s : SessionStep). s.text) a b

pub texts-push : (steps : List SessionStep) (step : SessionStep) → text_of_steps (steps ++ step ∷ []) ≡ text_of_steps steps ++ step.text
texts-push steps step = texts-append steps (step ∷ []) ∙ ap (λ (xs : List ℕ). text_of_steps steps ++ xs) (append-nil step.text)

-- nothing more than some steps
pub nothing_more : {F : Type 0} (session : Session F) (steps : List SessionStep) (stop : Option (SessionStop F)) (first before after : Option (List ℕ))
    → session ≡ then_session steps (record { steps = []; stop = stop }) → before ≡ after_known first (text_of_steps steps) → after ≡ before
    → (session.stop ≡ stop) × Wrote first after (session_text session)
nothing_more {F = F} session steps stop first before after is wrote same = (
  ap (λ (s : Session F). s.stop) is,
  same ∙ wrote ∙ ap (λ (xs : List SessionStep). after_known first (text_of_steps xs)) (sym (append-nil steps)) ∙ sym (ap (λ (s : Session F). after_known first (session_text s)) is),
)

-- the steps so far are a front of what the session writes
pub steps_front : {F : Type 0} (session : Session F) (steps : List SessionStep) (later : Session F) (first after : Option (List ℕ))
    → session ≡ then_session steps later → after ≡ after_known first (text_of_steps steps) → WroteFront first after session (length (text_of_steps steps))
steps_front {F = F} session steps later first after is wrote =
    let a : List ℕ = text_of_steps steps in
    let b : List ℕ = session_text later in
    let all : session_text session ≡ a ++ b = ap (λ (s : Session F). session_text s) is ∙ texts-append steps later.steps in
    let front : take (length a) (session_text session) ≡ a = ap (take (length a)) all ∙ take-append-le (length a) a b (omega arith) ∙ take-length a in
    (omega (arith, ap length all, length-append a b), wrote ∙ ap (after_known first) (sym front))

get-next : {X : Type 0} (xs : List X) (x : X) (ys : List X) → slice_get (xs ++ x ∷ ys) (length xs) ≡ Some x
get-next [] x ys = refl
get-next (z ∷ xs) x ys = get-next xs x ys

-- some of the next step's lines
pub part_front : {F : Type 0} (session : Session F) (steps : List SessionStep) (step : SessionStep) (later : Session F) (first : Option (List ℕ)) (before after : Output)
    → session ≡ then_session steps (record { steps = step ∷ later.steps; stop = later.stop }) → before.taken ≡ after_known first (text_of_steps steps) → WritesPart before after step.text
    → Fronts session first after.taken
part_front {F = F} session steps step later first before after is wrote w =
    let a : List ℕ = text_of_steps steps in
    let b : List ℕ = text_of_steps later.steps in
    let m : ℕ = min w.count (length step.text) in
    let n : ℕ = length a + m in
    let steps_are : session.steps ≡ steps ++ step ∷ later.steps = ap (λ (s : Session F). s.steps) is in
    let all : session_text session ≡ a ++ (step.text ++ b) = ap text_of_steps steps_are ∙ texts-append steps (step ∷ later.steps) in
    let part : take m (step.text ++ b) ≡ take w.count step.text = take_min w.count step.text b in
    let front : take n (session_text session) ≡ a ++ take w.count step.text = ap (take n) all ∙ take-append-add a (step.text ++ b) m ∙ ap (λ (xs : List ℕ). a ++ xs) part in
    let small : m ≤ length step.text = omega arith in (
      n,
      (
        omega (arith, ap length all, length-append a (step.text ++ b), length-append step.text b, small),
        w.part ∙ ap (λ (known : Option (List ℕ)). after_known known (take w.count step.text)) wrote ∙ after_known_append first a (take w.count step.text) ∙ ap (after_known first) (sym front),
      ),
    ) where
      take_min : (k : ℕ) (x y : List ℕ) → take (min k (length x)) (x ++ y) ≡ take k x
      take_min k x y = grind (arith, common_steps)

-- ---- a line

-- How a line that ends at this offset ends a session, by the session over the whole input and that over the bytes taken.
abbrev pub LineEnds : {F : Type 0} → Session F → Session F → Option (List ℕ) → Option (List ℕ) → ℕ → Ending F → Type 0
LineEnds whole taken first after end Done = ⊥
LineEnds whole taken first after end ReadFault = ⊥
LineEnds whole taken first after end WriteFault = ⊥
LineEnds whole taken first after end NoMemory = Fronts taken first after
LineEnds {F} whole taken first after end ending = (stop : SessionStop F) × (whole.stop ≡ Some stop) × (stop.ending ≡ ending) × Wrote first after (session_text whole) × (stop.end ≡ end) × Fronts taken first after

-- what is written then is a front of the session over the bytes taken
pub line_front : {F : Type 0} (whole taken : Session F) (first after : Option (List ℕ)) (end : ℕ) (ending : Ending F) → LineEnds whole taken first after end ending → Fronts taken first after
line_front whole taken first after end NoMemory h = h
line_front whole taken first after end (BadRow line fault) h = h.5
line_front whole taken first after end (Stopped step fault) h = h.5
line_front whole taken first after end Done h = absurd h
line_front whole taken first after end ReadFault h = absurd h
line_front whole taken first after end WriteFault h = absurd h

-- the steps of a line's row, and what comes behind it
abbrev pub line_session : {F : Type 0} → (List (List ℕ) → Result (List ℕ) F) → List (List ℕ) → ℕ → ℕ → Result LineRead RowFault → (Option Columns → Rows) → Session F
line_session answers rows number end read later = session_behind answers rows (read_rows number end read later)

bad_row : {F : Type 0} (whole taken later : Session F) (steps : List SessionStep) (number end line : ℕ) (fault told : RowFault) (first : Option (List ℕ)) (before after : Output)
    → whole ≡ then_session steps (record { steps = []; stop = Some (record { ending = BadRow number fault; end = end }) })
    → taken ≡ then_session steps later → before.taken ≡ after_known first (text_of_steps steps) → line ≡ number → told ≡ fault → WritesNothing before after
    → LineEnds whole taken first after.taken end (BadRow line told)
bad_row {F = F} whole taken later steps number end line fault told first before after is it wrote on told_is w =
    let stop : SessionStop F = record { ending = BadRow number fault; end = end } in
    let n = nothing_more whole steps (Some stop) first before.taken after.taken is wrote w.same in
    let e : BadRow number fault ≡ BadRow line told = ap (λ (k : ℕ). let x : Ending F = BadRow k fault in x) (sym on) ∙ ap (λ (f : RowFault). let x : Ending F = BadRow line f in x) (sym told_is) in
    (stop, n.0, e, n.1, refl, (length (text_of_steps steps), steps_front taken steps later first after.taken it (w.same ∙ wrote)))

step_fault : {F : Type 0} (whole taken later : Session F) (steps : List SessionStep) (number end step : ℕ) (fault told : F) (first : Option (List ℕ)) (before after : Output)
    → whole ≡ then_session steps (record { steps = []; stop = Some (record { ending = Stopped number fault; end = end }) })
    → taken ≡ then_session steps later → before.taken ≡ after_known first (text_of_steps steps) → step ≡ number → told ≡ fault → WritesNothing before after
    → LineEnds whole taken first after.taken end (Stopped step told)
step_fault {F = F} whole taken later steps number end step fault told first before after is it wrote on told_is w =
    let stop : SessionStop F = record { ending = Stopped number fault; end = end } in
    let n = nothing_more whole steps (Some stop) first before.taken after.taken is wrote w.same in
    let e : Stopped number fault ≡ Stopped step told = ap (λ (k : ℕ). let x : Ending F = Stopped k fault in x) (sym on) ∙ ap (λ (f : F). let x : Ending F = Stopped step f in x) (sym told_is) in
    (stop, n.0, e, n.1, refl, (length (text_of_steps steps), steps_front taken steps later first after.taken it (w.same ∙ wrote)))

-- a row's step that doesn't do all
row_ends : {F : Type 0} (answers : List (List ℕ) → Result (List ℕ) F) (rows : List (List ℕ)) (row : List ℕ) (steps : List SessionStep) (end count : ℕ) (answer : Result (List ℕ) F) (later_whole later_taken : Rows)
    (whole taken : Session F) (first : Option (List ℕ)) (before after : Output) (ending : Ending F)
    → answers (rows ++ row ∷ []) ≡ answer
    → whole ≡ then_session steps (session_behind answers rows (row_then end (Some row) later_whole)) → taken ≡ then_session steps (session_behind answers rows (row_then end (Some row) later_taken))
    → before.taken ≡ after_known first (text_of_steps steps) → count ≡ length rows
    → StepEnds count answer before after (Err ending) → LineEnds whole taken first after.taken end ending
row_ends answers rows row steps end count (Ok text) lw lt whole taken first before after NoMemory e iw it wrote counted h =
    part_front taken steps (record { text = text; end = end }) (session_after answers (rows ++ row ∷ []) lt.rows lt.fault) first before after (rw e at it) wrote h
row_ends answers rows row steps end count (Ok text) lw lt whole taken first before after Done e iw it wrote counted h = absurd h
row_ends answers rows row steps end count (Ok text) lw lt whole taken first before after ReadFault e iw it wrote counted h = absurd h
row_ends answers rows row steps end count (Ok text) lw lt whole taken first before after WriteFault e iw it wrote counted h = absurd h
row_ends answers rows row steps end count (Ok text) lw lt whole taken first before after (BadRow line fault) e iw it wrote counted h = absurd h
row_ends answers rows row steps end count (Ok text) lw lt whole taken first before after (Stopped step fault) e iw it wrote counted h = absurd h
row_ends answers rows row steps end count (Err fault) lw lt whole taken first before after (Stopped step told) e iw it wrote counted h =
    step_fault whole taken (session_behind answers rows (row_then end (Some row) lt)) steps (length rows) end step fault told first before after (rw e at iw) it wrote (h.0 ∙ counted) h.1 h.2
row_ends answers rows row steps end count (Err fault) lw lt whole taken first before after WriteFault e iw it wrote counted h = absurd h
row_ends answers rows row steps end count (Err fault) lw lt whole taken first before after Done e iw it wrote counted h = absurd h
row_ends answers rows row steps end count (Err fault) lw lt whole taken first before after ReadFault e iw it wrote counted h = absurd h
row_ends answers rows row steps end count (Err fault) lw lt whole taken first before after NoMemory e iw it wrote counted h = absurd h
row_ends answers rows row steps end count (Err fault) lw lt whole taken first before after (BadRow line told) e iw it wrote counted h = absurd h

abbrev OneLine : {F : Type 0} → (List (List ℕ) → Result (List ℕ) F) → List (List ℕ) → List SessionStep → ℕ → ℕ → ℕ → Result LineRead RowFault → (Option Columns → Rows) → (Option Columns → Rows)
    → Session F → Session F → Option (List ℕ) → Output → Output → Ending F → Type 0
OneLine answers rows steps number end count read later_whole later_taken whole taken first before after ending =
    whole ≡ then_session steps (line_session answers rows number end read later_whole) → taken ≡ then_session steps (line_session answers rows number end read later_taken)
    → before.taken ≡ after_known first (text_of_steps steps) → count ≡ length rows
    → LineTaken answers rows number count read before after (Err ending) → LineEnds whole taken first after.taken end ending

no_memory : {F : Type 0} (answers : List (List ℕ) → Result (List ℕ) F) (rows : List (List ℕ)) (steps : List SessionStep) (number end count : ℕ) (read : Result LineRead RowFault) (later_whole later_taken : Option Columns → Rows)
    (whole taken : Session F) (first : Option (List ℕ)) (before after : Output) → OneLine answers rows steps number end count read later_whole later_taken whole taken first before after NoMemory
no_memory answers rows steps number end count read lw lt whole taken first before after iw it wrote counted (inl h) =
    (length (text_of_steps steps), steps_front taken steps (line_session answers rows number end read lt) first after.taken it (h.same ∙ wrote))
no_memory {F = F} answers rows steps number end count read lw lt whole taken first before after iw it wrote counted (inr h) =
    let behind : Session F = session_behind answers (rows ++ h.row ∷ []) (lt h.header) in
    part_front taken steps (record { text = h.text; end = end }) behind first before after
    (it ∙ ap (λ (r : Result LineRead RowFault). then_session steps (line_session answers rows number end r lt)) h.reads ∙ ap (λ (a : Result (List ℕ) F). then_session steps (after_step (length rows) end a behind)) h.answer)
    wrote h.wrote

ends_read : {F : Type 0} (answers : List (List ℕ) → Result (List ℕ) F) (rows : List (List ℕ)) (steps : List SessionStep) (number end count : ℕ) (header : Option Columns) (row : Option (List ℕ)) (later_whole later_taken : Option Columns → Rows)
    (whole taken : Session F) (first : Option (List ℕ)) (before after : Output) (ending : Ending F)
    → whole ≡ then_session steps (session_behind answers rows (row_then end row (later_whole header))) → taken ≡ then_session steps (session_behind answers rows (row_then end row (later_taken header)))
    → before.taken ≡ after_known first (text_of_steps steps) → count ≡ length rows
    → RowTaken answers rows count row before after (Err ending) → LineEnds whole taken first after.taken end ending
ends_read answers rows steps number end count header None lw lt whole taken first before after ending iw it wrote counted h = absurd h
ends_read answers rows steps number end count header (Some row) lw lt whole taken first before after ending iw it wrote counted h =
    row_ends answers rows row steps end count (answers (rows ++ row ∷ [])) (lw header) (lt header) whole taken first before after ending refl iw it wrote counted h

pub line_ends : {F : Type 0} (answers : List (List ℕ) → Result (List ℕ) F) (rows : List (List ℕ)) (steps : List SessionStep) (number end count : ℕ) (read : Result LineRead RowFault) (later_whole later_taken : Option Columns → Rows)
    (whole taken : Session F) (first : Option (List ℕ)) (before after : Output) (ending : Ending F) → OneLine answers rows steps number end count read later_whole later_taken whole taken first before after ending
line_ends answers rows steps number end count read lw lt whole taken first before after NoMemory = no_memory answers rows steps number end count read lw lt whole taken first before after
line_ends answers rows steps number end count (Err fault) lw lt whole taken first before after (BadRow line told) = λ iw it wrote counted h. bad_row whole taken (line_session answers rows number end (Err fault) lt) steps number end line fault told first before after iw it wrote h.0 h.1 h.2
line_ends answers rows steps number end count (Err fault) lw lt whole taken first before after Done = λ iw it wrote counted h. absurd h
line_ends answers rows steps number end count (Err fault) lw lt whole taken first before after ReadFault = λ iw it wrote counted h. absurd h
line_ends answers rows steps number end count (Err fault) lw lt whole taken first before after WriteFault = λ iw it wrote counted h. absurd h
line_ends answers rows steps number end count (Err fault) lw lt whole taken first before after (Stopped step told) = λ iw it wrote counted h. absurd h
line_ends answers rows steps number end count (Ok r) lw lt whole taken first before after Done = ends_read answers rows steps number end count r.header r.row lw lt whole taken first before after Done
line_ends answers rows steps number end count (Ok r) lw lt whole taken first before after ReadFault = ends_read answers rows steps number end count r.header r.row lw lt whole taken first before after ReadFault
line_ends answers rows steps number end count (Ok r) lw lt whole taken first before after WriteFault = ends_read answers rows steps number end count r.header r.row lw lt whole taken first before after WriteFault
line_ends answers rows steps number end count (Ok r) lw lt whole taken first before after (BadRow line told) = ends_read answers rows steps number end count r.header r.row lw lt whole taken first before after (BadRow line told)
line_ends answers rows steps number end count (Ok r) lw lt whole taken first before after (Stopped step told) = ends_read answers rows steps number end count r.header r.row lw lt whole taken first before after (Stopped step told)
