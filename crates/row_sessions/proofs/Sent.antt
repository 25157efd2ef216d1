-- What a line does behind lines that were sent before.
use Rattle.std.proofs.Common.{◌≡◌, inl, inr, ℕ, List, [], ◌∷◌, ◌++◌, take, Option, Some, None, Result, Ok, Err, refl, ap, sym, ◌∙◌, append_assoc}
use Rattle.sm_io.specs.Known.{before_known, after_known}
use Rattle.extern_rows.specs.declared.fault.RowFault.{RowFault}
use Rattle.row_sessions.specs.Stepping.{Output, WritesAll, WritesPart, WritesNothing}
use Rattle.row_sessions.specs.Standing.{LineRead, StepEnds, RowTaken, Starved, LineTaken}
use Rattle.row_sessions.specs.declared.ending.Ending.{Ending}
use Rattle.row_sessions.specs.declared.ending.Ending.TheVariants.{Done, Stopped, BadRow, ReadFault, WriteFault, NoMemory}

-- what was sent, and then what is held
abbrev pub behind : List ℕ → Output → Output
behind sent o = record { taken = before_known sent o.taken; faults = o.faults }

more : (sent : List ℕ) (k k' : Option (List ℕ)) (text : List ℕ) → k' ≡ after_known k text → before_known sent k' ≡ after_known (before_known sent k) text
more sent k k' text e = ap (before_known sent) e ∙ join k where
  join : (k : Option (List ℕ)) → before_known sent (after_known k text) ≡ after_known (before_known sent k) text
  join None = refl
  join (Some x) = ap Some (sym (append_assoc sent x text))

nothing : (sent : List ℕ) (before after : Output) → WritesNothing before after → WritesNothing (behind sent before) (behind sent after)
nothing sent before after w = record { same = ap (before_known sent) w.same; steady = w.steady }

all_of : (sent : List ℕ) (before after : Output) (text : List ℕ) → WritesAll before after text → WritesAll (behind sent before) (behind sent after) text
all_of sent before after text w = record { all = more sent before.taken after.taken text w.all; steady = w.steady }

part_of : (sent : List ℕ) (before after : Output) (text : List ℕ) → WritesPart before after text → WritesPart (behind sent before) (behind sent after) text
part_of sent before after text w = record { count = w.count; part = more sent before.taken after.taken (take w.count text) w.part; failed = w.failed }

step_behind : {F : Type 0} (sent : List ℕ) (n : ℕ) (answer : Result (List ℕ) F) (before after : Output) (result : Result (Unit {0}) (Ending F)) → StepEnds n answer before after result → StepEnds n answer (behind sent before) (behind sent after) result
step_behind sent n (Ok text) before after (Ok _) h = all_of sent before after text h
step_behind sent n (Ok text) before after (Err NoMemory) h = part_of sent before after text h
step_behind sent n (Ok text) before after (Err Done) h = absurd h
step_behind sent n (Ok text) before after (Err ReadFault) h = absurd h
step_behind sent n (Ok text) before after (Err WriteFault) h = absurd h
step_behind sent n (Ok text) before after (Err (BadRow line fault)) h = absurd h
step_behind sent n (Ok text) before after (Err (Stopped step fault)) h = absurd h
step_behind sent n (Err fault) before after (Ok _) h = absurd h
step_behind sent n (Err fault) before after (Err NoMemory) h = absurd h
step_behind sent n (Err fault) before after (Err Done) h = absurd h
step_behind sent n (Err fault) before after (Err ReadFault) h = absurd h
step_behind sent n (Err fault) before after (Err WriteFault) h = absurd h
step_behind sent n (Err fault) before after (Err (BadRow line told)) h = absurd h
step_behind sent n (Err fault) before after (Err (Stopped step told)) h = (h.0, h.1, nothing sent before after h.2)

row_behind : {F : Type 0} (sent : List ℕ) (answers : List (List ℕ) → Result (List ℕ) F) (rows : List (List ℕ)) (steps : ℕ) (row : Option (List ℕ)) (before after : Output) (result : Result (Unit {0}) (Ending F)) → RowTaken answers rows steps row before after result → RowTaken answers rows steps row (behind sent before) (behind sent after) result
row_behind sent answers rows steps None before after (Ok _) h = nothing sent before after h
row_behind sent answers rows steps None before after (Err ending) h = absurd h
row_behind sent answers rows steps (Some row) before after result h = step_behind sent steps (answers (rows ++ row ∷ [])) before after result h

starved_behind : {F : Type 0} (sent : List ℕ) (answers : List (List ℕ) → Result (List ℕ) F) (rows : List (List ℕ)) (read : Result LineRead RowFault) (before after : Output) → Starved answers rows read before after → Starved answers rows read (behind sent before) (behind sent after)
starved_behind sent answers rows read before after h = record { header = h.header; row = h.row; text = h.text; reads = h.reads; answer = h.answer; wrote = part_of sent before after h.text h.wrote }

pub line_behind : {F : Type 0} (sent : List ℕ) (answers : List (List ℕ) → Result (List ℕ) F) (rows : List (List ℕ)) (number steps : ℕ) (read : Result LineRead RowFault) (before after : Output) (result : Result (Unit {0}) (Ending F)) → LineTaken answers rows number steps read before after result → LineTaken answers rows number steps read (behind sent before) (behind sent after) result
line_behind sent answers rows number steps read before after (Err NoMemory) (inl h) = inl (nothing sent before after h)
line_behind sent answers rows number steps read before after (Err NoMemory) (inr h) = inr (starved_behind sent answers rows read before after h)
line_behind sent answers rows number steps (Err fault) before after (Err (BadRow line told)) h = (h.0, h.1, nothing sent before after h.2)
line_behind sent answers rows number steps (Err fault) before after (Ok _) h = absurd h
line_behind sent answers rows number steps (Err fault) before after (Err Done) h = absurd h
line_behind sent answers rows number steps (Err fault) before after (Err ReadFault) h = absurd h
line_behind sent answers rows number steps (Err fault) before after (Err WriteFault) h = absurd h
line_behind sent answers rows number steps (Err fault) before after (Err (Stopped step told)) h = absurd h
line_behind sent answers rows number steps (Ok read) before after (Ok done) h = row_behind sent answers rows steps read.row before after (Ok done) h
line_behind sent answers rows number steps (Ok read) before after (Err Done) h = row_behind sent answers rows steps read.row before after (Err Done) h
line_behind sent answers rows number steps (Ok read) before after (Err ReadFault) h = row_behind sent answers rows steps read.row before after (Err ReadFault) h
line_behind sent answers rows number steps (Ok read) before after (Err WriteFault) h = row_behind sent answers rows steps read.row before after (Err WriteFault) h
line_behind sent answers rows number steps (Ok read) before after (Err (BadRow line told)) h = row_behind sent answers rows steps read.row before after (Err (BadRow line told)) h
line_behind sent answers rows number steps (Ok read) before after (Err (Stopped step told)) h = row_behind sent answers rows steps read.row before after (Err (Stopped step told)) h
