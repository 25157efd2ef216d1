-- What a run may answer, and what each answer rests on.
use Rattle.std.specs.Prelude.{◌≡◌, ◌⊎◌, ℕ, List, [], ◌∷◌, Option, Some, None, Result, Ok, Err, Contains}
use Rattle.sm_io.specs.Causes.{Rose}
use Rattle.sm_io.specs.Files.{Files}
use Rattle.sm_io.specs.declared.outside.FetchFault.{FetchFault}
use Rattle.sm_io.specs.declared.outside.FetchFault.TheVariants as fetch
use Rattle.stream_core.specs.Value.{SpecValue}
use Rattle.c99_tree.specs.declared.unit.Unit.{Unit as CUnit}
use Rattle.extern_rows.specs.declared.fault.RowFault.{RowFault}
use Rattle.extern_rows.specs.LeafFaults.{leaf_name}
use Rattle.interpreter.specs.Interpreted.{extern_columns}
use Rattle.c_runner.specs.Executed.{unit_columns}
use Rattle.tool_top.specs.Analysis.{HasFirstFault, Means, too_long}
use Rattle.tool_top.specs.Command.{CommandValue, compile, interpret, cexec, demo, migrate}
use Rattle.tool_top.specs.Outside.{Outside, ShelfFailed, InputFailed, OutFailed, NothingFailed}
use Rattle.tool_top.specs.Programs.{HasProgramFault, HasOldUse, IsUnitIn}
use Rattle.tool_top.specs.Wanted.{Unread, Wanted, text_file, wanted, contents}
use Rattle.tool_top.specs.declared.outcome.Outcome.{Outcome}
use Rattle.tool_top.specs.declared.outcome.Outcome.TheVariants.{Done, Refused, Usage, Hazard, Undefined, BadRow, ReadFault, WriteFault, Missing, NoMemory}
use Rattle.tool_top.specs.declared.outcome.Refusal.{Refusal}

-- ---- refused content

-- The files that a command reads are there and within their limits, and their content is refused so.
abbrev pub IsRefusedFor : CommandValue → List (List ℕ) → Refusal → Type 0
IsRefusedFor (compile spec name) (text ∷ []) refusal = HasFirstFault text refusal
IsRefusedFor (interpret spec) (text ∷ []) refusal = HasFirstFault text refusal
IsRefusedFor (cexec name) (header ∷ source ∷ []) refusal = HasProgramFault header source refusal
IsRefusedFor (migrate old new) (header ∷ source ∷ []) refusal = HasProgramFault header source refusal ⊎ HasOldUse header source refusal
IsRefusedFor _ texts refusal = ⊥

-- The first file that can't be read has more bytes than it may, or the content is refused.
abbrev pub IsRefusal : CommandValue → Result (List (List ℕ)) Unread → Refusal → Type 0
IsRefusal _ (Err unread) refusal = (unread.fault ≡ fetch.TooLong) × (refusal ≡ too_long)
IsRefusal row (Ok texts) refusal = IsRefusedFor row texts refusal

-- How the files that a command reads stop it. A read fault's cause is told elsewhere, and want of memory is free.
abbrev pub StopsAt : CommandValue → Result (List (List ℕ)) Unread → Outcome → Type 0
StopsAt row read (Refused refusal) = IsRefusal row read refusal
StopsAt _ read Missing = (name : List ℕ) × (read ≡ Err (record { name = name; fault = fetch.Missing }))
StopsAt _ read ReadFault = Unit {0}
StopsAt _ read NoMemory = Unit {0}
StopsAt _ read _ = ⊥

-- How the fetch of one file stops a run.
abbrev pub FetchStops : Result (List ℕ) FetchFault → Outcome → Type 0
FetchStops found (Refused refusal) = (found ≡ Err fetch.TooLong) × (refusal ≡ too_long)
FetchStops found Missing = found ≡ Err fetch.Missing
FetchStops found ReadFault = Unit {0}
FetchStops found NoMemory = Unit {0}
FetchStops found _ = ⊥

-- ---- faults of the outside

-- A fault of reading or of writing is told only where these failures came, and nothing failed where neither is told.
abbrev pub TellsFaults : (Reads Writes : Type 0) → Outside → Outside → Outcome → Type 0
TellsFaults Reads Writes before after ReadFault = Reads
TellsFaults Reads Writes before after WriteFault = Writes
TellsFaults Reads Writes before after outcome = NothingFailed before after

-- the same of the folder's count alone
abbrev pub TellsShelfFaults : ℕ → ℕ → Outcome → Type 0
TellsShelfFaults before now ReadFault = Rose before now
TellsShelfFaults before now WriteFault = Rose before now
TellsShelfFaults before now outcome = now ≡ before

-- none of the failures came that a command may tell
abbrev pub IsQuiet : CommandValue → Outside → Outside → Type 0
IsQuiet (interpret spec) before after = (¬ ShelfFailed before after) × (¬ InputFailed before after) × (¬ OutFailed before after)
IsQuiet (cexec name) before after = (¬ ShelfFailed before after) × (¬ InputFailed before after) × (¬ OutFailed before after)
IsQuiet (demo streams steps) before after = ¬ OutFailed before after
IsQuiet _ before after = ¬ ShelfFailed before after

-- ---- kinds of answers

-- the answers of a command that reads and puts files alone
abbrev pub IsFileAnswer : Outcome → Type 0
IsFileAnswer Usage = ⊥
IsFileAnswer (Hazard step kind) = ⊥
IsFileAnswer (Undefined step kind) = ⊥
IsFileAnswer (BadRow line fault) = ⊥
IsFileAnswer outcome = Unit {0}

-- the answers of a command that stops before it does anything with what it read
abbrev pub IsStop : Outcome → Type 0
IsStop (Refused refusal) = Unit {0}
IsStop Missing = Unit {0}
IsStop ReadFault = Unit {0}
IsStop NoMemory = Unit {0}
IsStop outcome = ⊥

-- the answers of an interpretation
abbrev pub IsInterpretAnswer : Outcome → Type 0
IsInterpretAnswer Usage = ⊥
IsInterpretAnswer (Undefined step kind) = ⊥
IsInterpretAnswer outcome = Unit {0}

-- the answers of an execution
abbrev pub IsExecuteAnswer : Outcome → Type 0
IsExecuteAnswer Usage = ⊥
IsExecuteAnswer (Hazard step kind) = ⊥
IsExecuteAnswer outcome = Unit {0}

-- all was done, or memory ran out
abbrev pub IsFinished : Outcome → Type 0
IsFinished Done = Unit {0}
IsFinished NoMemory = Unit {0}
IsFinished outcome = ⊥

-- an answer that is neither a fault of the outside nor want of memory
abbrev pub IsSettled : Outcome → Type 0
IsSettled ReadFault = ⊥
IsSettled WriteFault = ⊥
IsSettled NoMemory = ⊥
IsSettled outcome = Unit {0}

-- an answer that is given before the input is read
abbrev pub IsEarly : Outcome → Type 0
IsEarly Usage = Unit {0}
IsEarly Missing = Unit {0}
IsEarly (Refused refusal) = Unit {0}
IsEarly outcome = ⊥

-- ---- what the line on the error sink speaks of

-- the leaf that a fault of a row speaks of, of a text's specification
abbrev pub NamesLeaf : Result (List (List ℕ)) Unread → RowFault → List ℕ → Type 0
NamesLeaf read fault subject = (text : List ℕ) (s : SpecValue) → read ≡ Ok (text ∷ []) → Means text s → subject ≡ leaf_name (extern_columns s) fault

-- the same of the program that two files spell
abbrev pub NamesColumn : List ℕ → Files → RowFault → List ℕ → Type 0
NamesColumn name files fault subject = (u : CUnit) → IsUnitIn name files u → subject ≡ leaf_name (unit_columns u) fault

-- The file that is told missing is the first that can't be read, or, of a folder that isn't told, one that is read.
abbrev pub NamesMissing : List Wanted → Option Files → List ℕ → Type 0
NamesMissing all (Some files) subject = contents files all ≡ Err (record { name = subject; fault = fetch.Missing })
NamesMissing all None subject = (limit : ℕ) × Contains all (record { name = subject; limit = limit })

-- the same of a run that a missing file stops
abbrev pub NamesStop : List Wanted → Option Files → Outcome → List ℕ → Type 0
NamesStop all files Missing subject = NamesMissing all files subject
NamesStop all files outcome subject = Unit {0}

-- a row that is told bad names the leaf that its fault speaks of
abbrev pub NamesBadRow : CommandValue → Option Files → RowFault → List ℕ → Type 0
NamesBadRow (interpret spec) (Some files) fault subject = NamesLeaf (contents files (text_file spec)) fault subject
NamesBadRow (cexec name) (Some files) fault subject = NamesColumn name files fault subject
NamesBadRow _ files fault subject = Unit {0}

-- No other line of a command that is built names anything.
abbrev pub Names : CommandValue → Option Files → Outcome → List ℕ → Type 0
Names row files Missing subject = NamesMissing (wanted row) files subject
Names row files (BadRow line fault) subject = NamesBadRow row files fault subject
Names row files outcome subject = Unit {0}
