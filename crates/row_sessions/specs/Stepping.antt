-- What a machine's step does.
use Rattle.std.specs.Prelude.{◌≡◌, ◌<◌, ℕ, List, ◌++◌, length, take, Option, Result, Ok, Err}
use Rattle.sm_io.specs.Known.{after_known}
use Rattle.row_sessions.specs.Session.{HasFailed}
use Rattle.extern_rows.specs.Lines.{last_line}
use Rattle.row_sessions.specs.declared.ending.Stop.{Stop}
use Rattle.row_sessions.specs.declared.ending.Stop.TheVariants.{Fault, Failed}

-- A machine stands over some rows, and another one may come.
abbrev pub MayStep : (List (List ℕ) → Type 0) → Type 0
MayStep stands = (rows : List (List ℕ)) × stands rows × (length rows < last_line)

-- what an output took, where it tells it, and how often it failed
pub record Output : Type 0 where
  pub taken : Option (List ℕ)
  pub faults : ℕ

abbrev pub output : Option (List ℕ) → ℕ → Output
output taken faults = record { taken = taken; faults = faults }

-- All of a text was written, and nothing failed.
pub record WritesAll (before after : Output) (text : List ℕ) : Type 0 where
  pub all : after.taken ≡ after_known before.taken text
  pub steady : after.faults ≡ before.faults

-- The first bytes of a text were written, and a write failed.
pub record WritesPart (before after : Output) (text : List ℕ) : Type 0 where
  pub count : ℕ
  pub part : after.taken ≡ after_known before.taken (take count text)
  pub failed : HasFailed before.faults after.faults

-- The same, and not all of them were.
pub record WritesShort (before after : Output) (text : List ℕ) : Type 0 where
  pub count : ℕ
  pub short : count < length text
  pub part : after.taken ≡ after_known before.taken (take count text)
  pub failed : HasFailed before.faults after.faults

-- All of a text was written, or not all.
abbrev pub Flushes : {E : Type 0} → Output → Output → List ℕ → Result (Unit {0}) E → Type 0
Flushes before after text (Ok _) = WritesAll before after text
Flushes before after text (Err _) = WritesShort before after text

-- The first bytes of what was held were written, and nothing failed; the others are held.
pub record SendsFront (before after : Output) (held held' : List ℕ) : Type 0 where
  pub gone : List ℕ
  pub split : held ≡ gone ++ held'
  pub wrote : WritesAll before after gone

abbrev pub MakesRoom : {E : Type 0} → Output → Output → List ℕ → List ℕ → Result (Unit {0}) E → Type 0
MakesRoom before after held held' (Ok _) = SendsFront before after held held'
MakesRoom before after held held' (Err _) = WritesShort before after held

-- Nothing was written, and nothing failed.
pub record WritesNothing (before after : Output) : Type 0 where
  pub same : after.taken ≡ before.taken
  pub steady : after.faults ≡ before.faults

-- What a step writes and answers, by what the step over these rows does.
abbrev pub IsStep : {F : Type 0} → Result (List ℕ) F → Output → Output → Result (Unit {0}) (Stop F) → Type 0
IsStep (Ok text) before after (Ok _) = WritesAll before after text
IsStep (Ok text) before after (Err Failed) = WritesPart before after text
IsStep (Err fault) before after (Err (Fault told)) = (told ≡ fault) × WritesNothing before after
IsStep _ before after _ = ⊥
