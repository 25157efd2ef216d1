-- How a command over the rows of the input runs: what its files hold is stepped over them.
use Rattle.std.specs.Prelude.{◌≡◌, ◌⊎◌, ℕ, IfSome}
use Rattle.sm_io.specs.Files.{Files}
use Rattle.row_sessions.specs.Session.{Sessions, Streams, streams, RunsSession}
use Rattle.row_sessions.specs.declared.ending.Ending.{Ending}
use Rattle.row_sessions.specs.declared.ending.Ending.TheVariants as ending
use Rattle.tool_top.specs.Answer.{StopsAt, TellsFaults}
use Rattle.tool_top.specs.Command.{CommandValue}
use Rattle.tool_top.specs.Outside.{Outside, ShelfFailed, InputFailed, OutFailed, CountsStand, StreamsStand}
use Rattle.tool_top.specs.Wanted.{wanted, contents}
use Rattle.tool_top.specs.declared.outcome.Outcome.{Outcome}
use Rattle.tool_top.specs.declared.outcome.Outcome.TheVariants.{Done, BadRow, ReadFault, WriteFault, NoMemory}

-- what the end of a session is told as, by what the stop of a step is
abbrev pub told_as : {F : Type 0} → (ℕ → F → Outcome) → Ending F → Outcome
told_as stopped ending.Done = Done
told_as stopped (ending.Stopped step fault) = stopped step fault
told_as stopped (ending.BadRow line fault) = BadRow line fault
told_as stopped ending.ReadFault = ReadFault
told_as stopped ending.WriteFault = WriteFault
told_as stopped ending.NoMemory = NoMemory

-- the input and the output
abbrev pub streams_of : Outside → Streams
streams_of o = streams o.left o.input_faults o.taken o.out_faults

-- A session over the input ended so.
pub record EndsAs {F : Type 0} (stopped : ℕ → F → Outcome) (sessions : Sessions F) (before after : Outside) (outcome : Outcome) : Type 0 where
  pub ending : Ending F
  pub told : outcome ≡ told_as stopped ending
  pub runs : RunsSession sessions (streams_of before) (streams_of after) ending

-- The answer over these files: they stop the run before the input is read, or a session of what they hold ran over the
-- input.
abbrev pub Steps : {X F : Type 0} → CommandValue → (Files → X → Type 0) → (X → Sessions F) → (ℕ → F → Outcome) → Files → Outside → Outside → Outcome → Type 0
Steps {X} row Holds sessions stopped files before after outcome =
    (StopsAt row (contents files (wanted row)) outcome × StreamsStand before after)
    ⊎ ((x : X) × Holds files x × EndsAs stopped (sessions x) before after outcome)

-- The answer is one of the command and is right of the files that are told; a fault comes only where a call on the
-- folder, the input or the output failed, and none failed where no fault is told; no count falls, and the files stay.
pub record RunsSteps {X F : Type 0} (row : CommandValue) (Holds : Files → X → Type 0) (sessions : X → Sessions F) (stopped : ℕ → F → Outcome)
    (IsAnswer : Outcome → Type 0) (before after : Outside) (outcome : Outcome) : Type 0 where
  pub possible : IsAnswer outcome
  pub answer : IfSome before.files (λ files. Steps row Holds sessions stopped files before after outcome)
  pub faults : TellsFaults (ShelfFailed before after ⊎ InputFailed before after) (OutFailed before after) before after outcome
  pub counts : CountsStand before after
  pub files : after.files ≡ before.files
