-- How a command that makes the two files of a program runs.
use Rattle.std.specs.Prelude.{◌≡◌, ℕ, List, Option, Some, IfSome}
use Rattle.sm_io.specs.Files.{Files}
use Rattle.tool_top.specs.Answer.{StopsAt, TellsFaults, IsFileAnswer}
use Rattle.tool_top.specs.Command.{CommandValue}
use Rattle.tool_top.specs.Outside.{Outside, ShelfFailed, CountsStand, StreamsStand}
use Rattle.tool_top.specs.Puts.{with_puts, OnePutFailed, program_files}
use Rattle.tool_top.specs.Wanted.{wanted, contents}
use Rattle.tool_top.specs.declared.outcome.Outcome.{Outcome}
use Rattle.tool_top.specs.declared.outcome.Outcome.TheVariants.{Done, WriteFault}

-- The answer over these files, and the files that it leaves: after Done the header and the source that are made of them
-- stand under this name, after a fault of writing one of the two puts failed, and after any other answer all files are
-- as before.
abbrev pub Puts : CommandValue → List ℕ → (Files → List ℕ → List ℕ → Type 0) → Files → Option Files → Outcome → Type 0
Puts row name Makes files new Done =
    (header source : List ℕ) × Makes files header source × (new ≡ with_puts (Some files) (program_files name header source))
Puts row name Makes files new WriteFault =
    (header source : List ℕ) × Makes files header source × OnePutFailed (program_files name header source) (Some files) new
Puts row name Makes files new outcome = StopsAt row (contents files (wanted row)) outcome × (new ≡ Some files)

-- The answer is one of a command over files and is right of the files that are told; a fault comes only where a call on
-- the folder failed, and none failed where no fault is told; input and output stay.
pub record RunsPuts (row : CommandValue) (name : List ℕ) (Makes : Files → List ℕ → List ℕ → Type 0) (before after : Outside) (outcome : Outcome) : Type 0 where
  pub possible : IsFileAnswer outcome
  pub answer : IfSome before.files (λ files. Puts row name Makes files after.files outcome)
  pub faults : TellsFaults (ShelfFailed before after) (ShelfFailed before after) before after outcome
  pub counts : CountsStand before after
  pub streams : StreamsStand before after
