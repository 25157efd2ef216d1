-- What a run answers, and what it leaves of the outside: one relation a command.
use Rattle.std.specs.Prelude.{◌≡◌, List, Some, None, IfSome, Ok, ℕ, true}
use Rattle.sm_io.specs.Files.{Files}
use Rattle.tool_top.specs.Analysis.{nowhere}
use Rattle.tool_top.specs.Answer.{IsRefusedFor, IsQuiet, IsFinished, IsSettled, IsEarly}
use Rattle.tool_top.specs.Command.{CommandValue, compile, interpret, cexec, demo, migrate, no_command}
use Rattle.row_sessions.specs.Session.{Sessions}
use Rattle.interpreter.specs.Interpreted.{interpreted}
use Rattle.c_runner.specs.Executed.{executed}
use Rattle.tool_top.specs.Compile.{RunsCompile}
use Rattle.tool_top.specs.Migrate.{RunsMigrate}
use Rattle.tool_top.specs.Interpret.{RunsInterpret, IsReadAs}
use Rattle.tool_top.specs.Execute.{RunsExecute}
use Rattle.tool_top.specs.Demo.{RunsDemo}
use Rattle.tool_top.specs.Programs.{IsUnitIn}
use Rattle.tool_top.specs.Outside.{Outside}
use Rattle.tool_top.specs.Wanted.{wanted, contents}
use Rattle.tool_top.specs.declared.outcome.Outcome.{Outcome}
use Rattle.tool_top.specs.declared.outcome.Outcome.TheVariants.{Refused, Usage}
use Rattle.tool_top.specs.declared.outcome.Refusal.{Refusal}
use Rattle.tool_top.specs.declared.outcome.RefusalKind.TheVariants as kind

-- A run of a command over the outside before it leaves the outside after it, and answers this. Words of no command are
-- told the usage, and a command that isn't built is refused; both leave everything as it was.
abbrev pub Runs : CommandValue → Outside → Outside → Outcome → Type 0
Runs (compile spec name) before after outcome = RunsCompile spec name before after outcome
Runs (interpret spec) before after outcome = RunsInterpret spec before after outcome
Runs (cexec name) before after outcome = RunsExecute name before after outcome
Runs (migrate old new) before after outcome = RunsMigrate old new before after outcome
Runs (demo streams steps) before after outcome = RunsDemo streams steps before after outcome
Runs no_command before after outcome = (outcome ≡ Usage) × (after ≡ before)
Runs _ before after outcome = (outcome ≡ Refused (nowhere kind.NotYet)) × (after ≡ before)

-- ---- what is left alone

-- a command that reads nothing: no folder, no input
abbrev pub IsIdle : CommandValue → Type 0
IsIdle (compile spec name) = ⊥
IsIdle (interpret spec) = ⊥
IsIdle (cexec name) = ⊥
IsIdle (migrate old new) = ⊥
IsIdle _ = Unit {0}

-- a run that takes no byte from the input, and one that writes none to the output
abbrev pub LeavesInput : CommandValue → Outcome → Type 0
LeavesInput (interpret spec) outcome = IsEarly outcome
LeavesInput (cexec name) outcome = IsEarly outcome
LeavesInput _ outcome = Unit {0}

abbrev pub LeavesOut : CommandValue → Outcome → Type 0
LeavesOut (interpret spec) outcome = IsEarly outcome
LeavesOut (cexec name) outcome = IsEarly outcome
LeavesOut (demo streams steps) outcome = IsEarly outcome
LeavesOut _ outcome = Unit {0}

-- ---- completeness

-- The files that a command reads are there and within their limits, and nothing in them is refused.
pub record IsAccepted (command : CommandValue) (files : Files) : Type 0 where
  pub texts : List (List ℕ)
  pub texts_are : contents files (wanted command) ≡ Ok texts
  pub fine : (refusal : Refusal) → ¬ IsRefusedFor command texts refusal

-- What is accepted is done where none of the command's failures came, or memory ran out; a session where also it has no
-- stop, and a demonstration always.
abbrev pub PutsAccepted : CommandValue → Outside → Outside → Outcome → Type 0
PutsAccepted row before after outcome = IfSome before.files (λ files. IsQuiet row before after → IsAccepted row files → IsFinished outcome)

abbrev pub StepsAccepted : {X F : Type 0} → CommandValue → (Files → X → Type 0) → (X → Sessions F) → Outside → Outside → Outcome → Type 0
StepsAccepted {X} row Holds sessions before after outcome =
    IfSome before.files (λ files. IsQuiet row before after → (x : X) → Holds files x
    → IfSome before.left (λ whole. (sessions x whole true).stop ≡ None → IsFinished outcome))

abbrev pub Completes : CommandValue → Outside → Outside → Outcome → Type 0
Completes (compile spec name) before after outcome = PutsAccepted (compile spec name) before after outcome
Completes (migrate old new) before after outcome = PutsAccepted (migrate old new) before after outcome
Completes (interpret spec) before after outcome = StepsAccepted (interpret spec) (IsReadAs spec) interpreted before after outcome
Completes (cexec name) before after outcome = StepsAccepted (cexec name) (IsUnitIn name) executed before after outcome
Completes (demo streams steps) before after outcome = IsQuiet (demo streams steps) before after → IsFinished outcome
Completes _ before after outcome = Unit {0}

-- ---- one outcome

-- The files and what is left of the input are told.
pub record IsTold (before : Outside) (files : Files) (left : List ℕ) : Type 0 where
  pub files_are : before.files ≡ Some files
  pub left_is : before.left ≡ Some left

-- The outcome is a function of the words and all content, but for faults of the outside and want of memory.
abbrev pub HasOneOutcome : Type 0
HasOneOutcome =
    (command : CommandValue) (files : Files) (left : List ℕ) (before before' after after' : Outside) (a b : Outcome)
    → IsTold before files left → IsTold before' files left → IsSettled a → IsSettled b
    → Runs command before after a → Runs command before' after' b → a ≡ b
