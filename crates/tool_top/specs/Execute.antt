-- What `cexec` answers, and what it leaves.
use Rattle.std.specs.Prelude.{◌≡◌, List, ℕ}
use Rattle.sm_io.specs.Files.{Files}
use Rattle.c99_tree.specs.declared.unit.Unit.{Unit as CUnit}
use Rattle.extern_rows.specs.declared.header.Leaf.{Leaf}
use Rattle.c_runner.specs.Executed.{executed, unit_columns}
use Rattle.tool_top.specs.Answer.{IsExecuteAnswer}
use Rattle.tool_top.specs.Command.{cexec}
use Rattle.tool_top.specs.Outside.{Outside}
use Rattle.tool_top.specs.Programs.{IsUnitIn}
use Rattle.tool_top.specs.Sessions.{RunsSteps}
use Rattle.tool_top.specs.declared.outcome.Outcome.{Outcome}
use Rattle.tool_top.specs.declared.outcome.Outcome.TheVariants.{Undefined, BadRow}

-- The program that the two files spell is stepped over the rows of the input.
abbrev pub RunsExecute : List ℕ → Outside → Outside → Outcome → Type 0
RunsExecute name before after outcome = RunsSteps (cexec name) (IsUnitIn name) executed Undefined IsExecuteAnswer before after outcome

-- Where a row is told bad, these are the columns that the files' program wants.
abbrev pub NamesColumns : List ℕ → Files → Outcome → List Leaf → Type 0
NamesColumns name files (BadRow line fault) leaves = (u : CUnit) → IsUnitIn name files u → leaves ≡ unit_columns u
NamesColumns name files outcome leaves = Unit {0}
