-- What `interpret` answers, and what it leaves.
use Rattle.std.specs.Prelude.{◌≡◌, List, [], ◌∷◌, ℕ, Ok}
use Rattle.sm_io.specs.Files.{Files}
use Rattle.stream_core.specs.Value.{SpecValue}
use Rattle.extern_rows.specs.declared.header.Leaf.{Leaf}
use Rattle.extern_rows.specs.LeafFaults.{leaf_name}
use Rattle.interpreter.specs.Interpreted.{extern_columns, interpreted}
use Rattle.tool_top.specs.Analysis.{Means}
use Rattle.tool_top.specs.Answer.{IsInterpretAnswer}
use Rattle.tool_top.specs.Command.{interpret}
use Rattle.tool_top.specs.Outside.{Outside}
use Rattle.tool_top.specs.Sessions.{RunsSteps}
use Rattle.tool_top.specs.Wanted.{text_file, contents}
use Rattle.tool_top.specs.declared.outcome.Outcome.{Outcome}
use Rattle.tool_top.specs.declared.outcome.Outcome.TheVariants.{Hazard, BadRow}

-- The file is there and within its limit, and its text stands for this specification.
pub record IsReadAs (spec : List ℕ) (files : Files) (s : SpecValue) : Type 0 where
  pub text : List ℕ
  pub text_is : contents files (text_file spec) ≡ Ok (text ∷ [])
  pub means : Means text s

-- The specification that the file's text stands for is stepped over the rows of the input.
abbrev pub RunsInterpret : List ℕ → Outside → Outside → Outcome → Type 0
RunsInterpret spec before after outcome = RunsSteps (interpret spec) (IsReadAs spec) interpreted Hazard IsInterpretAnswer before after outcome

-- Where a row is told bad, these are the columns that the text's specification wants.
abbrev pub NamesLeaves : List ℕ → Files → Outcome → List Leaf → Type 0
NamesLeaves spec files (BadRow line fault) leaves = (s : SpecValue) → IsReadAs spec files s → leaves ≡ extern_columns s
NamesLeaves spec files outcome leaves = Unit {0}

-- what the line of an outcome speaks of: the leaf of a bad row, or else the file
abbrev pub subject_of : List ℕ → Outcome → List Leaf → List ℕ
subject_of file (BadRow line fault) leaves = leaf_name leaves fault
subject_of file outcome leaves = file
