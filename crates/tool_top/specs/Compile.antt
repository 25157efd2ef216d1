-- What `compile` answers, and what it leaves.
use Rattle.std.specs.Prelude.{◌≡◌, ℕ, List, [], ◌∷◌, Ok}
use Rattle.sm_io.specs.Files.{Files}
use Rattle.stream_core.specs.Value.{SpecValue}
use Rattle.c99_tree.specs.declared.unit.Unit.{Unit as CUnit}
use Rattle.c99_tree.specs.Spelling.{Spells}
use Rattle.ring_codegen.specs.Simulation.{Simulates}
use Rattle.tool_top.specs.Analysis.{Means}
use Rattle.tool_top.specs.Command.{compile}
use Rattle.tool_top.specs.Outside.{Outside}
use Rattle.tool_top.specs.Putting.{RunsPuts}
use Rattle.tool_top.specs.Wanted.{text_file, contents}
use Rattle.tool_top.specs.declared.outcome.Outcome.{Outcome}

-- Two texts spell exactly one program, which is well formed, has this name and does what a specification means.
pub record IsProgramOf (means : SpecValue) (name header source : List ℕ) : Type 0 where
  pub program : CUnit
  pub simulates : Simulates means name program
  pub spelled : Spells program header source
  pub only : (u : CUnit) → Spells u header source → u ≡ program

-- The text stands for a specification, and the two texts are such a program of it.
pub record IsProgramFor (text name header source : List ℕ) : Type 0 where
  pub means : SpecValue
  pub source_is : Means text means
  pub program : IsProgramOf means name header source

-- The file is there and within its limit, and the two texts are such a program for its text.
pub record IsCompiled (spec name : List ℕ) (files : Files) (header source : List ℕ) : Type 0 where
  pub text : List ℕ
  pub text_is : contents files (text_file spec) ≡ Ok (text ∷ [])
  pub program : IsProgramFor text name header source

-- The program that is made of the file's text is put.
abbrev pub RunsCompile : List ℕ → List ℕ → Outside → Outside → Outcome → Type 0
RunsCompile spec name before after outcome = RunsPuts (compile spec name) name (IsCompiled spec name) before after outcome
