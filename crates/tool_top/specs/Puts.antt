-- The files that a command puts.
use Rattle.std.specs.Prelude.{◌≡◌, ℕ, List, [], ◌∷◌, take, slice_get, Option, Some}
use Rattle.sm_io.specs.Files.{Files, with_file, SameBut}
use Rattle.tool_top.specs.Command.{header_file, source_file}
use Rattle.tool_top.specs.declared.outcome.Outcome.{Outcome}
use Rattle.tool_top.specs.declared.outcome.Outcome.TheVariants.{Done, WriteFault, NoMemory}

-- a file that is put
pub record Put : Type 0 where
  pub name : List ℕ
  pub text : List ℕ

-- the files after these puts, one after another
abbrev pub with_puts : Option Files → List Put → Option Files
with_puts files [] = files
with_puts files (p ∷ ps) = with_puts (with_file files p.name p.text) ps

-- One of the puts failed: those before it stand, its own file is unknown, and all other names are as before.
abbrev pub OnePutFailed : List Put → Option Files → Option Files → Type 0
OnePutFailed puts old new = (k : ℕ) × (p : Put) × (slice_get puts k ≡ Some p) × SameBut p.name (with_puts old (take k puts)) new

-- the two files of a program
abbrev pub program_files : List ℕ → List ℕ → List ℕ → List Put
program_files name header source = record { name = header_file name; text = header } ∷ record { name = source_file name; text = source } ∷ []

-- what the puts leave, by their answer; where memory runs out, nothing was put
abbrev pub LeavesFiles : List Put → Option Files → Option Files → Outcome → Type 0
LeavesFiles puts old new Done = new ≡ with_puts old puts
LeavesFiles puts old new WriteFault = OnePutFailed puts old new
LeavesFiles puts old new NoMemory = new ≡ old
LeavesFiles puts old new _ = ⊥
