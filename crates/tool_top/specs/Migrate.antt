-- What `migrate` answers, and what it leaves.
use Rattle.std.specs.Prelude.{◌≡◌, ◌+◌, ℕ, List, None}
use Rattle.sm_io.specs.Files.{Files}
use Rattle.c99_tree.specs.declared.unit.Unit.{Unit as CUnit}
use Rattle.c99_tree.specs.Spelling.{Spells}
use Rattle.c99_tree.specs.WellFormed.{IsWellFormed}
use Rattle.migration.specs.Migration.{IsMigrated, RunAlike, misused, old_indices}
use Rattle.tool_top.specs.Command.{migrate}
use Rattle.tool_top.specs.Outside.{Outside}
use Rattle.tool_top.specs.Programs.{IsUnitIn}
use Rattle.tool_top.specs.Putting.{RunsPuts}
use Rattle.tool_top.specs.declared.outcome.Outcome.{Outcome}

-- Two texts spell exactly one program, which is well formed and is a program without the index of its rings of one value,
-- under this name: it makes the same calls and meets the same that is undefined over the first steps of any rows, in
-- storage without these indices.
pub record IsRenewalOf (old : CUnit) (name header source : List ℕ) : Type 0 where
  pub program : CUnit
  pub migrated : IsMigrated old name program
  pub well_formed : IsWellFormed program
  pub alike : RunAlike old program
  pub storage : program.storage + old_indices old ≡ old.storage
  pub spelled : Spells program header source
  pub only : (u : CUnit) → Spells u header source → u ≡ program

-- The two files of the old name spell a program whose rings of one value are all used as of old, and the two texts are
-- such a renewal of it.
pub record IsRenewed (old name : List ℕ) (files : Files) (header source : List ℕ) : Type 0 where
  pub unit : CUnit
  pub read : IsUnitIn old files unit
  pub used : misused unit ≡ None
  pub renewal : IsRenewalOf unit name header source

-- The renewal of the program that the two files spell is put.
abbrev pub RunsMigrate : List ℕ → List ℕ → Outside → Outside → Outcome → Type 0
RunsMigrate old name before after outcome = RunsPuts (migrate old name) name (IsRenewed old name) before after outcome
