-- Two files that spell a program, and how they stop a run.
use Rattle.std.specs.Prelude.{◌≡◌, ℕ, List, [], ◌∷◌, Option, Some, None, Result, Ok, Err}
use Rattle.sm_io.specs.Files.{Files}
use Rattle.c99_tree.specs.declared.unit.Unit.{Unit as CUnit}
use Rattle.c99_tree.specs.Spelling.{Spells}
use Rattle.c99_tree.specs.WellFormed.{IsWellFormed}
use Rattle.c99_read.specs.declared.fault.ReadUnitFault.{ReadUnitFault}
use Rattle.c99_read.specs.declared.fault.ReadUnitFault.TheVariants as unread
use Rattle.migration.specs.Migration.{misused}
use Rattle.tool_top.specs.Analysis.{Stops, nowhere, stop_of}
use Rattle.tool_top.specs.Wanted.{unit_files, contents}
use Rattle.tool_top.specs.declared.outcome.Outcome.{Outcome}
use Rattle.tool_top.specs.declared.outcome.Outcome.TheVariants.{Refused, NoMemory}
use Rattle.tool_top.specs.declared.outcome.Refusal.{Refusal}
use Rattle.tool_top.specs.declared.outcome.RefusalKind.TheVariants as kind

-- ---- what two texts are refused for

-- why two texts are not those of a well formed program
pub data ProgramFault : Type 0 where
  not_header : ProgramFault
  not_source : ProgramFault
  not_well_formed : ProgramFault

abbrev pub of_program : ProgramFault → Refusal
of_program not_header = nowhere kind.NotHeader
of_program not_source = nowhere kind.NotSource
of_program not_well_formed = nowhere kind.NotWellFormed

-- No program has this header; or some have, none of which has this source; or the one that has both is not well formed.
abbrev pub HasFault : List ℕ → List ℕ → ProgramFault → Type 0
HasFault header source not_header = (u : CUnit) (other : List ℕ) → Spells u header other → ⊥
HasFault header source not_source = ((u : CUnit) × (other : List ℕ) × Spells u header other) × ((u : CUnit) → Spells u header source → ⊥)
HasFault header source not_well_formed = (u : CUnit) × Spells u header source × (IsWellFormed u → ⊥)

abbrev pub HasProgramFault : List ℕ → List ℕ → Refusal → Type 0
HasProgramFault header source refusal = (fault : ProgramFault) × HasFault header source fault × (refusal ≡ of_program fault)

-- a ring of this number, from 1, is the first of one value with an index that is not used as of old
abbrev pub old_use : ℕ → Refusal
old_use number = record { kind = kind.NotOldLayout; item = number; at = 0 }

pub record HasOldUse (header source : List ℕ) (refusal : Refusal) : Type 0 where
  pub unit : CUnit
  pub spelled : Spells unit header source
  pub well_formed : IsWellFormed unit
  pub number : ℕ
  pub first : misused unit ≡ Some number
  pub told : refusal ≡ old_use number

-- ---- how they stop a run

-- the fault that a reading tells; want of memory is none of the texts
abbrev pub program_fault : ReadUnitFault → Option ProgramFault
program_fault unread.NotHeader = Some not_header
program_fault unread.NotSource = Some not_source
program_fault unread.NotWellFormed = Some not_well_formed
program_fault unread.Memory = None

abbrev pub stop_of_reading : ReadUnitFault → Outcome
stop_of_reading fault = stop_of of_program (program_fault fault)

-- The two texts spell a well formed program, or a refusal tells why they don't. Want of memory is free.
abbrev pub ReadsTo : List ℕ → List ℕ → Result CUnit Outcome → Type 0
ReadsTo header source (Ok u) = Spells u header source × IsWellFormed u
ReadsTo header source (Err stop) = Stops (HasProgramFault header source) stop

-- The two files of this name are there and within their limit, and spell this well formed program.
pub record IsUnitIn (name : List ℕ) (files : Files) (u : CUnit) : Type 0 where
  pub header : List ℕ
  pub source : List ℕ
  pub texts_are : contents files (unit_files name) ≡ Ok (header ∷ source ∷ [])
  pub spelled : Spells u header source
  pub well_formed : IsWellFormed u

-- How a migration of the program stops a run: at the first ring that is used otherwise than of old. Want of memory is
-- free.
abbrev pub StopsRenewal : CUnit → Outcome → Type 0
StopsRenewal u (Refused refusal) = (number : ℕ) × (misused u ≡ Some number) × (refusal ≡ old_use number)
StopsRenewal u NoMemory = Unit {0}
StopsRenewal u _ = ⊥
