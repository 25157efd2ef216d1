-- What reading two texts answers.
use Rattle.std.specs.Prelude.{ℕ, List, Result, Ok, Err}
use Rattle.c99_tree.specs.declared.unit.Unit.{Unit as CUnit}
use Rattle.c99_tree.specs.Spelling.{Spells}
use Rattle.c99_tree.specs.WellFormed.{IsWellFormed}
use Rattle.c99_read.specs.declared.fault.ReadUnitFault.{ReadUnitFault}
use Rattle.c99_read.specs.declared.fault.ReadUnitFault.TheVariants as fault

-- why no program was answered
abbrev pub Refuses : List ℕ → List ℕ → ReadUnitFault → Type 0
Refuses header source fault.NotHeader = (u : CUnit) (other : List ℕ) → Spells u header other → ⊥
Refuses header source fault.NotSource = ((u : CUnit) × (other : List ℕ) × Spells u header other) × ((u : CUnit) → Spells u header source → ⊥)
Refuses header source fault.NotWellFormed = (u : CUnit) × Spells u header source × (IsWellFormed u → ⊥)
Refuses header source fault.Memory = Unit {0}

-- the program that they spell, where it is well formed, or why there is none; of want of memory nothing is said
abbrev pub Reads : List ℕ → List ℕ → Result CUnit ReadUnitFault → Type 0
Reads header source (Ok u) = Spells u header source × IsWellFormed u
Reads header source (Err e) = Refuses header source e

-- the same before it is looked at whether the program is well formed
abbrev pub ReadsSpelled : List ℕ → List ℕ → Result CUnit ReadUnitFault → Type 0
ReadsSpelled header source (Ok u) = Spells u header source
ReadsSpelled header source (Err e) = Refuses header source e
