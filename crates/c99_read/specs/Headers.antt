-- What reading a header answers.
use Rattle.std.specs.Prelude.{◌≡◌, ℕ, List, Result, Ok, Err}
use Rattle.c99_tree.specs.declared.unit.Unit.{Unit as CUnit}
use Rattle.c99_tree.specs.Spelling.{Spells}
use Rattle.c99_read.specs.declared.heading.Header.{Header}
use Rattle.c99_read.specs.declared.fault.ReadHeaderFault.{ReadHeaderFault}
use Rattle.c99_read.specs.declared.fault.ReadHeaderFault.TheVariants as fault

-- this is the header of some program
abbrev pub IsHeader : List ℕ → Type 0
IsHeader header = (u : CUnit) × (source : List ℕ) × Spells u header source

-- what a program's header says of it
abbrev pub header_parts : CUnit → Header
header_parts u =
    record { name = u.name; storage = u.storage; need = u.need; types = u.types; externs = u.externs; handlers = u.handlers }

-- each program with this header has these parts
abbrev pub HaveParts : List ℕ → Header → Type 0
HaveParts header parts = (u : CUnit) (source : List ℕ) → Spells u header source → header_parts u ≡ parts

-- why no header was read; of want of memory nothing is said
abbrev pub RefusesHeader : List ℕ → ReadHeaderFault → Type 0
RefusesHeader header fault.NotHeader = IsHeader header → ⊥
RefusesHeader header fault.Memory = Unit {0}

-- the parts of the programs that have this header, where there is one
abbrev pub ReadsHeader : List ℕ → Result Header ReadHeaderFault → Type 0
ReadsHeader header (Ok parts) = IsHeader header × HaveParts header parts
ReadsHeader header (Err e) = RefusesHeader header e
