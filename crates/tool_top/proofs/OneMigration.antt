-- What is known of `migrate`.
use Rattle.std.specs.Prelude.{◌≡◌, ◌+◌, ◌⊎◌, ℕ, List, [], ◌∷◌, Option, Some, None, Result, Ok, Err, IfSome}
use Rattle.std.proofs.Common.{sym, subst, refl, ap, ◌∙◌, inl, inr}
use Rattle.sm_io.specs.Files.{Files}
use Rattle.c99_tree.specs.declared.unit.Unit.{Unit as CUnit}
use Rattle.c99_tree.specs.Spelling.{Spells}
use Rattle.c99_tree.specs.WellFormed.{IsWellFormed}
use Rattle.migration.specs.Migration.{IsMigrated, RunAlike, misused, old_indices}
use Rattle.tool_top.specs.Answer.{IsRefusal, Names, NamesStop, StopsAt, TellsShelfFaults}
use Rattle.tool_top.specs.Command.{CommandValue, cexec, migrate}
use Rattle.tool_top.specs.Migrate.{IsRenewalOf, IsRenewed}
use Rattle.tool_top.specs.Outside.{Outside}
use Rattle.tool_top.specs.Programs.{HasOldUse, HasProgramFault, IsUnitIn, StopsRenewal}
use Rattle.tool_top.specs.Puts.{LeavesFiles, program_files}
use Rattle.tool_top.specs.Putting.{Puts}
use Rattle.tool_top.specs.Runs.{Completes}
use Rattle.tool_top.specs.Wanted.{Unread, contents, unit_files}
use Rattle.tool_top.specs.declared.outcome.Outcome.{Outcome}
use Rattle.tool_top.specs.declared.outcome.Outcome.TheVariants.{Done, Refused, Usage, Hazard, Undefined, BadRow, ReadFault, WriteFault, Missing, NoMemory}
use Rattle.tool_top.specs.declared.outcome.Refusal.{Refusal}
use Rattle.tool_top.proofs.Programs.{OneUnit}
use Rattle.tool_top.proofs.OneProgram.{one_old_use, one_program_fault, program_has_no_fault, used_as_of_old}
use Rattle.tool_top.proofs.Settled.{IsMaking, making_completes, texts_missing}
use Rattle.tool_top.proofs.Stopping.{left_puts, stop_puts}

-- ---- one outcome

one_refusal : OneUnit → (header source : List ℕ) (a b : Refusal) → HasProgramFault header source a ⊎ HasOldUse header source a → HasProgramFault header source b ⊎ HasOldUse header source b → a ≡ b
one_refusal one header source a b (inl h) (inl k) = one_program_fault header source a b h k
one_refusal one header source a b (inl h) (inr k) = absurd (program_has_no_fault one header source k.unit a k.spelled k.well_formed h)
one_refusal one header source a b (inr h) (inl k) = absurd (program_has_no_fault one header source h.unit b h.spelled h.well_formed k)
one_refusal one header source a b (inr h) (inr k) = one_old_use one header source a b h k

refused_once : OneUnit → (old name : List ℕ) (read : Result (List (List ℕ)) Unread) (a b : Refusal) → IsRefusal (migrate old name) read a → IsRefusal (migrate old name) read b → a ≡ b
refused_once one old name (Ok []) a b h k = absurd h
refused_once one old name (Ok (header ∷ [])) a b h k = absurd h
refused_once one old name (Ok (header ∷ source ∷ [])) a b h k = one_refusal one header source a b h k
refused_once one old name (Ok (header ∷ source ∷ other ∷ more)) a b h k = absurd h
refused_once one old name (Err unread) a b h k = h.1 ∙ sym k.1

never_refused : OneUnit → (header source : List ℕ) (u : CUnit) (a : Refusal) → Spells u header source → IsWellFormed u → misused u ≡ None → HasProgramFault header source a ⊎ HasOldUse header source a → ⊥
never_refused one header source u a spelled formed used (inl h) = program_has_no_fault one header source u a spelled formed h
never_refused one header source u a spelled formed used (inr h) = used_as_of_old one header source u a spelled used h

not_refused : OneUnit → (old name : List ℕ) (files : Files) (header source : List ℕ) (a : Refusal) → IsRenewed old name files header source
    → IsRefusal (migrate old name) (contents files (unit_files old)) a → ⊥
not_refused one old name files header source a r h =
    never_refused one r.read.header r.read.source r.unit a r.read.spelled r.read.well_formed r.used
    (subst (λ read. IsRefusal (migrate old name) read a) r.read.texts_are h)

pub migrate_makes : OneUnit → (old name : List ℕ) → IsMaking (migrate old name) (IsRenewed old name)
migrate_makes one old name = record {
  once = λ files a b. refused_once one old name (contents files (unit_files old)) a b;
  fine = λ files header source a. not_refused one old name files header source a;
  there = λ files header source file r. texts_missing (contents files (unit_files old)) (r.read.header ∷ r.read.source ∷ []) file r.read.texts_are;
  quiet = λ before after h. h;
}

pub migrate_completes : OneUnit → (row : CommandValue) (old name : List ℕ) (before after : Outside) (a : Outcome) → migrate old name ≡ row
    → IfSome before.files (λ m. Puts (migrate old name) name (IsRenewed old name) m after.files a) → TellsShelfFaults before.shelf_faults after.shelf_faults a → Completes row before after a
migrate_completes one row old name before after a is h faults =
    subst (λ r. Completes r before after a) is (making_completes (migrate old name) name (IsRenewed old name) (migrate_makes one old name) before after a h faults)

-- ---- what the line speaks of

named : (old name : List ℕ) (files : Option Files) (a : Outcome) (file : List ℕ) → NamesStop (unit_files old) files a file → Names (migrate old name) files a file
named old name files Missing file h = h
named old name files (BadRow line fault) file h = tt
named old name files Done file h = tt
named old name files NoMemory file h = tt
named old name files ReadFault file h = tt
named old name files WriteFault file h = tt
named old name files (Refused r) file h = tt
named old name files Usage file h = tt
named old name files (Hazard step kind) file h = tt
named old name files (Undefined step kind) file h = tt

pub names_migrate : (row : CommandValue) (old name : List ℕ) (files : Option Files) (a : Outcome) (file : List ℕ) → migrate old name ≡ row
    → NamesStop (unit_files old) files a file → Names row files a file
names_migrate row old name files a file is h = subst (λ r. Names r files a file) is (named old name files a file h)

-- ---- a run

-- the reading of the files stops it
same_refusal : (old name : List ℕ) (read : Result (List (List ℕ)) Unread) (a : Refusal) → IsRefusal (cexec old) read a → IsRefusal (migrate old name) read a
same_refusal old name (Ok []) a h = absurd h
same_refusal old name (Ok (header ∷ [])) a h = absurd h
same_refusal old name (Ok (header ∷ source ∷ [])) a h = inl h
same_refusal old name (Ok (header ∷ source ∷ other ∷ more)) a h = absurd h
same_refusal old name (Err unread) a h = h

same_stop : (old name : List ℕ) (read : Result (List (List ℕ)) Unread) (stop : Outcome) → StopsAt (cexec old) read stop → StopsAt (migrate old name) read stop
same_stop old name read (Refused a) h = same_refusal old name read a h
same_stop old name read Missing h = h
same_stop old name read ReadFault h = tt
same_stop old name read NoMemory h = tt
same_stop old name read Done h = absurd h
same_stop old name read Usage h = absurd h
same_stop old name read (Hazard step kind) h = absurd h
same_stop old name read (Undefined step kind) h = absurd h
same_stop old name read (BadRow line fault) h = absurd h
same_stop old name read WriteFault h = absurd h

abbrev pub Migrates : List ℕ → List ℕ → Files → Option Files → Outcome → Type 0
Migrates old name m new outcome = Puts (migrate old name) name (IsRenewed old name) m new outcome

pub unread_migrates : (old name : List ℕ) (files new : Option Files) (stop : Outcome) → IfSome files (λ m. StopsAt (cexec old) (contents m (unit_files old)) stop) → new ≡ files
    → IfSome files (λ m. Migrates old name m new stop)
unread_migrates old name None new stop h same = tt
unread_migrates old name (Some m) new stop h same =
    stop_puts (migrate old name) name (IsRenewed old name) m new stop (same_stop old name (contents m (unit_files old)) stop h) same

-- a ring that is used otherwise stops it
old_use_stops : (old name : List ℕ) (m : Files) (u : CUnit) (stop : Outcome) → IsUnitIn old m u → StopsRenewal u stop → StopsAt (migrate old name) (contents m (unit_files old)) stop
old_use_stops old name m u (Refused a) x h =
    subst (λ read. IsRefusal (migrate old name) read a) (sym x.texts_are)
    (inr (record { unit = u; spelled = x.spelled; well_formed = x.well_formed; number = h.0; first = h.1; told = h.2 }))
old_use_stops old name m u NoMemory x h = tt
old_use_stops old name m u Missing x h = absurd h
old_use_stops old name m u ReadFault x h = absurd h
old_use_stops old name m u Done x h = absurd h
old_use_stops old name m u Usage x h = absurd h
old_use_stops old name m u (Hazard step kind) x h = absurd h
old_use_stops old name m u (Undefined step kind) x h = absurd h
old_use_stops old name m u (BadRow line fault) x h = absurd h
old_use_stops old name m u WriteFault x h = absurd h

pub stopped_migrates : (old name : List ℕ) (files new : Option Files) (u : CUnit) (stop : Outcome) → IfSome files (λ m. IsUnitIn old m u) → StopsRenewal u stop → new ≡ files
    → IfSome files (λ m. Migrates old name m new stop)
stopped_migrates old name None new u stop x h same = tt
stopped_migrates old name (Some m) new u stop x h same =
    stop_puts (migrate old name) name (IsRenewed old name) m new stop (old_use_stops old name m u stop x h) same

-- the new program is put
pub texts_migrate : (old name header source : List ℕ) (files fetched_ new : Option Files) (u : CUnit) (outcome : Outcome) → IfSome files (λ m. IsUnitIn old m u) → misused u ≡ None
    → IsRenewalOf u name header source → fetched_ ≡ files → LeavesFiles (program_files name header source) fetched_ new outcome → IfSome files (λ m. Migrates old name m new outcome)
texts_migrate old name header source None fetched_ new u outcome x used r same h = tt
texts_migrate old name header source (Some m) fetched_ new u outcome x used r same h =
    left_puts (migrate old name) name header source (IsRenewed old name) m new outcome
    (record { unit = u; read = x; used = used; renewal = r })
    (subst (λ o. LeavesFiles (program_files name header source) o new outcome) same h)

-- no file is told missing behind the reading
pub renewal_names : (files : Option Files) (old file : List ℕ) (u : CUnit) (stop : Outcome) → StopsRenewal u stop → NamesStop (unit_files old) files stop file
renewal_names files old file u Missing h = absurd h
renewal_names files old file u (BadRow line fault) h = tt
renewal_names files old file u Done h = tt
renewal_names files old file u NoMemory h = tt
renewal_names files old file u ReadFault h = tt
renewal_names files old file u WriteFault h = tt
renewal_names files old file u (Refused r) h = tt
renewal_names files old file u Usage h = tt
renewal_names files old file u (Hazard step kind) h = tt
renewal_names files old file u (Undefined step kind) h = tt

pub puts_names : (files before after : Option Files) (old name header source file : List ℕ) (outcome : Outcome) → LeavesFiles (program_files name header source) before after outcome
    → NamesStop (unit_files old) files outcome file
puts_names files before after old name header source file Missing h = absurd h
puts_names files before after old name header source file (BadRow line fault) h = tt
puts_names files before after old name header source file Done h = tt
puts_names files before after old name header source file NoMemory h = tt
puts_names files before after old name header source file ReadFault h = tt
puts_names files before after old name header source file WriteFault h = tt
puts_names files before after old name header source file (Refused r) h = tt
puts_names files before after old name header source file Usage h = tt
puts_names files before after old name header source file (Hazard step kind) h = tt
puts_names files before after old name header source file (Undefined step kind) h = tt

-- two texts are a renewal of a program
pub renewal_of : OneUnit → (u v : CUnit) (name unit_name header source : List ℕ) → unit_name ≡ name → IsMigrated u unit_name v → IsWellFormed v → RunAlike u v
    → v.storage + old_indices u ≡ u.storage → Spells v header source → IsRenewalOf u name header source
renewal_of one u v name unit_name header source is migrated formed alike storage spelled = record {
  program = v;
  migrated = subst (λ n. IsMigrated u n v) is migrated;
  well_formed = formed;
  alike = alike;
  storage = storage;
  spelled = spelled;
  only = λ w other. one w v header source other spelled;
}
