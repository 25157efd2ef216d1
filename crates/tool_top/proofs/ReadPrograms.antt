-- How two files are read as a program, and how they stop a run.
use Rattle.std.specs.Prelude.{◌≡◌, ◌⊎◌, ℕ, List, [], ◌∷◌, ◌++◌, codes, Option, Some, None, Result, Ok, Err, IfSome, IfOk, IfErr}
use Rattle.std.proofs.Common.{sym, subst, refl, ap, ◌∙◌, inl, inr, lit≤}
use Rattle.sm_io.specs.Files.{Files}
use Rattle.sm_io.specs.Fetch.{fetched}
use Rattle.sm_io.specs.declared.outside.FetchFault.{FetchFault}
use Rattle.sm_io.specs.declared.outside.FetchFault.TheVariants as fetch
use Rattle.c99_tree.specs.declared.unit.Unit.{Unit as CUnit}
use Rattle.c99_tree.specs.Spelling.{Spells}
use Rattle.c99_tree.specs.WellFormed.{IsWellFormed}
use Rattle.c99_read.specs.Reads.{Refuses}
use Rattle.c99_read.specs.declared.fault.ReadUnitFault.{ReadUnitFault}
use Rattle.c99_read.specs.declared.fault.ReadUnitFault.TheVariants as unread
use Rattle.tool_top.specs.Analysis.{Stops}
use Rattle.tool_top.specs.Answer.{FetchStops, IsRefusal, NamesMissing, NamesStop, StopsAt}
use Rattle.tool_top.specs.Command.{cexec, header_file, source_file}
use Rattle.tool_top.specs.Programs.{HasFault, HasProgramFault, IsUnitIn, ReadsTo, not_header, not_source, not_well_formed, stop_of_reading}
use Rattle.tool_top.specs.Wanted.{Unread, before_rest, contents, unit_files, unit_limit}
use Rattle.tool_top.specs.declared.outcome.Outcome.{Outcome}
use Rattle.tool_top.specs.declared.outcome.Outcome.TheVariants.{Done, Refused, Usage, Hazard, Undefined, BadRow, ReadFault, WriteFault, Missing, NoMemory}
use Rattle.tool_top.specs.declared.outcome.Refusal.{Refusal}

-- ---- the two files

-- what two files hold
abbrev both : List ℕ → List ℕ → Result (List ℕ) FetchFault → Result (List ℕ) FetchFault → Result (List (List ℕ)) Unread
both header_name source_name header source = before_rest header_name header (before_rest source_name source (Ok []))

both_read : (h s : List ℕ) (header source : Result (List ℕ) FetchFault) (a b : List ℕ) → header ≡ Ok a → source ≡ Ok b → both h s header source ≡ Ok (a ∷ b ∷ [])
both_read h s header source a b p q = ap (λ r. both h s r source) p ∙ ap (both h s (Ok a)) q

pub texts_read : (files : Option Files) (name header source : List ℕ) → IfSome files (λ m. fetched m (header_file name) unit_limit ≡ Ok header)
    → IfSome files (λ m. fetched m (source_file name) unit_limit ≡ Ok source) → IfSome files (λ m. contents m (unit_files name) ≡ Ok (header ∷ source ∷ []))
texts_read None name header source h s = tt
texts_read (Some m) name header source h s =
    both_read (header_file name) (source_file name) (fetched m (header_file name) unit_limit) (fetched m (source_file name) unit_limit) header source h s

unread_header : (name h s : List ℕ) (found rest : Result (List ℕ) FetchFault) (stop : Outcome) → FetchStops found stop → StopsAt (cexec name) (both h s found rest) stop
unread_header name h s found rest (Refused a) k = subst (λ r. IsRefusal (cexec name) (both h s r rest) a) (sym k.0) (refl, k.1)
unread_header name h s found rest Missing k = (h, ap (λ r. both h s r rest) k)
unread_header name h s found rest ReadFault k = tt
unread_header name h s found rest NoMemory k = tt
unread_header name h s found rest Done k = absurd k
unread_header name h s found rest Usage k = absurd k
unread_header name h s found rest (Hazard step kind) k = absurd k
unread_header name h s found rest (Undefined step kind) k = absurd k
unread_header name h s found rest (BadRow line fault) k = absurd k
unread_header name h s found rest WriteFault k = absurd k

pub header_stops : (files : Option Files) (name : List ℕ) (stop : Outcome) → IfSome files (λ m. FetchStops (fetched m (header_file name) unit_limit) stop)
    → IfSome files (λ m. StopsAt (cexec name) (contents m (unit_files name)) stop)
header_stops None name stop h = tt
header_stops (Some m) name stop h =
    unread_header name (header_file name) (source_file name) (fetched m (header_file name) unit_limit) (fetched m (source_file name) unit_limit) stop h

unread_source : (name h s header : List ℕ) (found : Result (List ℕ) FetchFault) (stop : Outcome) → FetchStops found stop → StopsAt (cexec name) (both h s (Ok header) found) stop
unread_source name h s header found (Refused a) k = subst (λ r. IsRefusal (cexec name) (both h s (Ok header) r) a) (sym k.0) (refl, k.1)
unread_source name h s header found Missing k = (s, ap (both h s (Ok header)) k)
unread_source name h s header found ReadFault k = tt
unread_source name h s header found NoMemory k = tt
unread_source name h s header found Done k = absurd k
unread_source name h s header found Usage k = absurd k
unread_source name h s header found (Hazard step kind) k = absurd k
unread_source name h s header found (Undefined step kind) k = absurd k
unread_source name h s header found (BadRow line fault) k = absurd k
unread_source name h s header found WriteFault k = absurd k

pub source_stops : (files : Option Files) (name header : List ℕ) (stop : Outcome) → IfSome files (λ m. fetched m (header_file name) unit_limit ≡ Ok header)
    → IfSome files (λ m. FetchStops (fetched m (source_file name) unit_limit) stop) → IfSome files (λ m. StopsAt (cexec name) (contents m (unit_files name)) stop)
source_stops None name header stop h k = tt
source_stops (Some m) name header stop h k =
    subst (λ r. StopsAt (cexec name) (both (header_file name) (source_file name) r (fetched m (source_file name) unit_limit)) stop) (sym h)
    (unread_source name (header_file name) (source_file name) header (fetched m (source_file name) unit_limit) stop k)

-- ---- the file that is missing

header_missing_in : (files : Option Files) (name file : List ℕ) → IfSome files (λ m. fetched m (header_file name) unit_limit ≡ Err fetch.Missing) → file ≡ header_file name
    → NamesMissing (unit_files name) files file
header_missing_in None name file h is = subst (NamesMissing (unit_files name) None) (sym is) (unit_limit, (0, lit≤ tt, refl))
header_missing_in (Some m) name file h is =
    subst (NamesMissing (unit_files name) (Some m)) (sym is)
    (ap (λ r. both (header_file name) (source_file name) r (fetched m (source_file name) unit_limit)) h)

source_missing_in : (files : Option Files) (name header file : List ℕ) → IfSome files (λ m. fetched m (header_file name) unit_limit ≡ Ok header)
    → IfSome files (λ m. fetched m (source_file name) unit_limit ≡ Err fetch.Missing) → file ≡ source_file name → NamesMissing (unit_files name) files file
source_missing_in None name header file h s is = subst (NamesMissing (unit_files name) None) (sym is) (unit_limit, (1, lit≤ tt, refl))
source_missing_in (Some m) name header file h s is =
    subst (NamesMissing (unit_files name) (Some m)) (sym is)
    (ap (λ r. both (header_file name) (source_file name) r (fetched m (source_file name) unit_limit)) h ∙ ap (both (header_file name) (source_file name) (Ok header)) s)

not_want : Missing ≡ NoMemory → ⊥
not_want h = cc

missing_name : (file name : List ℕ) → (Missing ≡ NoMemory) ⊎ (file ≡ name) → file ≡ name
missing_name file name (inl h) = absurd (not_want h)
missing_name file name (inr h) = h

pub header_missing : (files : Option Files) (name file : List ℕ) (stop : Outcome) → IfSome files (λ m. FetchStops (fetched m (header_file name) unit_limit) stop)
    → (stop ≡ NoMemory) ⊎ (file ≡ header_file name) → NamesStop (unit_files name) files stop file
header_missing files name file Missing h is = header_missing_in files name file h (missing_name file (header_file name) is)
header_missing files name file (Refused a) h is = tt
header_missing files name file ReadFault h is = tt
header_missing files name file NoMemory h is = tt
header_missing files name file Done h is = tt
header_missing files name file Usage h is = tt
header_missing files name file (Hazard step kind) h is = tt
header_missing files name file (Undefined step kind) h is = tt
header_missing files name file (BadRow line fault) h is = tt
header_missing files name file WriteFault h is = tt

pub source_missing : (files : Option Files) (name header file : List ℕ) (stop : Outcome) → IfSome files (λ m. fetched m (header_file name) unit_limit ≡ Ok header)
    → IfSome files (λ m. FetchStops (fetched m (source_file name) unit_limit) stop) → (stop ≡ NoMemory) ⊎ (file ≡ source_file name) → NamesStop (unit_files name) files stop file
source_missing files name header file Missing h s is = source_missing_in files name header file h s (missing_name file (source_file name) is)
source_missing files name header file (Refused a) h s is = tt
source_missing files name header file ReadFault h s is = tt
source_missing files name header file NoMemory h s is = tt
source_missing files name header file Done h s is = tt
source_missing files name header file Usage h s is = tt
source_missing files name header file (Hazard step kind) h s is = tt
source_missing files name header file (Undefined step kind) h s is = tt
source_missing files name header file (BadRow line fault) h s is = tt
source_missing files name header file WriteFault h s is = tt

-- ---- the reading

pub refused_reading : (header source : List ℕ) (fault : ReadUnitFault) → Refuses header source fault → ReadsTo header source (Err (stop_of_reading fault))
refused_reading header source unread.NotHeader h = (not_header, h, refl)
refused_reading header source unread.NotSource h = (not_source, h, refl)
refused_reading header source unread.NotWellFormed h = (not_well_formed, h, refl)
refused_reading header source unread.Memory h = tt

reading_stop : (name header source : List ℕ) (m : Files) (stop : Outcome) → contents m (unit_files name) ≡ Ok (header ∷ source ∷ []) → Stops (HasProgramFault header source) stop
    → StopsAt (cexec name) (contents m (unit_files name)) stop
reading_stop name header source m (Refused a) is h = subst (λ read. IsRefusal (cexec name) read a) (sym is) h
reading_stop name header source m NoMemory is h = tt
reading_stop name header source m Done is h = absurd h
reading_stop name header source m Usage is h = absurd h
reading_stop name header source m (Hazard step kind) is h = absurd h
reading_stop name header source m (Undefined step kind) is h = absurd h
reading_stop name header source m (BadRow line fault) is h = absurd h
reading_stop name header source m ReadFault is h = absurd h
reading_stop name header source m WriteFault is h = absurd h
reading_stop name header source m Missing is h = absurd h

pub reading_stops : (files : Option Files) (name header source : List ℕ) (stop : Outcome) → IfSome files (λ m. contents m (unit_files name) ≡ Ok (header ∷ source ∷ []))
    → ReadsTo header source (Err stop) → IfSome files (λ m. StopsAt (cexec name) (contents m (unit_files name)) stop)
reading_stops None name header source stop is h = tt
reading_stops (Some m) name header source stop is h = reading_stop name header source m stop is h

-- no file is told missing by a reading
pub reading_names : (files : Option Files) (name header source file : List ℕ) (stop : Outcome) → ReadsTo header source (Err stop) → NamesStop (unit_files name) files stop file
reading_names files name header source file Missing h = absurd h
reading_names files name header source file (Refused a) h = tt
reading_names files name header source file ReadFault h = tt
reading_names files name header source file NoMemory h = tt
reading_names files name header source file Done h = tt
reading_names files name header source file Usage h = tt
reading_names files name header source file (Hazard step kind) h = tt
reading_names files name header source file (Undefined step kind) h = tt
reading_names files name header source file (BadRow line fault) h = tt
reading_names files name header source file WriteFault h = tt

pub unit_in : (files : Option Files) (name header source : List ℕ) (u : CUnit) → IfSome files (λ m. contents m (unit_files name) ≡ Ok (header ∷ source ∷ []))
    → ReadsTo header source (Ok u) → IfSome files (λ m. IsUnitIn name m u)
unit_in None name header source u is h = tt
unit_in (Some m) name header source u is h = record { header = header; source = source; texts_are = is; spelled = h.0; well_formed = h.1 }
