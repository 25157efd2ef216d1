-- How a run over files ends.
use Rattle.std.specs.Prelude.{◌≡◌, ℕ, List, [], ◌∷◌, Option, Some, None, Result, Ok, Err, OnErr, IfErr, IfSome}
use Rattle.std.proofs.Common.{sym, subst, refl, ap}
use Rattle.sm_io.specs.Files.{Files, SameBut, with_file}
use Rattle.sm_io.specs.Fetch.{fetched}
use Rattle.sm_io.specs.declared.outside.FetchFault.{FetchFault}
use Rattle.tool_top.specs.Analysis.{Stops, HasFirstFault}
use Rattle.tool_top.specs.Command.{CommandValue, compile, header_file, source_file}
use Rattle.tool_top.specs.Wanted.{text_file, text_limit, before_rest, contents, wanted}
use Rattle.tool_top.specs.Puts.{Put, with_puts, OnePutFailed, LeavesFiles, program_files}
use Rattle.tool_top.specs.Answer.{FetchStops, StopsAt, IsRefusal}
use Rattle.tool_top.specs.Compile.{IsProgramFor, IsCompiled}
use Rattle.tool_top.specs.Putting.{Puts}
use Rattle.tool_top.specs.declared.outcome.Outcome.{Outcome}
use Rattle.tool_top.specs.declared.outcome.Outcome.TheVariants.{Done, Refused, Usage, Hazard, Undefined, BadRow, ReadFault, WriteFault, Missing, NoMemory}

-- ---- a text that isn't read

abbrev pub StopsFor : Option Files → List ℕ → Outcome → Type 0
StopsFor files spec stop = IfSome files (λ m. (name : List ℕ) → StopsAt (compile spec name) (contents m (text_file spec)) stop)

text_unread : (spec name : List ℕ) (found : Result (List ℕ) FetchFault) (stop : Outcome) → FetchStops found stop → StopsAt (compile spec name) (before_rest spec found (Ok [])) stop
text_unread spec name found (Refused a) h = subst (λ r. IsRefusal (compile spec name) (before_rest spec r (Ok [])) a) (sym h.0) (refl, h.1)
text_unread spec name found Missing h = (spec, ap (λ r. before_rest spec r (Ok [])) h)
text_unread spec name found ReadFault h = tt
text_unread spec name found NoMemory h = tt
text_unread spec name found Done h = absurd h
text_unread spec name found Usage h = absurd h
text_unread spec name found (Hazard step kind) h = absurd h
text_unread spec name found (Undefined step kind) h = absurd h
text_unread spec name found (BadRow line fault) h = absurd h
text_unread spec name found WriteFault h = absurd h

-- a fetch stops
pub unread_stops : (files : Option Files) (spec : List ℕ) (stop : Outcome) → IfSome files (λ m. FetchStops (fetched m spec text_limit) stop) → StopsFor files spec stop
unread_stops None spec stop h = tt
unread_stops (Some m) spec stop h = λ name. text_unread spec name (fetched m spec text_limit) stop h

pub unread_result : {T : Type 0} (r : Result T Outcome) (files : Option Files) (spec : List ℕ)
    → IfErr r (λ stop. IfSome files (λ m. FetchStops (fetched m spec text_limit) stop)) → IfErr r (StopsFor files spec)
unread_result (Ok t) files spec h = tt
unread_result (Err stop) files spec h = unread_stops files spec stop h

-- ---- a run that puts files

-- it stops before it puts any
pub stop_puts : (row : CommandValue) (name : List ℕ) (Makes : Files → List ℕ → List ℕ → Type 0) (m : Files) (new : Option Files) (stop : Outcome)
    → StopsAt row (contents m (wanted row)) stop → new ≡ Some m → Puts row name Makes m new stop
stop_puts row name Makes m new (Refused a) h same = (h, same)
stop_puts row name Makes m new Missing h same = (h, same)
stop_puts row name Makes m new ReadFault h same = (h, same)
stop_puts row name Makes m new NoMemory h same = (h, same)
stop_puts row name Makes m new Done h same = absurd h
stop_puts row name Makes m new Usage h same = absurd h
stop_puts row name Makes m new (Hazard step kind) h same = absurd h
stop_puts row name Makes m new (Undefined step kind) h same = absurd h
stop_puts row name Makes m new (BadRow line fault) h same = absurd h
stop_puts row name Makes m new WriteFault h same = absurd h

-- it puts both
pub left_puts : (row : CommandValue) (name header source : List ℕ) (Makes : Files → List ℕ → List ℕ → Type 0) (m : Files) (new : Option Files) (outcome : Outcome)
    → Makes m header source → LeavesFiles (program_files name header source) (Some m) new outcome → Puts row name Makes m new outcome
left_puts row name header source Makes m new Done made h = (header, source, made, h)
left_puts row name header source Makes m new WriteFault made h = (header, source, made, h)
left_puts row name header source Makes m new NoMemory made h = (tt, h)
left_puts row name header source Makes m new (Refused a) made h = absurd h
left_puts row name header source Makes m new Missing made h = absurd h
left_puts row name header source Makes m new ReadFault made h = absurd h
left_puts row name header source Makes m new Usage made h = absurd h
left_puts row name header source Makes m new (Hazard step kind) made h = absurd h
left_puts row name header source Makes m new (Undefined step kind) made h = absurd h
left_puts row name header source Makes m new (BadRow line fault) made h = absurd h

-- ---- a compile

abbrev pub Compiles : List ℕ → List ℕ → Files → Option Files → Outcome → Type 0
Compiles spec name m new outcome = Puts (compile spec name) name (IsCompiled spec name) m new outcome

text_stops : (spec name text : List ℕ) (m : Files) (stop : Outcome) → Stops (HasFirstFault text) stop → contents m (text_file spec) ≡ Ok (text ∷ []) → StopsAt (compile spec name) (contents m (text_file spec)) stop
text_stops spec name text m (Refused refusal) a is = subst (λ read. IsRefusal (compile spec name) read refusal) (sym is) a
text_stops spec name text m NoMemory a is = tt
text_stops spec name text m Done a is = absurd a
text_stops spec name text m Usage a is = absurd a
text_stops spec name text m (Hazard step kind) a is = absurd a
text_stops spec name text m (Undefined step kind) a is = absurd a
text_stops spec name text m (BadRow line fault) a is = absurd a
text_stops spec name text m ReadFault a is = absurd a
text_stops spec name text m WriteFault a is = absurd a
text_stops spec name text m Missing a is = absurd a

-- an analysis stops
pub stop_compiles : (spec name text : List ℕ) (old new : Option Files) (stop : Outcome) → Stops (HasFirstFault text) stop
    → IfSome old (λ m. contents m (text_file spec) ≡ Ok (text ∷ [])) → new ≡ old → IfSome old (λ m. Compiles spec name m new stop)
stop_compiles spec name text None new stop a is same = tt
stop_compiles spec name text (Some m) new stop a is same =
    stop_puts (compile spec name) name (IsCompiled spec name) m new stop (text_stops spec name text m stop a is) same

-- a fetch stops
pub fetch_compiles : (spec name : List ℕ) (old new : Option Files) (stop : Outcome) → StopsFor old spec stop → new ≡ old → IfSome old (λ m. Compiles spec name m new stop)
fetch_compiles spec name None new stop h same = tt
fetch_compiles spec name (Some m) new stop h same = stop_puts (compile spec name) name (IsCompiled spec name) m new stop (h name) same

-- its texts are put
pub texts_compile : (spec name text header source : List ℕ) (old fetched_ new : Option Files) (outcome : Outcome) → IsProgramFor text name header source
    → IfSome old (λ m. contents m (text_file spec) ≡ Ok (text ∷ [])) → fetched_ ≡ old → LeavesFiles (program_files name header source) fetched_ new outcome
    → IfSome old (λ m. Compiles spec name m new outcome)
texts_compile spec name text header source None fetched_ new outcome p is same h = tt
texts_compile spec name text header source (Some m) fetched_ new outcome p is same h =
    left_puts (compile spec name) name header source (IsCompiled spec name) m new outcome
    (record { text = text; text_is = is; program = p })
    (subst (λ o. LeavesFiles (program_files name header source) o new outcome) same h)

-- ---- puts

on_err : {T E P : Type 0} (r : Result T E) → P → OnErr r P
on_err (Ok t) p = tt
on_err (Err e) p = p

pub first_put_failed : {T E : Type 0} (a b : Put) (old new : Option Files) (r : Result T E) → SameBut a.name old new → OnErr r (OnePutFailed (a ∷ b ∷ []) old new)
first_put_failed a b old new r same = on_err r (0, a, refl, same)

pub second_put_failed : {T E : Type 0} (a b : Put) (old middle new : Option Files) (r : Result T E) → middle ≡ with_file old a.name a.text → SameBut b.name middle new → OnErr r (OnePutFailed (a ∷ b ∷ []) old new)
second_put_failed a b old middle new r is same = on_err r (1, b, refl, subst (λ files. SameBut b.name files new) is same)

pub files_put : (old new : Option Files) (name header_name source_name header source : List ℕ) → header_name ≡ header_file name → source_name ≡ source_file name →
    new ≡ with_puts old (record { name = header_name; text = header } ∷ record { name = source_name; text = source } ∷ []) → new ≡ with_puts old (program_files name header source)
files_put old new name header_name source_name header source h s puts = rw (h, s) at puts

pub file_failed : (old new : Option Files) (name header_name source_name header source : List ℕ) → header_name ≡ header_file name → source_name ≡ source_file name →
    OnePutFailed (record { name = header_name; text = header } ∷ record { name = source_name; text = source } ∷ []) old new → OnePutFailed (program_files name header source) old new
file_failed old new name header_name source_name header source h s puts = rw (h, s) at puts
