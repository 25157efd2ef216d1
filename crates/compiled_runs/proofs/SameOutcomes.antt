-- `cexec` over compiled files answers what `interpret` does, where that answers Done or BadRow.
use Rattle.std.specs.Prelude.{◌≡◌, ℕ, Bool, true, List, [], ◌∷◌, Option, Some, None, Result, Ok}
use Rattle.std.proofs.Common.{refl, sym, ap, subst, ◌∙◌, inl, inr}
use Rattle.sm_io.specs.Files.{Files}
use Rattle.sm_io.specs.Known.{after_known}
use Rattle.stream_types.specs.declared.scalar.Hazard.{Hazard as HazardKind}
use Rattle.stream_core.specs.Value.{SpecValue}
use Rattle.stream_core.specs.Term.{TreeSpec, trees}
use Rattle.stream_core.specs.Soundness.{HasNoCycle}
use Rattle.stream_core.specs.WellTyped.{WellTyped}
use Rattle.c99_tree.specs.declared.undefined.Undefined.{Undefined as UndefinedKind}
use Rattle.c99_tree.specs.declared.unit.Unit.{Unit as CUnit}
use Rattle.c99_tree.specs.Spelling.{Spells}
use Rattle.extern_rows.specs.SampleRows.{FaultAt}
use Rattle.row_sessions.specs.Session.{SessionStop, Sessions, RunsSession, Wrote, row_stop, session_text, text_of_steps}
use Rattle.row_sessions.specs.declared.ending.Ending.{Ending}
use Rattle.row_sessions.specs.declared.ending.Ending.TheVariants as ending
use Rattle.interpreter.specs.Interpreted.{interpreted, interpreted_by}
use Rattle.ring_codegen.specs.Simulation.{Simulates}
use Rattle.c_runner.specs.Executed.{executed}
use Rattle.tool_top.specs.Answer.{IsRefusal, IsSettled, StopsAt}
use Rattle.tool_top.specs.Command.{cexec, interpret}
use Rattle.tool_top.specs.Compile.{IsCompiled}
use Rattle.tool_top.specs.Interpret.{IsReadAs}
use Rattle.tool_top.specs.Outside.{Outside}
use Rattle.tool_top.specs.Programs.{IsUnitIn}
use Rattle.tool_top.specs.Sessions.{Steps, streams_of, told_as}
use Rattle.tool_top.specs.Wanted.{Unread, contents, text_file, unit_files}
use Rattle.tool_top.specs.declared.outcome.Outcome.{Outcome}
use Rattle.tool_top.specs.declared.outcome.Outcome.TheVariants.{Done, Refused, Usage, Hazard, Undefined, BadRow, ReadFault, WriteFault, Missing, NoMemory}
use Rattle.tool_top.proofs.OneProgram.{program_has_no_fault, spelled_here}
use Rattle.tool_top.proofs.Programs.{OneUnit}
use Rattle.tool_top.proofs.SessionsRun.{OneMeaning, one_reading}
use Rattle.tool_top.proofs.Settled.{texts_missing, told}
use Rattle.compiled_runs.specs.Agreement.{Agrees, CompiledFilesRunAlike, EndsWithRows, called_by}

-- how a whole session ends by its stop
abbrev ending_by : {F : Type 0} → Option (SessionStop F) → Ending F
ending_by None = ending.Done
ending_by (Some stop) = stop.ending

-- what a session is told as that stops as rows do
abbrev rows_outcome : Option FaultAt → Outcome
rows_outcome None = Done
rows_outcome (Some at) = BadRow at.line at.fault

rows_told : {F : Type 0} (stopped : ℕ → F → Outcome) (fault : Option FaultAt) → told_as stopped (ending_by (row_stop fault)) ≡ rows_outcome fault
rows_told stopped None = refl
rows_told stopped (Some at) = refl

-- ---- the interpretation

-- the rows' fault by which a session stops whose answer ends with the rows
pub record EndedByRows (sessions : Sessions HazardKind) (whole : List ℕ) (a : Outcome) : Type 0 where
  pub fault : Option FaultAt
  pub stop : (sessions whole true).stop ≡ row_stop fault
  pub told : a ≡ rows_outcome fault

by_rows : (sessions : Sessions HazardKind) (before after : Outside) (whole : List ℕ) (a : Outcome) (e : Ending HazardKind) → before.left ≡ Some whole → EndsWithRows (told_as Hazard e)
    → a ≡ told_as Hazard e → RunsSession sessions (streams_of before) (streams_of after) e → EndedByRows sessions whole a
by_rows sessions before after whole a ending.Done left rows is runs =
    let t = told _ before.left whole left runs in record { fault = None; stop = t.2.1; told = is }
by_rows sessions before after whole a (ending.BadRow line fault) left rows is runs =
    let t = told _ before.left whole left runs in
    record {
      fault = Some (record { line = line; fault = fault; end = t.2.0.end });
      stop = t.2.1 ∙ ap (λ (e : Ending HazardKind). Some (record { ending = e; end = t.2.0.end })) t.2.2;
      told = is;
    }
by_rows sessions before after whole a (ending.Stopped step kind) left rows is runs = absurd rows
by_rows sessions before after whole a ending.ReadFault left rows is runs = absurd rows
by_rows sessions before after whole a ending.WriteFault left rows is runs = absurd rows
by_rows sessions before after whole a ending.NoMemory left rows is runs = absurd rows

no_stop : (spec : List ℕ) (read : Result (List (List ℕ)) Unread) (a : Outcome) → EndsWithRows a → StopsAt (interpret spec) read a → ⊥
no_stop spec read Done rows h = h
no_stop spec read (BadRow line fault) rows h = h
no_stop spec read (Refused r) rows h = rows
no_stop spec read Usage rows h = rows
no_stop spec read (Hazard step kind) rows h = rows
no_stop spec read (Undefined step kind) rows h = rows
no_stop spec read ReadFault rows h = rows
no_stop spec read WriteFault rows h = rows
no_stop spec read Missing rows h = rows
no_stop spec read NoMemory rows h = rows

-- the specification that was interpreted, and how
pub record InterpretedRows (spec : List ℕ) (files : Files) (whole : List ℕ) (a : Outcome) : Type 0 where
  pub s : SpecValue
  pub read : IsReadAs spec files s
  pub ended : EndedByRows (interpreted s) whole a

interpreted_rows : (spec : List ℕ) (files : Files) (before after : Outside) (whole : List ℕ) (a : Outcome) → before.left ≡ Some whole → EndsWithRows a
    → Steps (interpret spec) (IsReadAs spec) interpreted Hazard files before after a → InterpretedRows spec files whole a
interpreted_rows spec files before after whole a left rows (inl h) = absurd (no_stop spec (contents files (text_file spec)) a rows h.0)
interpreted_rows spec files before after whole a left rows (inr h) =
    let ends = h.2 in
    record {
      s = h.0;
      read = h.1;
      ended = by_rows (interpreted h.0) before after whole a ends.ending left (subst EndsWithRows ends.told rows) ends.told ends.runs;
    }

-- ---- the execution

-- what a settled execution of this program over a whole input answers and writes
pub record ExecutedWhole (u : CUnit) (whole : List ℕ) (before after : Outside) (b : Outcome) : Type 0 where
  pub told : b ≡ told_as Undefined (ending_by (executed u whole true).stop)
  pub wrote : Wrote before.taken after.taken (session_text (executed u whole true))

settled_end : (u : CUnit) (whole : List ℕ) (before after : Outside) (b : Outcome) (e : Ending UndefinedKind) → before.left ≡ Some whole → IsSettled (told_as Undefined e)
    → b ≡ told_as Undefined e → RunsSession (executed u) (streams_of before) (streams_of after) e → ExecutedWhole u whole before after b
settled_end u whole before after b ending.Done left settled is runs =
    let t = told _ before.left whole left runs in record { told = is ∙ ap (λ o. told_as Undefined (ending_by o)) (sym t.2.1); wrote = t.2.2 }
settled_end u whole before after b (ending.Stopped step kind) left settled is runs =
    let t = told _ before.left whole left runs in
    record { told = is ∙ ap (told_as Undefined) (sym t.2.2) ∙ ap (λ o. told_as Undefined (ending_by o)) (sym t.2.1); wrote = t.2.3 }
settled_end u whole before after b (ending.BadRow line fault) left settled is runs =
    let t = told _ before.left whole left runs in
    record { told = is ∙ ap (told_as Undefined) (sym t.2.2) ∙ ap (λ o. told_as Undefined (ending_by o)) (sym t.2.1); wrote = t.2.3 }
settled_end u whole before after b ending.ReadFault left settled is runs = absurd settled
settled_end u whole before after b ending.WriteFault left settled is runs = absurd settled
settled_end u whole before after b ending.NoMemory left settled is runs = absurd settled

never_stopped : OneUnit → (name : List ℕ) (made : Files) (header source : List ℕ) (u : CUnit) (s : SpecValue) → contents made (unit_files name) ≡ Ok (header ∷ source ∷ []) → Spells u header source
    → Simulates s name u → (b : Outcome) → IsSettled b → StopsAt (cexec name) (contents made (unit_files name)) b → ⊥
never_stopped one name made header source u s there spelled x (Refused a) settled h =
    program_has_no_fault one header source u a spelled x.well_formed (subst (λ read. IsRefusal (cexec name) read a) there h)
never_stopped one name made header source u s there spelled x Missing settled h = texts_missing (contents made (unit_files name)) (header ∷ source ∷ []) h.0 there h.1
never_stopped one name made header source u s there spelled x Done settled h = h
never_stopped one name made header source u s there spelled x Usage settled h = h
never_stopped one name made header source u s there spelled x (Hazard step kind) settled h = h
never_stopped one name made header source u s there spelled x (Undefined step kind) settled h = h
never_stopped one name made header source u s there spelled x (BadRow line fault) settled h = h
never_stopped one name made header source u s there spelled x ReadFault settled h = settled
never_stopped one name made header source u s there spelled x WriteFault settled h = settled
never_stopped one name made header source u s there spelled x NoMemory settled h = settled

executed_whole : OneUnit → (name : List ℕ) (made : Files) (header source : List ℕ) (u : CUnit) (s : SpecValue) → contents made (unit_files name) ≡ Ok (header ∷ source ∷ []) → Spells u header source
    → Simulates s name u → (whole : List ℕ) (before after : Outside) (b : Outcome) → before.left ≡ Some whole → IsSettled b
    → Steps (cexec name) (IsUnitIn name) executed Undefined made before after b → ExecutedWhole u whole before after b
executed_whole one name made header source u s there spelled x whole before after b left settled (inl h) = absurd (never_stopped one name made header source u s there spelled x b settled h.0)
executed_whole one name made header source u s there spelled x whole before after b left settled (inr h) =
    let ends = h.2 in
    let same : h.0 ≡ u = one h.0 u header source (spelled_here name made h.0 h.1 header source there) spelled in
    subst (λ v. ExecutedWhole v whole before after b) same
    (settled_end h.0 whole before after b ends.ending left (subst IsSettled ends.told settled) ends.told ends.runs)

-- ---- both

abbrev pub RunAsInterpreted : Type 0
RunAsInterpreted = (s : SpecValue) (name : List ℕ) (u : CUnit) → WellTyped s → HasNoCycle (trees s).defs → Simulates s name u
    → (text : List ℕ) (ended : Bool) (fault : Option FaultAt) → (interpreted s text ended).stop ≡ row_stop fault → Agrees s u text ended fault

-- the specification of a compiled text, read again
read_again : (spec name : List ℕ) (files : Files) (header source : List ℕ) (c : IsCompiled spec name files header source) → IsReadAs spec files c.program.means
read_again spec name files header source c = record { text = c.text; text_is = c.text_is; means = c.program.source_is }

pub run_alike : OneMeaning → OneUnit → RunAsInterpreted → CompiledFilesRunAlike
run_alike meaning one runs spec name files made header source left before after before' after' a b compiled there told_ told' rows settled i x = (
  ran.told ∙ ap (λ o. told_as Undefined (ending_by o)) agree.stop ∙ rows_told Undefined found.ended.fault ∙ sym found.ended.told,
  λ s read. ran.wrote ∙ ap (λ (text : List ℕ). wrote_after text) (ap text_of_steps agree.steps ∙ ap (λ (t : TreeSpec). session_text (called_by t left true)) (one_reading meaning spec files means s again read)),
)
  where
    means : SpecValue
    means = compiled.program.means

    again : IsReadAs spec files means
    again = read_again spec name files header source compiled

    found : InterpretedRows spec files left a
    found = interpreted_rows spec files before after left a told_.left_is rows
        (told (λ m. Steps (interpret spec) (IsReadAs spec) interpreted Hazard m before after a) before.files files told_.files_are i.answer)

    stops : (interpreted means left true).stop ≡ row_stop found.ended.fault
    stops = ap (λ (t : TreeSpec). (interpreted_by t left true).stop) (one_reading meaning spec files means found.s again found.read) ∙ found.ended.stop

    agree : Agrees means compiled.program.program.program left true found.ended.fault
    agree = runs means name compiled.program.program.program compiled.program.source_is.typed.typed compiled.program.source_is.sound.0 compiled.program.program.simulates left true found.ended.fault stops

    ran : ExecutedWhole compiled.program.program.program left before' after' b
    ran = executed_whole one name made header source compiled.program.program.program means there compiled.program.program.spelled compiled.program.program.simulates left before' after' b told'.left_is settled
        (told (λ m. Steps (cexec name) (IsUnitIn name) executed Undefined m before' after' b) before'.files made told'.files_are x.answer)

    wrote_after : List ℕ → Option (List ℕ)
    wrote_after text = after_known before'.taken text
