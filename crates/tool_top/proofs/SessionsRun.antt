-- How an interpretation ends.
use Rattle.std.specs.Prelude.{◌≡◌, ◌≤◌, ℕ, List, [], ◌∷◌, Option, Some, None, Result, Ok, Err, IfSome, IfErr}
use Rattle.std.proofs.Common.{sym, subst, ap, ◌∙◌}
use Rattle.sm_io.specs.Files.{Files}
use Rattle.stream_types.specs.declared.scalar.Hazard.{Hazard as HazardKind}
use Rattle.stream_core.specs.Value.{SpecValue}
use Rattle.stream_core.specs.Term.{trees}
use Rattle.extern_rows.specs.declared.header.Leaf.{Leaf}
use Rattle.row_sessions.specs.Session as session
use Rattle.row_sessions.specs.Session.{RunsSession}
use Rattle.row_sessions.specs.declared.ending.Ending.{Ending}
use Rattle.row_sessions.specs.declared.ending.Ending.TheVariants as ending
use Rattle.interpreter.specs.Interpreted.{columns_of, extern_columns, interpreted}
use Rattle.tool_top.specs.Analysis.{Analyses, Means, Stops, HasFirstFault}
use Rattle.tool_top.specs.Answer.{IsInterpretAnswer, IsRefusal, StopsAt}
use Rattle.tool_top.specs.Command.{compile, interpret}
use Rattle.tool_top.specs.Interpret.{IsReadAs, NamesLeaves, RunsInterpret}
use Rattle.tool_top.specs.Outside.{Outside}
use Rattle.tool_top.specs.Sessions.{streams_of, told_as}
use Rattle.tool_top.specs.Wanted.{Unread, contents, text_file}
use Rattle.tool_top.specs.declared.outcome.Outcome.{Outcome}
use Rattle.tool_top.specs.declared.outcome.Outcome.TheVariants.{Done, Refused, Usage, Hazard, Undefined, BadRow, ReadFault, WriteFault, Missing, NoMemory}
use Rattle.tool_top.specs.declared.outcome.Refusal.{Refusal}
use Rattle.tool_top.proofs.Stepped.{IsTelling, steps_ran}
use Rattle.tool_top.proofs.Stopping.{StopsFor}

-- ---- before the session

-- a text is refused for the same, whatever is done with it
same_refusal : (spec name : List ℕ) (read : Result (List (List ℕ)) Unread) (a : Refusal) → IsRefusal (compile spec name) read a → IsRefusal (interpret spec) read a
same_refusal spec name (Ok []) a h = absurd h
same_refusal spec name (Ok (text ∷ [])) a h = h
same_refusal spec name (Ok (text ∷ other ∷ more)) a h = absurd h
same_refusal spec name (Err unread) a h = h

same_stop : (spec name : List ℕ) (read : Result (List (List ℕ)) Unread) (stop : Outcome) → StopsAt (compile spec name) read stop → StopsAt (interpret spec) read stop
same_stop spec name read (Refused a) h = same_refusal spec name read a h
same_stop spec name read Missing h = h
same_stop spec name read ReadFault h = tt
same_stop spec name read NoMemory h = tt
same_stop spec name read Done h = absurd h
same_stop spec name read Usage h = absurd h
same_stop spec name read (Hazard step kind) h = absurd h
same_stop spec name read (Undefined step kind) h = absurd h
same_stop spec name read (BadRow line fault) h = absurd h
same_stop spec name read WriteFault h = absurd h

-- a fetch stops
pub fetch_stops : (files : Option Files) (spec : List ℕ) (stop : Outcome) → StopsFor files spec stop → IfSome files (λ m. StopsAt (interpret spec) (contents m (text_file spec)) stop)
fetch_stops None spec stop h = tt
fetch_stops (Some m) spec stop h = same_stop spec [] (contents m (text_file spec)) stop (h [])

text_stop : (spec text : List ℕ) (m : Files) (stop : Outcome) → contents m (text_file spec) ≡ Ok (text ∷ []) → Stops (HasFirstFault text) stop → StopsAt (interpret spec) (contents m (text_file spec)) stop
text_stop spec text m (Refused a) is h = subst (λ read. IsRefusal (interpret spec) read a) (sym is) h
text_stop spec text m NoMemory is h = tt
text_stop spec text m Done is h = absurd h
text_stop spec text m Usage is h = absurd h
text_stop spec text m (Hazard step kind) is h = absurd h
text_stop spec text m (Undefined step kind) is h = absurd h
text_stop spec text m (BadRow line fault) is h = absurd h
text_stop spec text m ReadFault is h = absurd h
text_stop spec text m WriteFault is h = absurd h
text_stop spec text m Missing is h = absurd h

-- an analysis stops
pub text_stops : (files : Option Files) (spec text : List ℕ) (read : Result SpecValue Outcome) → IfSome files (λ m. contents m (text_file spec) ≡ Ok (text ∷ [])) → Analyses text read
    → IfErr read (λ stop. IfSome files (λ m. StopsAt (interpret spec) (contents m (text_file spec)) stop))
text_stops files spec text (Ok s) is h = tt
text_stops None spec text (Err stop) is h = tt
text_stops (Some m) spec text (Err stop) is h = text_stop spec text m stop is h

-- ---- a session

abbrev pub OneMeaning : Type 0
OneMeaning = (text : List ℕ) (s t : SpecValue) → Means text s → Means text t → trees s ≡ trees t

same_text : (read : Result (List (List ℕ)) Unread) (text other : List ℕ) → read ≡ Ok (text ∷ []) → read ≡ Ok (other ∷ []) → text ≡ other
same_text read text other a b = cc

-- a file stands for one specification's trees
pub one_reading : OneMeaning → (spec : List ℕ) (files : Files) (s t : SpecValue) → IsReadAs spec files s → IsReadAs spec files t → trees s ≡ trees t
one_reading one spec files s t a b =
    one a.text s t a.means (subst (λ text. Means text t) (sym (same_text (contents files (text_file spec)) a.text b.text a.text_is b.text_is)) b.means)

told_possible : (e : Ending HazardKind) → IsInterpretAnswer (told_as Hazard e)
told_possible ending.Done = tt
told_possible (ending.Stopped step kind) = tt
told_possible (ending.BadRow line fault) = tt
told_possible ending.ReadFault = tt
told_possible ending.WriteFault = tt
told_possible ending.NoMemory = tt

interpret_tells : IsTelling Hazard IsInterpretAnswer
interpret_tells = record {
  possible = told_possible;
  faultless = λ before after n f h. h;
}

-- a session ran
pub ran : (spec : List ℕ) (s : SpecValue) (before after : Outside) (e : Ending HazardKind) (outcome : Outcome) → outcome ≡ told_as Hazard e
    → after.files ≡ before.files → after.shelf_faults ≡ before.shelf_faults → before.shelf_faults ≤ after.shelf_faults → IfSome before.files (λ m. IsReadAs spec m s)
    → RunsSession (interpreted s) (streams_of before) (streams_of after) e → session.TellsFaults (streams_of before) (streams_of after) e → RunsInterpret spec before after outcome
ran spec s before after e outcome is files steady later read runs faults =
    steps_ran (interpret spec) (IsReadAs spec) interpreted Hazard IsInterpretAnswer interpret_tells s before after e outcome is files steady later read runs faults

leaves_named : OneMeaning → (spec : List ℕ) (m : Files) (s : SpecValue) (outcome : Outcome) (leaves : List Leaf) → leaves ≡ extern_columns s → IsReadAs spec m s → NamesLeaves spec m outcome leaves
leaves_named one spec m s (BadRow line fault) leaves is read = λ t other. is ∙ ap columns_of (one_reading one spec m s t read other)
leaves_named one spec m s Done leaves is read = tt
leaves_named one spec m s (Refused a) leaves is read = tt
leaves_named one spec m s Usage leaves is read = tt
leaves_named one spec m s (Hazard step kind) leaves is read = tt
leaves_named one spec m s (Undefined step kind) leaves is read = tt
leaves_named one spec m s ReadFault leaves is read = tt
leaves_named one spec m s WriteFault leaves is read = tt
leaves_named one spec m s Missing leaves is read = tt
leaves_named one spec m s NoMemory leaves is read = tt

pub all_leaves : OneMeaning → (files : Option Files) (spec : List ℕ) (s : SpecValue) (outcome : Outcome) (leaves : List Leaf) → leaves ≡ extern_columns s
    → IfSome files (λ m. IsReadAs spec m s) → IfSome files (λ m. NamesLeaves spec m outcome leaves)
all_leaves one None spec s outcome leaves is read = tt
all_leaves one (Some m) spec s outcome leaves is read = leaves_named one spec m s outcome leaves is read
