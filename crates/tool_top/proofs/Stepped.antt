-- A command that steps over the rows of the input has one outcome, and is done where its session has no stop.
use Rattle.std.specs.Prelude.{◌≡◌, ◌≤◌, ◌⊎◌, ℕ, true, List, Option, Some, None, Result, Ok, Err, IfSome}
use Rattle.std.proofs.Common.{sym, subst, refl, ap, ◌∙◌, inl, inr, arith}
use Rattle.sm_io.specs.Files.{Files}
use Rattle.row_sessions.specs.Session as session
use Rattle.row_sessions.specs.Session.{RunsSession, Sessions, SessionStop}
use Rattle.row_sessions.specs.declared.ending.Ending.{Ending}
use Rattle.row_sessions.specs.declared.ending.Ending.TheVariants as ending
use Rattle.tool_top.specs.Answer.{IsFinished, IsQuiet, IsRefusal, IsSettled, StopsAt, TellsFaults}
use Rattle.tool_top.specs.Command.{CommandValue}
use Rattle.tool_top.specs.Outside.{Outside, CountsStand, InputFailed, NothingFailed, OutFailed, ShelfFailed}
use Rattle.tool_top.specs.Runs.{IsTold, StepsAccepted}
use Rattle.tool_top.specs.Sessions.{RunsSteps, Steps, streams_of, told_as}
use Rattle.tool_top.specs.Wanted.{contents, wanted}
use Rattle.tool_top.specs.declared.outcome.Outcome.{Outcome}
use Rattle.tool_top.specs.declared.outcome.Outcome.TheVariants.{Done, Refused, Usage, Hazard, Undefined, BadRow, ReadFault, WriteFault, Missing, NoMemory}
use Rattle.tool_top.specs.declared.outcome.Refusal.{Refusal}
use Rattle.tool_top.proofs.Settled.{absent, refused_missing, told}

-- none of the failures came that a session may tell
abbrev pub NoneFailed : Outside → Outside → Type 0
NoneFailed before after = (¬ ShelfFailed before after) × (¬ InputFailed before after) × (¬ OutFailed before after)

-- the causes of an outcome of a session
abbrev pub Tells : Outside → Outside → Outcome → Type 0
Tells before after outcome = TellsFaults (ShelfFailed before after ⊎ InputFailed before after) (OutFailed before after) before after outcome

-- What is known of a row of the command table that steps over rows.
pub record IsStepping {X F : Type 0} (row : CommandValue) (Holds : Files → X → Type 0) (sessions : X → Sessions F) : Type 0 where
  pub once : (files : Files) (a b : Refusal) → IsRefusal row (contents files (wanted row)) a → IsRefusal row (contents files (wanted row)) b → a ≡ b
  pub fine : (files : Files) (x : X) (a : Refusal) → Holds files x → IsRefusal row (contents files (wanted row)) a → ⊥
  pub there : (files : Files) (x : X) (file : List ℕ) → Holds files x → contents files (wanted row) ≡ absent file → ⊥
  pub same : (files : Files) (x y : X) (whole : List ℕ) → Holds files x → Holds files y → (sessions x whole true).stop ≡ (sessions y whole true).stop
  pub quiet : (before after : Outside) → IsQuiet row before after → NoneFailed before after

-- What is known of how its stops are told.
pub record IsTelling {F : Type 0} (stopped : ℕ → F → Outcome) (IsAnswer : Outcome → Type 0) : Type 0 where
  pub possible : (e : Ending F) → IsAnswer (told_as stopped e)
  pub faultless : (before after : Outside) (n : ℕ) (f : F) → NothingFailed before after → Tells before after (stopped n f)

-- ---- a session ran

told_faults : {F : Type 0} (stopped : ℕ → F → Outcome) (IsAnswer : Outcome → Type 0) → IsTelling stopped IsAnswer → (before after : Outside) (e : Ending F)
    → after.shelf_faults ≡ before.shelf_faults → session.TellsFaults (streams_of before) (streams_of after) e → Tells before after (told_as stopped e)
told_faults stopped IsAnswer known before after ending.Done same h = record { shelf = same; input = h.0; out = h.1 }
told_faults stopped IsAnswer known before after (ending.Stopped step fault) same h = known.faultless before after step fault (record { shelf = same; input = h.0; out = h.1 })
told_faults stopped IsAnswer known before after (ending.BadRow line fault) same h = record { shelf = same; input = h.0; out = h.1 }
told_faults stopped IsAnswer known before after ending.ReadFault same h = inr h.0.1
told_faults stopped IsAnswer known before after ending.WriteFault same h = h.1.1
told_faults stopped IsAnswer known before after ending.NoMemory same h = record { shelf = same; input = h.0; out = h.1 }

told_counts : {F : Type 0} (before after : Outside) (e : Ending F) → before.shelf_faults ≤ after.shelf_faults
    → session.TellsFaults (streams_of before) (streams_of after) e → CountsStand before after
told_counts before after ending.Done later h = record { shelf = later; input = omega (arith, h.0); out = omega (arith, h.1) }
told_counts before after (ending.Stopped step fault) later h = record { shelf = later; input = omega (arith, h.0); out = omega (arith, h.1) }
told_counts before after (ending.BadRow line fault) later h = record { shelf = later; input = omega (arith, h.0); out = omega (arith, h.1) }
told_counts before after ending.ReadFault later h = record { shelf = later; input = h.0.0; out = omega (arith, h.1) }
told_counts before after ending.WriteFault later h = record { shelf = later; input = omega (arith, h.0); out = h.1.0 }
told_counts before after ending.NoMemory later h = record { shelf = later; input = omega (arith, h.0); out = omega (arith, h.1) }

ends_as : {X F : Type 0} (row : CommandValue) (Holds : Files → X → Type 0) (sessions : X → Sessions F) (stopped : ℕ → F → Outcome) (files : Option Files) (x : X) (before after : Outside) (e : Ending F)
    → IfSome files (λ m. Holds m x) → RunsSession (sessions x) (streams_of before) (streams_of after) e
    → IfSome files (λ m. Steps row Holds sessions stopped m before after (told_as stopped e))
ends_as row Holds sessions stopped None x before after e holds runs = tt
ends_as row Holds sessions stopped (Some m) x before after e holds runs = inr (x, holds, record { ending = e; told = refl; runs = runs })

pub steps_ran : {X F : Type 0} (row : CommandValue) (Holds : Files → X → Type 0) (sessions : X → Sessions F) (stopped : ℕ → F → Outcome) (IsAnswer : Outcome → Type 0) → IsTelling stopped IsAnswer
    → (x : X) (before after : Outside) (e : Ending F) (outcome : Outcome) → outcome ≡ told_as stopped e → after.files ≡ before.files → after.shelf_faults ≡ before.shelf_faults
    → before.shelf_faults ≤ after.shelf_faults → IfSome before.files (λ m. Holds m x) → RunsSession (sessions x) (streams_of before) (streams_of after) e
    → session.TellsFaults (streams_of before) (streams_of after) e → RunsSteps row Holds sessions stopped IsAnswer before after outcome
steps_ran row Holds sessions stopped IsAnswer known x before after e outcome is files steady later holds runs faults =
    subst (RunsSteps row Holds sessions stopped IsAnswer before after) (sym is)
    (record {
      possible = known.possible e;
      answer = ends_as row Holds sessions stopped before.files x before after e holds runs;
      faults = told_faults stopped IsAnswer known before after e steady faults;
      counts = told_counts before after e later faults;
      files = files;
    })

-- ---- a settled run

-- how a whole session ends by its stop
abbrev ending_by : {F : Type 0} → Option (SessionStop F) → Ending F
ending_by None = ending.Done
ending_by (Some stop) = stop.ending

data Settled {X F : Type 0} (row : CommandValue) (Holds : Files → X → Type 0) (sessions : X → Sessions F) (stopped : ℕ → F → Outcome) (files : Files) (left : List ℕ) : Outcome → Type 0 where
  refused : (refusal : Refusal) → IsRefusal row (contents files (wanted row)) refusal → Settled row Holds sessions stopped files left (Refused refusal)
  missing : (file : List ℕ) → contents files (wanted row) ≡ absent file → Settled row Holds sessions stopped files left Missing
  ended : (x : X) (e : Ending F) → Holds files x → ending_by (sessions x left true).stop ≡ e → Settled row Holds sessions stopped files left (told_as stopped e)

-- the stop of a session over an input that is told
stop_told : {F : Type 0} (stopped : ℕ → F → Outcome) (sessions : Sessions F) (before after : Outside) (left : List ℕ) (e : Ending F) → before.left ≡ Some left → IsSettled (told_as stopped e)
    → RunsSession sessions (streams_of before) (streams_of after) e → ending_by (sessions left true).stop ≡ e
stop_told stopped sessions before after left ending.Done is settled h =
    let t = told _ before.left left is h in ap ending_by t.2.1
stop_told stopped sessions before after left (ending.Stopped step fault) is settled h =
    let t = told _ before.left left is h in ap ending_by t.2.1 ∙ t.2.2
stop_told stopped sessions before after left (ending.BadRow line fault) is settled h =
    let t = told _ before.left left is h in ap ending_by t.2.1 ∙ t.2.2
stop_told stopped sessions before after left ending.ReadFault is settled h = absurd settled
stop_told stopped sessions before after left ending.WriteFault is settled h = absurd settled
stop_told stopped sessions before after left ending.NoMemory is settled h = absurd settled

stopped_so : {X F : Type 0} (row : CommandValue) (Holds : Files → X → Type 0) (sessions : X → Sessions F) (stopped : ℕ → F → Outcome) (files : Files) (left : List ℕ) (a : Outcome)
    → IsSettled a → StopsAt row (contents files (wanted row)) a → Settled row Holds sessions stopped files left a
stopped_so row Holds sessions stopped files left (Refused refusal) settled h = refused refusal h
stopped_so row Holds sessions stopped files left Missing settled h = missing h.0 h.1
stopped_so row Holds sessions stopped files left Done settled h = absurd h
stopped_so row Holds sessions stopped files left Usage settled h = absurd h
stopped_so row Holds sessions stopped files left (Hazard step kind) settled h = absurd h
stopped_so row Holds sessions stopped files left (Undefined step kind) settled h = absurd h
stopped_so row Holds sessions stopped files left (BadRow line fault) settled h = absurd h
stopped_so row Holds sessions stopped files left ReadFault settled h = absurd settled
stopped_so row Holds sessions stopped files left WriteFault settled h = absurd settled
stopped_so row Holds sessions stopped files left NoMemory settled h = absurd settled

settles : {X F : Type 0} (row : CommandValue) (Holds : Files → X → Type 0) (sessions : X → Sessions F) (stopped : ℕ → F → Outcome) (files : Files) (left : List ℕ) (before after : Outside) (a : Outcome)
    → before.left ≡ Some left → IsSettled a → Steps row Holds sessions stopped files before after a → Settled row Holds sessions stopped files left a
settles row Holds sessions stopped files left before after a is settled (inl h) = stopped_so row Holds sessions stopped files left a settled h.0
settles row Holds sessions stopped files left before after a is settled (inr h) =
    let ends = h.2 in
    subst (Settled row Holds sessions stopped files left) (sym ends.told)
    (ended h.0 ends.ending h.1 (stop_told stopped (sessions h.0) before after left ends.ending is (subst IsSettled ends.told settled) ends.runs))

one_end : {X F : Type 0} (row : CommandValue) (Holds : Files → X → Type 0) (sessions : X → Sessions F) (stopped : ℕ → F → Outcome) → IsStepping row Holds sessions → (files : Files) (left : List ℕ) (a b : Outcome)
    → Settled row Holds sessions stopped files left a → Settled row Holds sessions stopped files left b → a ≡ b
one_end row Holds sessions stopped known files left a b (refused r k) (refused q h) = ap Refused (known.once files r q k h)
one_end row Holds sessions stopped known files left a b (refused r k) (missing file h) = absurd (refused_missing row (contents files (wanted row)) file r k h)
one_end row Holds sessions stopped known files left a b (refused r k) (ended x e holds h) = absurd (known.fine files x r holds k)
one_end row Holds sessions stopped known files left a b (missing file k) (refused q h) = absurd (refused_missing row (contents files (wanted row)) file q h k)
one_end row Holds sessions stopped known files left a b (missing file k) (missing other h) = refl
one_end row Holds sessions stopped known files left a b (missing file k) (ended x e holds h) = absurd (known.there files x file holds k)
one_end row Holds sessions stopped known files left a b (ended x e holds k) (refused q h) = absurd (known.fine files x q holds h)
one_end row Holds sessions stopped known files left a b (ended x e holds k) (missing other h) = absurd (known.there files x other holds h)
one_end row Holds sessions stopped known files left a b (ended x e holds k) (ended y f other h) =
    ap (told_as stopped) (sym k ∙ ap ending_by (known.same files x y left holds other) ∙ h)

pub one_stepping : {X F : Type 0} (row : CommandValue) (Holds : Files → X → Type 0) (sessions : X → Sessions F) (stopped : ℕ → F → Outcome) (IsAnswer : Outcome → Type 0) → IsStepping row Holds sessions
    → (files : Files) (left : List ℕ) (before before' after after' : Outside) (a b : Outcome) → IsTold before files left → IsTold before' files left → IsSettled a → IsSettled b
    → RunsSteps row Holds sessions stopped IsAnswer before after a → RunsSteps row Holds sessions stopped IsAnswer before' after' b → a ≡ b
one_stepping row Holds sessions stopped IsAnswer known files left before before' after after' a b t u sa sb h k =
    one_end row Holds sessions stopped known files left a b
    (settles row Holds sessions stopped files left before after a t.left_is sa (told (λ m. Steps row Holds sessions stopped m before after a) before.files files t.files_are h.answer))
    (settles row Holds sessions stopped files left before' after' b u.left_is sb (told (λ m. Steps row Holds sessions stopped m before' after' b) before'.files files u.files_are k.answer))

-- ---- completeness

-- what is known of a session that has no stop
abbrev Finishes : {F : Type 0} → Sessions F → Option (List ℕ) → Outcome → Type 0
Finishes sessions left outcome = IfSome left (λ whole. (sessions whole true).stop ≡ None → IsFinished outcome)

in_any : {F : Type 0} (sessions : Sessions F) (left : Option (List ℕ)) (outcome : Outcome) → IsFinished outcome → Finishes sessions left outcome
in_any sessions None outcome h = tt
in_any sessions (Some whole) outcome h = λ none. h

stopped_early : {X F : Type 0} (row : CommandValue) (Holds : Files → X → Type 0) (sessions : X → Sessions F) → IsStepping row Holds sessions → (m : Files) (before after : Outside) (x : X) (a : Outcome)
    → NoneFailed before after → Holds m x → Tells before after a → StopsAt row (contents m (wanted row)) a → ⊥ ⊎ IsFinished a
stopped_early row Holds sessions known m before after x (Refused a) quiet holds faults h = inl (known.fine m x a holds h)
stopped_early row Holds sessions known m before after x Missing quiet holds faults h = inl (known.there m x h.0 holds h.1)
stopped_early row Holds sessions known m before after x ReadFault quiet holds (inl f) h = inl (quiet.0 f)
stopped_early row Holds sessions known m before after x ReadFault quiet holds (inr f) h = inl (quiet.1 f)
stopped_early row Holds sessions known m before after x NoMemory quiet holds faults h = inr tt
stopped_early row Holds sessions known m before after x Done quiet holds faults h = absurd h
stopped_early row Holds sessions known m before after x Usage quiet holds faults h = absurd h
stopped_early row Holds sessions known m before after x (Hazard step kind) quiet holds faults h = absurd h
stopped_early row Holds sessions known m before after x (Undefined step kind) quiet holds faults h = absurd h
stopped_early row Holds sessions known m before after x (BadRow line fault) quiet holds faults h = absurd h
stopped_early row Holds sessions known m before after x WriteFault quiet holds faults h = absurd h

finish_by : {F : Type 0} (sessions : Sessions F) (left : Option (List ℕ)) (a : Outcome) → ⊥ ⊎ IsFinished a → Finishes sessions left a
finish_by sessions left a (inl h) = absurd h
finish_by sessions left a (inr h) = in_any sessions left a h

some_none : {X : Type 0} (o : Option X) (x : X) → o ≡ Some x → o ≡ None → ⊥
some_none o x h k = cc

-- the session that ran ends, and another of the same files has no stop
session_finishes : {F : Type 0} (stopped : ℕ → F → Outcome) (ran other : Sessions F) (before after : Outside) (e : Ending F) (left : Option (List ℕ)) → before.left ≡ left
    → NoneFailed before after → ((whole : List ℕ) → (ran whole true).stop ≡ (other whole true).stop) → Tells before after (told_as stopped e)
    → RunsSession ran (streams_of before) (streams_of after) e → Finishes other left (told_as stopped e)
session_finishes stopped ran other before after e None is quiet same faults runs = tt
session_finishes stopped ran other before after ending.Done (Some whole) is quiet same faults runs = λ none. tt
session_finishes stopped ran other before after ending.NoMemory (Some whole) is quiet same faults runs = λ none. tt
session_finishes stopped ran other before after (ending.Stopped step fault) (Some whole) is quiet same faults runs =
    λ none. let h = told _ before.left whole is runs in absurd (some_none (ran whole true).stop h.2.0 h.2.1 (same whole ∙ none))
session_finishes stopped ran other before after (ending.BadRow line fault) (Some whole) is quiet same faults runs =
    λ none. let h = told _ before.left whole is runs in absurd (some_none (ran whole true).stop h.2.0 h.2.1 (same whole ∙ none))
session_finishes stopped ran other before after ending.ReadFault (Some whole) is quiet same (inl f) runs = λ none. absurd (quiet.0 f)
session_finishes stopped ran other before after ending.ReadFault (Some whole) is quiet same (inr f) runs = λ none. absurd (quiet.1 f)
session_finishes stopped ran other before after ending.WriteFault (Some whole) is quiet same f runs = λ none. absurd (quiet.2 f)

answer_finishes : {X F : Type 0} (row : CommandValue) (Holds : Files → X → Type 0) (sessions : X → Sessions F) (stopped : ℕ → F → Outcome) → IsStepping row Holds sessions → (m : Files) (before after : Outside) (a : Outcome)
    → NoneFailed before after → Tells before after a → Steps row Holds sessions stopped m before after a → (y : X) → Holds m y → Finishes (sessions y) before.left a
answer_finishes row Holds sessions stopped known m before after a quiet faults (inl h) y holds =
    finish_by (sessions y) before.left a (stopped_early row Holds sessions known m before after y a quiet holds faults h.0)
answer_finishes row Holds sessions stopped known m before after a quiet faults (inr h) y holds =
    let ends = h.2 in
    subst (Finishes (sessions y) before.left) (sym ends.told)
    (session_finishes stopped (sessions h.0) (sessions y) before after ends.ending before.left refl quiet (λ whole. known.same m h.0 y whole h.1 holds)
    (subst (Tells before after) ends.told faults) ends.runs)

pub stepping_completes : {X F : Type 0} (row : CommandValue) (Holds : Files → X → Type 0) (sessions : X → Sessions F) (stopped : ℕ → F → Outcome) (IsAnswer : Outcome → Type 0) → IsStepping row Holds sessions
    → (before after : Outside) (a : Outcome) → RunsSteps row Holds sessions stopped IsAnswer before after a → StepsAccepted row Holds sessions before after a
stepping_completes {X} row Holds sessions stopped IsAnswer known before after a h = at before.files h.answer
  where
    at : (o : Option Files) → IfSome o (λ m. Steps row Holds sessions stopped m before after a)
        → IfSome o (λ m. IsQuiet row before after → (x : X) → Holds m x → IfSome before.left (λ whole. (sessions x whole true).stop ≡ None → IsFinished a))
    at None q = tt
    at (Some m) q = λ quiet y holds. answer_finishes row Holds sessions stopped known m before after a (known.quiet before after quiet) h.faults q y holds
