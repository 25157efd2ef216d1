-- A command that makes the two files of a program has one outcome, and what it accepts is done.
use Rattle.std.specs.Prelude.{◌≡◌, ℕ, List, [], ◌∷◌, Option, Some, None, Result, Ok, Err, IfSome}
use Rattle.std.proofs.Common.{sym, subst, refl, ap, ◌∙◌}
use Rattle.sm_io.specs.Files.{Files}
use Rattle.sm_io.specs.declared.outside.FetchFault.{FetchFault}
use Rattle.sm_io.specs.declared.outside.FetchFault.TheVariants as fetch
use Rattle.tool_top.specs.Command.{CommandValue}
use Rattle.tool_top.specs.Outside.{Outside, ShelfFailed}
use Rattle.tool_top.specs.Wanted.{Unread, before_rest, contents, wanted}
use Rattle.tool_top.specs.Answer.{IsFinished, IsQuiet, IsRefusal, IsSettled, TellsShelfFaults}
use Rattle.tool_top.specs.Putting.{Puts, RunsPuts}
use Rattle.tool_top.specs.Runs.{IsAccepted, IsTold, PutsAccepted}
use Rattle.tool_top.specs.declared.outcome.Outcome.{Outcome}
use Rattle.tool_top.specs.declared.outcome.Outcome.TheVariants.{Done, Refused, Usage, Hazard, Undefined, BadRow, ReadFault, WriteFault, Missing, NoMemory}
use Rattle.tool_top.specs.declared.outcome.Refusal.{Refusal}

-- ---- what is read

-- the first file that can't be read is this one, which is absent
abbrev pub absent : List ℕ → Result (List (List ℕ)) Unread
absent file = Err (record { name = file; fault = fetch.Missing })

pub refused_missing : (row : CommandValue) (read : Result (List (List ℕ)) Unread) (file : List ℕ) (a : Refusal) → IsRefusal row read a → read ≡ absent file → ⊥
refused_missing row read file a h is = differ (subst (λ r. IsRefusal row r a) is h).0
  where
    differ : fetch.Missing ≡ fetch.TooLong → ⊥
    differ h = cc

pub texts_missing : (read : Result (List (List ℕ)) Unread) (texts : List (List ℕ)) (file : List ℕ) → read ≡ Ok texts → read ≡ absent file → ⊥
texts_missing read texts file a b = cc

unread : List ℕ → FetchFault → Result (List (List ℕ)) Unread
unread file fault = Err (record { name = file; fault = fault })

pub one_file : (spec : List ℕ) (read : Result (List ℕ) FetchFault) (file : List ℕ) → before_rest spec read (Ok []) ≡ absent file → before_rest spec read (Ok []) ≡ absent spec
unfolding unread
one_file spec (Ok text) file h = cc
one_file spec (Err fault) file h = ap (unread spec) (same fault h)
  where
    why : Result (List (List ℕ)) Unread → FetchFault
    why (Ok texts) = fetch.Missing
    why (Err u) = u.fault

    same : (f : FetchFault) → Err (record { name = spec; fault = f }) ≡ absent file → f ≡ fetch.Missing
    same f h = ap why h

pub told : {X : Type 0} (P : X → Type 0) (o : Option X) (x : X) → o ≡ Some x → IfSome o P → P x
told P o x is h = subst (λ q. IfSome q P) is h

-- ---- a settled run

data Ended (row : CommandValue) (Makes : Files → List ℕ → List ℕ → Type 0) (files : Files) : Outcome → Type 0 where
  done : (header source : List ℕ) → Makes files header source → Ended row Makes files Done
  refused : (refusal : Refusal) → IsRefusal row (contents files (wanted row)) refusal → Ended row Makes files (Refused refusal)
  missing : (file : List ℕ) → contents files (wanted row) ≡ absent file → Ended row Makes files Missing

ended : (row : CommandValue) (name : List ℕ) (Makes : Files → List ℕ → List ℕ → Type 0) (files : Files) (new : Option Files) (a : Outcome) → IsSettled a → Puts row name Makes files new a → Ended row Makes files a
ended row name Makes files new Done settled h = done h.0 h.1 h.2
ended row name Makes files new (Refused refusal) settled h = refused refusal h.0
ended row name Makes files new Missing settled h = missing h.0.0 h.0.1
ended row name Makes files new Usage settled h = absurd h.0
ended row name Makes files new (Hazard step kind) settled h = absurd h.0
ended row name Makes files new (Undefined step kind) settled h = absurd h.0
ended row name Makes files new (BadRow line fault) settled h = absurd h.0
ended row name Makes files new ReadFault settled h = absurd settled
ended row name Makes files new WriteFault settled h = absurd settled
ended row name Makes files new NoMemory settled h = absurd settled

-- What is known of a row of the command table that makes files.
pub record IsMaking (row : CommandValue) (Makes : Files → List ℕ → List ℕ → Type 0) : Type 0 where
  pub once : (files : Files) (a b : Refusal) → IsRefusal row (contents files (wanted row)) a → IsRefusal row (contents files (wanted row)) b → a ≡ b
  pub fine : (files : Files) (header source : List ℕ) (a : Refusal) → Makes files header source → IsRefusal row (contents files (wanted row)) a → ⊥
  pub there : (files : Files) (header source file : List ℕ) → Makes files header source → contents files (wanted row) ≡ absent file → ⊥
  pub quiet : (before after : Outside) → IsQuiet row before after → ¬ ShelfFailed before after

one_end : (row : CommandValue) (Makes : Files → List ℕ → List ℕ → Type 0) → IsMaking row Makes → (files : Files) (a b : Outcome) → Ended row Makes files a → Ended row Makes files b → a ≡ b
one_end row Makes known files a b (done h s c) (done h' s' c') = refl
one_end row Makes known files a b (done h s c) (refused r k) = absurd (known.fine files h s r c k)
one_end row Makes known files a b (done h s c) (missing file k) = absurd (known.there files h s file c k)
one_end row Makes known files a b (refused r k) (done h s c) = absurd (known.fine files h s r c k)
one_end row Makes known files a b (refused r k) (refused r' k') = ap Refused (known.once files r r' k k')
one_end row Makes known files a b (refused r k) (missing file k') = absurd (refused_missing row (contents files (wanted row)) file r k k')
one_end row Makes known files a b (missing file k) (done h s c) = absurd (known.there files h s file c k)
one_end row Makes known files a b (missing file k) (refused r k') = absurd (refused_missing row (contents files (wanted row)) file r k' k)
one_end row Makes known files a b (missing file k) (missing file' k') = refl

pub one_making : (row : CommandValue) (name : List ℕ) (Makes : Files → List ℕ → List ℕ → Type 0) → IsMaking row Makes → (files : Files) (left : List ℕ) (before before' after after' : Outside) (a b : Outcome)
    → IsTold before files left → IsTold before' files left → IsSettled a → IsSettled b → RunsPuts row name Makes before after a → RunsPuts row name Makes before' after' b → a ≡ b
one_making row name Makes known files left before before' after after' a b t t' sa sb h k =
    one_end row Makes known files a b
    (ended row name Makes files after.files a sa (told (λ m. Puts row name Makes m after.files a) before.files files t.files_are h.answer))
    (ended row name Makes files after'.files b sb (told (λ m. Puts row name Makes m after'.files b) before'.files files t'.files_are k.answer))

-- ---- what is accepted is done

accepted_refused : (row : CommandValue) (files : Files) (a : Refusal) → IsAccepted row files → IsRefusal row (contents files (wanted row)) a → ⊥
accepted_refused row files a accepted h = accepted.fine a (subst (λ read. IsRefusal row read a) accepted.texts_are h)

finished : (row : CommandValue) (name : List ℕ) (Makes : Files → List ℕ → List ℕ → Type 0) → IsMaking row Makes → (m : Files) (before after : Outside) (outcome : Outcome)
    → Puts row name Makes m after.files outcome → TellsShelfFaults before.shelf_faults after.shelf_faults outcome → IsQuiet row before after → IsAccepted row m → IsFinished outcome
finished row name Makes known m before after Done h faults quiet accepted = tt
finished row name Makes known m before after NoMemory h faults quiet accepted = tt
finished row name Makes known m before after ReadFault h faults quiet accepted = absurd (known.quiet before after quiet faults)
finished row name Makes known m before after WriteFault h faults quiet accepted = absurd (known.quiet before after quiet faults)
finished row name Makes known m before after Missing h faults quiet accepted =
    absurd (texts_missing (contents m (wanted row)) accepted.texts h.0.0 accepted.texts_are h.0.1)
finished row name Makes known m before after (Refused a) h faults quiet accepted = absurd (accepted_refused row m a accepted h.0)
finished row name Makes known m before after Usage h faults quiet accepted = absurd h.0
finished row name Makes known m before after (Hazard step kind) h faults quiet accepted = absurd h.0
finished row name Makes known m before after (Undefined step kind) h faults quiet accepted = absurd h.0
finished row name Makes known m before after (BadRow line fault) h faults quiet accepted = absurd h.0

pub making_completes : (row : CommandValue) (name : List ℕ) (Makes : Files → List ℕ → List ℕ → Type 0) → IsMaking row Makes → (before after : Outside) (outcome : Outcome)
    → IfSome before.files (λ m. Puts row name Makes m after.files outcome) → TellsShelfFaults before.shelf_faults after.shelf_faults outcome → PutsAccepted row before after outcome
making_completes row name Makes known before after outcome h faults = at before.files h
  where
    at : (o : Option Files) → IfSome o (λ m. Puts row name Makes m after.files outcome) → IfSome o (λ m. IsQuiet row before after → IsAccepted row m → IsFinished outcome)
    at None q = tt
    at (Some m) q = λ quiet accepted. finished row name Makes known m before after outcome q faults quiet accepted
