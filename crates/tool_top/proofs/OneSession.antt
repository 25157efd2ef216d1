-- An interpretation has one outcome, and is done where its session has no stop.
use Rattle.std.specs.Prelude.{◌≡◌, ℕ, true, List, [], ◌∷◌, Option, Some, None, Result, Ok, Err, IfSome}
use Rattle.std.proofs.Common.{sym, subst, refl, ap, ◌∙◌, inl, inr, lit≤}
use Rattle.sm_io.specs.Files.{Files}
use Rattle.sm_io.specs.Fetch.{fetched}
use Rattle.stream_types.specs.declared.scalar.Hazard.{Hazard as HazardKind}
use Rattle.stream_core.specs.Value.{SpecValue}
use Rattle.stream_core.specs.Term.{TreeSpec}
use Rattle.extern_rows.specs.declared.header.Leaf.{Leaf}
use Rattle.extern_rows.specs.LeafFaults.{leaf_name}
use Rattle.row_sessions.specs.declared.ending.Ending.{Ending}
use Rattle.row_sessions.specs.declared.ending.Ending.TheVariants as ending
use Rattle.interpreter.specs.Interpreted.{interpreted, interpreted_by}
use Rattle.tool_top.specs.Answer.{IsInterpretAnswer, IsRefusal, Names}
use Rattle.tool_top.specs.Command.{CommandValue, interpret}
use Rattle.tool_top.specs.Interpret.{IsReadAs, NamesLeaves, RunsInterpret, subject_of}
use Rattle.tool_top.specs.Outside.{Outside}
use Rattle.tool_top.specs.Runs.{Completes}
use Rattle.tool_top.specs.Sessions.{Steps, told_as}
use Rattle.tool_top.specs.Wanted.{Unread, contents, text_file, text_limit}
use Rattle.tool_top.specs.declared.outcome.Outcome.{Outcome}
use Rattle.tool_top.specs.declared.outcome.Outcome.TheVariants.{Done, Refused, Usage, Hazard, Undefined, BadRow, ReadFault, WriteFault, Missing, NoMemory}
use Rattle.tool_top.specs.declared.outcome.Refusal.{Refusal}
use Rattle.tool_top.proofs.OneCompile.{OneFault, SoundTexts}
use Rattle.tool_top.proofs.SessionsRun.{OneMeaning, one_reading}
use Rattle.tool_top.proofs.Settled.{absent, one_file, texts_missing}
use Rattle.tool_top.proofs.Stepped.{IsStepping, stepping_completes}

refused_once : OneFault → (spec : List ℕ) (read : Result (List (List ℕ)) Unread) (a b : Refusal) → IsRefusal (interpret spec) read a → IsRefusal (interpret spec) read b → a ≡ b
refused_once one spec (Ok []) a b h k = absurd h
refused_once one spec (Ok (text ∷ [])) a b h k = one text a b h k
refused_once one spec (Ok (text ∷ other ∷ more)) a b h k = absurd h
refused_once one spec (Err unread) a b h k = h.1 ∙ sym k.1

not_refused : SoundTexts → (spec : List ℕ) (files : Files) (s : SpecValue) (a : Refusal) → IsReadAs spec files s → IsRefusal (interpret spec) (contents files (text_file spec)) a → ⊥
not_refused sound spec files s a r h = sound r.text s a r.means (subst (λ read. IsRefusal (interpret spec) read a) r.text_is h)

pub interpret_steps : SoundTexts → OneFault → OneMeaning → (spec : List ℕ) → IsStepping (interpret spec) (IsReadAs spec) interpreted
interpret_steps sound one same spec = record {
  once = λ files a b. refused_once one spec (contents files (text_file spec)) a b;
  fine = λ files s a. not_refused sound spec files s a;
  there = λ files s file r. texts_missing (contents files (text_file spec)) (r.text ∷ []) file r.text_is;
  same = λ files s t whole r q. ap (λ (x : TreeSpec). (interpreted_by x whole true).stop) (one_reading same spec files s t r q);
  quiet = λ before after h. h;
}

pub completes_interpret : SoundTexts → OneFault → OneMeaning → (row : CommandValue) (spec : List ℕ) (before after : Outside) (a : Outcome) → interpret spec ≡ row
    → RunsInterpret spec before after a → Completes row before after a
completes_interpret sound one same row spec before after a is h =
    subst (λ r. Completes r before after a) is
    (stepping_completes (interpret spec) (IsReadAs spec) interpreted Hazard IsInterpretAnswer (interpret_steps sound one same spec) before after a h)

-- ---- what the line speaks of

abbrev Interprets : List ℕ → Files → Outside → Outside → Outcome → Type 0
Interprets spec m before after a = Steps (interpret spec) (IsReadAs spec) interpreted Hazard m before after a

early_missing : (spec : List ℕ) (m : Files) (before after : Outside) → Interprets spec m before after Missing → (file : List ℕ) × (contents m (text_file spec) ≡ absent file)
early_missing spec m before after (inl h) = h.0
early_missing spec m before after (inr h) = absurd (not_told h.2.ending h.2.told)
  where
    not_told : (e : Ending HazardKind) → Missing ≡ told_as Hazard e → ⊥
    not_told ending.Done q = cc
    not_told (ending.Stopped step kind) q = cc
    not_told (ending.BadRow line fault) q = cc
    not_told ending.ReadFault q = cc
    not_told ending.WriteFault q = cc
    not_told ending.NoMemory q = cc

named : (spec : List ℕ) (m : Files) (before after : Outside) (a : Outcome) (leaves : List Leaf) → Interprets spec m before after a → NamesLeaves spec m a leaves
    → Names (interpret spec) (Some m) a (subject_of spec a leaves)
named spec m before after Missing leaves h n = let f = early_missing spec m before after h in one_file spec (fetched m spec text_limit) f.0 f.1
named spec m before after (BadRow line fault) leaves h n = λ text s is means. ap (λ (ls : List Leaf). leaf_name ls fault) (n s (record { text = text; text_is = is; means = means }))
named spec m before after Done leaves h n = tt
named spec m before after NoMemory leaves h n = tt
named spec m before after ReadFault leaves h n = tt
named spec m before after WriteFault leaves h n = tt
named spec m before after (Refused r) leaves h n = tt
named spec m before after Usage leaves h n = tt
named spec m before after (Hazard step kind) leaves h n = tt
named spec m before after (Undefined step kind) leaves h n = tt

named_unseen : (spec : List ℕ) (a : Outcome) (leaves : List Leaf) → Names (interpret spec) None a (subject_of spec a leaves)
named_unseen spec Missing leaves = (text_limit, (0, lit≤ tt, refl))
named_unseen spec (BadRow line fault) leaves = tt
named_unseen spec Done leaves = tt
named_unseen spec NoMemory leaves = tt
named_unseen spec ReadFault leaves = tt
named_unseen spec WriteFault leaves = tt
named_unseen spec (Refused r) leaves = tt
named_unseen spec Usage leaves = tt
named_unseen spec (Hazard step kind) leaves = tt
named_unseen spec (Undefined step kind) leaves = tt

names_all : (spec : List ℕ) (files : Option Files) (before after : Outside) (a : Outcome) (leaves : List Leaf) → IfSome files (λ m. Interprets spec m before after a)
    → IfSome files (λ m. NamesLeaves spec m a leaves) → Names (interpret spec) files a (subject_of spec a leaves)
names_all spec None before after a leaves h n = named_unseen spec a leaves
names_all spec (Some m) before after a leaves h n = named spec m before after a leaves h n

-- what a line speaks of, by the parts that are at hand
pub about_is : (a : Outcome) (about file file' : List ℕ) (leaves leaves' : List Leaf) → about ≡ subject_of file' a leaves' → file' ≡ file → leaves' ≡ leaves → about ≡ subject_of file a leaves
about_is a about file file' leaves leaves' is f l = is ∙ ap (λ x. subject_of x a leaves') f ∙ ap (subject_of file a) l

pub names_interpret : (row : CommandValue) (spec : List ℕ) (before after : Outside) (a : Outcome) (leaves : List Leaf) (about : List ℕ) → interpret spec ≡ row
    → RunsInterpret spec before after a → IfSome before.files (λ m. NamesLeaves spec m a leaves) → about ≡ subject_of spec a leaves → Names row before.files a about
names_interpret row spec before after a leaves about is h n same =
    subst (λ r. Names r before.files a about) is
    (subst (Names (interpret spec) before.files a) (sym same) (names_all spec before.files before after a leaves h.answer n))
