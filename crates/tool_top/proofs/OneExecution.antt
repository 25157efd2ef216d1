-- What is known of `cexec`.
use Rattle.std.specs.Prelude.{◌≡◌, ◌≤◌, ℕ, true, List, [], ◌∷◌, Option, Some, None, Result, Ok, Err, IfSome}
use Rattle.std.proofs.Common.{sym, subst, refl, ap, ◌∙◌}
use Rattle.sm_io.specs.Files.{Files}
use Rattle.c99_tree.specs.declared.undefined.Undefined.{Undefined as UndefinedKind}
use Rattle.c99_tree.specs.declared.unit.Unit.{Unit as CUnit}
use Rattle.extern_rows.specs.declared.header.Leaf.{Leaf}
use Rattle.extern_rows.specs.LeafFaults.{leaf_name}
use Rattle.row_sessions.specs.Session as session
use Rattle.row_sessions.specs.Session.{RunsSession}
use Rattle.row_sessions.specs.declared.ending.Ending.{Ending}
use Rattle.row_sessions.specs.declared.ending.Ending.TheVariants as ending
use Rattle.c_runner.specs.Executed.{executed, unit_columns}
use Rattle.tool_top.specs.Answer.{IsExecuteAnswer, IsRefusal, Names, NamesStop}
use Rattle.tool_top.specs.Command.{CommandValue, cexec}
use Rattle.tool_top.specs.Execute.{NamesColumns, RunsExecute}
use Rattle.tool_top.specs.Interpret.{subject_of}
use Rattle.tool_top.specs.Outside.{Outside}
use Rattle.tool_top.specs.Programs.{IsUnitIn}
use Rattle.tool_top.specs.Runs.{Completes}
use Rattle.tool_top.specs.Sessions.{streams_of, told_as}
use Rattle.tool_top.specs.Wanted.{Unread, contents, unit_files}
use Rattle.tool_top.specs.declared.outcome.Outcome.{Outcome}
use Rattle.tool_top.specs.declared.outcome.Outcome.TheVariants.{Done, Refused, Usage, Hazard, Undefined, BadRow, ReadFault, WriteFault, Missing, NoMemory}
use Rattle.tool_top.specs.declared.outcome.Refusal.{Refusal}
use Rattle.tool_top.proofs.Programs.{OneUnit}
use Rattle.tool_top.proofs.OneProgram.{one_program_fault, one_unit_in, program_has_no_fault}
use Rattle.tool_top.proofs.Settled.{texts_missing}
use Rattle.tool_top.proofs.Stepped.{IsStepping, IsTelling, stepping_completes, steps_ran}

-- ---- its session

told_possible : (e : Ending UndefinedKind) → IsExecuteAnswer (told_as Undefined e)
told_possible ending.Done = tt
told_possible (ending.Stopped step kind) = tt
told_possible (ending.BadRow line fault) = tt
told_possible ending.ReadFault = tt
told_possible ending.WriteFault = tt
told_possible ending.NoMemory = tt

execute_tells : IsTelling Undefined IsExecuteAnswer
execute_tells = record {
  possible = told_possible;
  faultless = λ before after n f h. h;
}

pub execution_ran : (name : List ℕ) (u : CUnit) (before after : Outside) (e : Ending UndefinedKind) (outcome : Outcome) → outcome ≡ told_as Undefined e
    → after.files ≡ before.files → after.shelf_faults ≡ before.shelf_faults → before.shelf_faults ≤ after.shelf_faults → IfSome before.files (λ m. IsUnitIn name m u)
    → RunsSession (executed u) (streams_of before) (streams_of after) e → session.TellsFaults (streams_of before) (streams_of after) e → RunsExecute name before after outcome
execution_ran name u before after e outcome is files steady later read runs faults =
    steps_ran (cexec name) (IsUnitIn name) executed Undefined IsExecuteAnswer execute_tells u before after e outcome is files steady later read runs faults

-- ---- one outcome

refused_once : (name : List ℕ) (read : Result (List (List ℕ)) Unread) (a b : Refusal) → IsRefusal (cexec name) read a → IsRefusal (cexec name) read b → a ≡ b
refused_once name (Ok []) a b h k = absurd h
refused_once name (Ok (header ∷ [])) a b h k = absurd h
refused_once name (Ok (header ∷ source ∷ [])) a b h k = one_program_fault header source a b h k
refused_once name (Ok (header ∷ source ∷ other ∷ more)) a b h k = absurd h
refused_once name (Err unread) a b h k = h.1 ∙ sym k.1

not_refused : OneUnit → (name : List ℕ) (files : Files) (u : CUnit) (a : Refusal) → IsUnitIn name files u → IsRefusal (cexec name) (contents files (unit_files name)) a → ⊥
not_refused one name files u a x h =
    program_has_no_fault one x.header x.source u a x.spelled x.well_formed (subst (λ read. IsRefusal (cexec name) read a) x.texts_are h)

pub execute_steps : OneUnit → (name : List ℕ) → IsStepping (cexec name) (IsUnitIn name) executed
execute_steps one name = record {
  once = λ files a b. refused_once name (contents files (unit_files name)) a b;
  fine = λ files u a. not_refused one name files u a;
  there = λ files u file x. texts_missing (contents files (unit_files name)) (x.header ∷ x.source ∷ []) file x.texts_are;
  same = λ files u v whole x y. ap (λ (w : CUnit). (executed w whole true).stop) (one_unit_in one name files u v x y);
  quiet = λ before after h. h;
}

pub completes_execute : OneUnit → (row : CommandValue) (name : List ℕ) (before after : Outside) (a : Outcome) → cexec name ≡ row → RunsExecute name before after a → Completes row before after a
completes_execute one row name before after a is h =
    subst (λ r. Completes r before after a) is
    (stepping_completes (cexec name) (IsUnitIn name) executed Undefined IsExecuteAnswer (execute_steps one name) before after a h)

-- ---- what the line speaks of

columns_named : OneUnit → (name : List ℕ) (m : Files) (u : CUnit) (outcome : Outcome) (leaves : List Leaf) → leaves ≡ unit_columns u → IsUnitIn name m u → NamesColumns name m outcome leaves
columns_named one name m u (BadRow line fault) leaves is x = λ v y. is ∙ ap unit_columns (one_unit_in one name m u v x y)
columns_named one name m u Done leaves is x = tt
columns_named one name m u (Refused a) leaves is x = tt
columns_named one name m u Usage leaves is x = tt
columns_named one name m u (Hazard step kind) leaves is x = tt
columns_named one name m u (Undefined step kind) leaves is x = tt
columns_named one name m u ReadFault leaves is x = tt
columns_named one name m u WriteFault leaves is x = tt
columns_named one name m u Missing leaves is x = tt
columns_named one name m u NoMemory leaves is x = tt

pub all_columns : OneUnit → (files : Option Files) (name : List ℕ) (u : CUnit) (outcome : Outcome) (leaves : List Leaf) → leaves ≡ unit_columns u
    → IfSome files (λ m. IsUnitIn name m u) → IfSome files (λ m. NamesColumns name m outcome leaves)
all_columns one None name u outcome leaves is x = tt
all_columns one (Some m) name u outcome leaves is x = columns_named one name m u outcome leaves is x

-- where a session ends the file is told nothing missing
pub told_names : (files : Option Files) (name file : List ℕ) (e : Ending UndefinedKind) (outcome : Outcome) → outcome ≡ told_as Undefined e → NamesStop (unit_files name) files outcome file
told_names files name file e outcome is = subst (λ o. NamesStop (unit_files name) files o file) (sym is) (by e)
  where
    by : (f : Ending UndefinedKind) → NamesStop (unit_files name) files (told_as Undefined f) file
    by ending.Done = tt
    by (ending.Stopped step kind) = tt
    by (ending.BadRow line fault) = tt
    by ending.ReadFault = tt
    by ending.WriteFault = tt
    by ending.NoMemory = tt

named : (name : List ℕ) (files : Option Files) (a : Outcome) (file : List ℕ) (leaves : List Leaf) → NamesStop (unit_files name) files a file
    → IfSome files (λ m. NamesColumns name m a leaves) → Names (cexec name) files a (subject_of file a leaves)
named name files Missing file leaves h n = h
named name (Some m) (BadRow line fault) file leaves h n = λ u x. ap (λ (ls : List Leaf). leaf_name ls fault) (n u x)
named name None (BadRow line fault) file leaves h n = tt
named name files Done file leaves h n = tt
named name files NoMemory file leaves h n = tt
named name files ReadFault file leaves h n = tt
named name files WriteFault file leaves h n = tt
named name files (Refused r) file leaves h n = tt
named name files Usage file leaves h n = tt
named name files (Hazard step kind) file leaves h n = tt
named name files (Undefined step kind) file leaves h n = tt

pub names_execute : (row : CommandValue) (name : List ℕ) (files : Option Files) (a : Outcome) (file : List ℕ) (leaves : List Leaf) (about : List ℕ) → cexec name ≡ row
    → NamesStop (unit_files name) files a file → IfSome files (λ m. NamesColumns name m a leaves) → about ≡ subject_of file a leaves → Names row files a about
names_execute row name files a file leaves about is h n same =
    subst (λ r. Names r files a about) is (subst (Names (cexec name) files a) (sym same) (named name files a file leaves h n))
