-- The machine before the first row, and what a session of it runs.
use Rattle.std.proofs.Common.{◌≡◌, List, [], Ok, refl, ◌∙◌, subst}
use Rattle.c99_tree.specs.declared.undefined.Undefined.{Undefined}
use Rattle.c99_tree.specs.declared.unit.Unit.{Unit as CUnit}
use Rattle.c99_tree.specs.Run.{first_statics, run_to}
use Rattle.c99_tree.specs.WellFormed.{IsWellFormed}
use Rattle.c99_tree.proofs.TypedRuns.{first_statics_are}
use Rattle.c_exec.specs.Machine.{Begins, Kept}
use Rattle.extern_rows.specs.declared.event.Piece.{Piece}
use Rattle.extern_rows.specs.declared.header.Leaf.{Leaf}
use Rattle.row_sessions.specs.Session.{RunsSession, Sessions, Streams, machine_sessions}
use Rattle.row_sessions.specs.declared.ending.Ending.{Ending}
use Rattle.c_runner.specs.Executed.{executed, last_step, unit_columns}
use Rattle.c_runner.specs.Lines.{Executes, shapes_of}
use Rattle.c_runner.proofs.RowsSoFar.{sessions_are}

no_steps : (u : CUnit) → run_to u [] 0 ≡ Ok (record { statics = first_statics u; called = [] })
unfolding run_to
no_steps u = refl

pub first_stands : (u : CUnit) (m : Kept) (shapes : List (List Piece)) → IsWellFormed u → Begins u (first_statics u) m → shapes ≡ shapes_of u
    → Executes u m shapes 0 []
first_stands u m shapes w b shaped = record {
  well_formed = w;
  shapes_are = shaped;
  unit_is = b.unit;
  ran = record { statics = first_statics u; called = [] };
  run_is = no_steps u;
  typed = first_statics_are u w;
  statics_are = b.statics;
  met_nothing = b.met;
  time_is = refl;
}

machine_is : (u t : CUnit) (leaves : List Leaf) → t ≡ u → leaves ≡ unit_columns u → machine_sessions (last_step t) leaves ≡ executed u
machine_is u t leaves same is =
    let sessions : CUnit → List Leaf → Sessions Undefined = λ x ls. machine_sessions (last_step x) ls in
    (λ j. sessions (same j) (is j)) ∙ (λ j text ended. sessions_are u text ended j)

pub machine_ran : (u t : CUnit) (leaves : List Leaf) (before after : Streams) (e : Ending Undefined) → t ≡ u → leaves ≡ unit_columns u
    → RunsSession (machine_sessions (last_step t) leaves) before after e → RunsSession (executed u) before after e
machine_ran u t leaves before after e same is h = subst (λ (ss : Sessions Undefined). RunsSession ss before after e) (machine_is u t leaves same is) h
