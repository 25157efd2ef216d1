-- The machine before the first row, and what a session of it runs.
use Rattle.std.proofs.Common.{◌≡◌, List, [], None, refl, ap, ◌∙◌, subst}
use Rattle.stream_types.specs.declared.scalar.Hazard.{Hazard}
use Rattle.stream_core.specs.Value.{SpecValue}
use Rattle.stream_core.specs.Term.{trees}
use Rattle.stream_core.specs.Lower.{lowered_spec}
use Rattle.stream_core.specs.Meaning.{IsFirstFault}
use Rattle.stream_core.specs.WellTyped.{WellTyped}
use Rattle.extern_rows.specs.declared.header.Leaf.{Leaf}
use Rattle.row_sessions.specs.Session.{RunsSession, Sessions, Streams, machine_sessions}
use Rattle.row_sessions.specs.declared.ending.Ending.{Ending}
use Rattle.stream_interp.specs.Standing.{MonitorValue, StandsFor}
use Rattle.interpreter.specs.Interpreted.{extern_columns, interpreted, last_step}
use Rattle.interpreter.specs.Lines.{Interprets, ShapesValue, shapes_of}
use Rattle.interpreter.proofs.RowsSoFar.{sessions_are}

pub first_stands : (s p : SpecValue) (m : MonitorValue) (shapes : ShapesValue) → WellTyped s → IsFirstFault s None → trees p ≡ lowered_spec (trees s) → m.spec ≡ p → shapes ≡ shapes_of s → StandsFor m []
    → Interprets s m shapes 0 []
first_stands s p m shapes typed sound lowered is shaped stands = record {
  monitored = record { typed = typed; sound = sound; lowered = ap trees is ∙ lowered; shapes_are = shaped };
  stands = stands;
  time_is = refl;
}

machine_is : (s t : SpecValue) (leaves : List Leaf) → t ≡ s → leaves ≡ extern_columns s → machine_sessions (last_step t) leaves ≡ interpreted s
machine_is s t leaves same is =
    let sessions : SpecValue → List Leaf → Sessions Hazard = λ x ls. machine_sessions (last_step x) ls in
    (λ j. sessions (same j) (is j)) ∙ (λ j text ended. sessions_are s text ended j)

pub machine_ran : (s t : SpecValue) (leaves : List Leaf) (before after : Streams) (e : Ending Hazard) → t ≡ s → leaves ≡ extern_columns s
    → RunsSession (machine_sessions (last_step t) leaves) before after e → RunsSession (interpreted s) before after e
machine_ran s t leaves before after e same is h = subst (λ (ss : Sessions Hazard). RunsSession ss before after e) (machine_is s t leaves same is) h
