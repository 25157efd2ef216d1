-- What a machine over a specification's monitor keeps for its lines.
use Rattle.std.specs.Prelude.{ℕ, ◌≡◌, List, [], ◌∷◌, length, map, None}
use Rattle.stream_core.specs.Value.{SpecValue}
use Rattle.stream_core.specs.Term.{trees}
use Rattle.stream_core.specs.Lower.{lowered_spec}
use Rattle.stream_core.specs.Meaning.{IsFirstFault}
use Rattle.stream_core.specs.WellTyped.{WellTyped}
use Rattle.stream_core.specs.declared.spec.TriggerItem.{TriggerItem}
use Rattle.stream_core.specs.declared.spec.ObserverItem.{ObserverItem}
use Rattle.stream_core.specs.declared.spec.Root.{Root}
use Rattle.extern_rows.specs.declared.event.Piece.{Piece}
use Rattle.extern_rows.specs.ValueTexts.{shape_of}
use Rattle.stream_interp.specs.Standing.{MonitorValue, StandsFor}

-- the parts that show a trigger's arguments, and an observer's value
abbrev pub trigger_shape : SpecValue → TriggerItem → List Piece
trigger_shape s x = shape_of s.types (map (λ (r : Root). r.ty) x.args)

abbrev pub observer_shape : SpecValue → ObserverItem → List Piece
observer_shape s x = shape_of s.types (x.root.ty ∷ [])

-- those of a specification's triggers and observers
pub record ShapesValue : Type 0 where
  pub triggers : List (List Piece)
  pub observers : List (List Piece)

abbrev pub shapes_of : SpecValue → ShapesValue
shapes_of s = record { triggers = map (trigger_shape s) s.triggers; observers = map (observer_shape s) s.observers }

-- A sound specification, with the shapes of its events and a monitor of what it is lowered to.
pub record IsMonitored (s p : SpecValue) (shapes : ShapesValue) : Type 0 where
  pub typed : WellTyped s
  pub sound : IsFirstFault s None
  pub lowered : trees p ≡ lowered_spec (trees s)
  pub shapes_are : shapes ≡ shapes_of s

-- Its monitor was stepped over these rows, whose number is the next step's.
pub record Interprets (s : SpecValue) (m : MonitorValue) (shapes : ShapesValue) (time : ℕ) (rows : List (List ℕ)) : Type 0 where
  pub monitored : IsMonitored s m.spec shapes
  pub stands : StandsFor m rows
  pub time_is : time ≡ length rows
