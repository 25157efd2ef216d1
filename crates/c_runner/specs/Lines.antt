-- What a machine over a unit keeps for its lines.
use Rattle.std.specs.Prelude.{◌≡◌, ℕ, List, length, map, None, Ok}
use Rattle.c99_tree.specs.declared.types.CProto.{CProto}
use Rattle.c99_tree.specs.declared.unit.Unit.{Unit as CUnit}
use Rattle.c99_tree.specs.Run.{Ran, run_to}
use Rattle.c99_tree.specs.Typed.{IsStatics}
use Rattle.c99_tree.specs.WellFormed.{IsWellFormed}
use Rattle.c_exec.specs.Machine.{Kept, statics_of}
use Rattle.extern_rows.specs.declared.event.Piece.{Piece}
use Rattle.extern_rows.specs.ValueTexts.{shape_of}
use Rattle.c_runner.specs.Read.{read_type, read_types}

-- the parts that show a handler's arguments
abbrev pub handler_shape : CUnit → CProto → List Piece
handler_shape u h = shape_of (read_types u.types) (map (read_type u.types) h.params)

-- those of each handler, in order
abbrev pub shapes_of : CUnit → List (List Piece)
shapes_of u = map (handler_shape u) u.handlers

-- Its machine was stepped over these rows, whose number is the next step's, and met nothing undefined. The statics are then
-- as the unit declares them.
pub record Executes (u : CUnit) (m : Kept) (shapes : List (List Piece)) (time : ℕ) (rows : List (List ℕ)) : Type 0 where
  pub well_formed : IsWellFormed u
  pub shapes_are : shapes ≡ shapes_of u
  pub unit_is : m.unit ≡ u
  pub ran : Ran
  pub run_is : run_to u rows (length rows) ≡ Ok ran
  pub typed : IsStatics u ran.statics
  pub statics_are : statics_of m ≡ ran.statics
  pub met_nothing : m.met ≡ None
  pub time_is : time ≡ length rows
