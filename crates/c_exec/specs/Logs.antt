-- The words and the rooms of what the code keeps.
use Rattle.std.specs.Prelude.{ℕ, List}
use Rattle.c_exec.specs.declared.calls.Log.{Log}
use Rattle.c_exec.specs.PileOf.{PileOf}
use Rattle.c_exec.specs.Going.{Memory, Rooms}

abbrev pub memory_of : List ℕ → List ℕ → Log → Memory
memory_of statics locals log =
    record { statics = statics; locals = locals; handlers = log.handlers.items; ends = log.ends.items; words = log.words.items }

abbrev pub rooms_of : PileOf → Log → Rooms
rooms_of pile log = record { pile = pile.room; handlers = log.handlers.room; ends = log.ends.room; words = log.words.room }
