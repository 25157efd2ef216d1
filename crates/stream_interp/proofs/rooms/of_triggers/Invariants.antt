use Rattle.std.proofs.Common.{◌≡◌, drop, max}
use Rattle.stream_interp.specs.Room.{triggers_room}
use Rattle.stream_interp.proofs.rooms.of_triggers.Given as goal

abbrev pub invariant-loop-x : goal.invariant-loop-x
invariant-loop-x l = max l.most (triggers_room l.spec (drop l.x-index l.items)) ≡ triggers_room l.spec l.items
