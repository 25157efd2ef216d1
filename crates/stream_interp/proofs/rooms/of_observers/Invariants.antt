use Rattle.std.proofs.Common.{◌≡◌, drop, max}
use Rattle.stream_interp.specs.Room.{observers_room}
use Rattle.stream_interp.proofs.rooms.of_observers.Given as goal

abbrev pub invariant-loop-x : goal.invariant-loop-x
invariant-loop-x l = max l.most (observers_room l.spec (drop l.x-index l.items)) ≡ observers_room l.spec l.items
