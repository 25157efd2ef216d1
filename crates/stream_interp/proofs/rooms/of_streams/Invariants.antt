use Rattle.std.proofs.Common.{◌≡◌, drop, max}
use Rattle.stream_interp.specs.Room.{streams_room}
use Rattle.stream_interp.proofs.rooms.of_streams.Given as goal

abbrev pub invariant-loop-x : goal.invariant-loop-x
invariant-loop-x l = max l.most (streams_room l.spec (drop l.x-index l.items)) ≡ streams_room l.spec l.items
