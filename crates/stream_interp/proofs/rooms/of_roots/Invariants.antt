use Rattle.std.proofs.Common.{◌≡◌, drop, max}
use Rattle.stream_interp.specs.Room.{roots_room}
use Rattle.stream_interp.proofs.rooms.of_roots.Given as goal

abbrev pub invariant-loop-root : goal.invariant-loop-root
invariant-loop-root l = max l.most (roots_room l.spec (drop l.root-index l.items)) ≡ roots_room l.spec l.items
