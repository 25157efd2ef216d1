use Rattle.std.proofs.Common.{◌≡◌, ◌+◌, ◌*◌, ◌<◌, ◌≤◌, length, max, drop}
use Rattle.std.specs.List.{AllByRecursion}
use Rattle.stream_core.proofs.NodeSizes.{all_sizes, node_size, size}
use Rattle.stream_interp.specs.Room.{nodes_room}
use Rattle.stream_interp.proofs.rooms.+measuring.Given as goal

abbrev pub decreases-room_at : goal.decreases-room_at
decreases-room_at l = 4 * size l.spec.now l.id + 1

abbrev pub decreases-room_of : goal.decreases-room_of
decreases-room_of l = 4 * node_size l.spec.now l.node.now

abbrev pub decreases-greatest : goal.decreases-greatest
decreases-greatest l = 4 * all_sizes l.spec.now l.ids.now + 2

abbrev pub invariant-greatest-loop-id : goal.invariant-greatest-loop-id
invariant-greatest-loop-id l = record {
  there : AllByRecursion (λ j. j < length l.spec.nodes) (drop l.id-index l.ids);
  smaller : all_sizes l.spec (drop l.id-index l.ids) ≤ all_sizes l.spec l.ids;
  rest : max l.most (nodes_room l.spec (drop l.id-index l.ids)) ≡ nodes_room l.spec l.ids;
}
