use Rattle.std.proofs.Common.{◌≡◌, ◌+◌, ◌*◌, ◌≤◌, ◌<◌, min, length, drop}
use Rattle.std.specs.List.{AllByRecursion}
use Rattle.stream_core.specs.Weights.{nodes_weight}
use Rattle.stream_core.proofs.NodeSizes.{size, node_size, all_sizes}
use Rattle.stream_core.proofs.weighing.+weighing.Given as goal

abbrev pub decreases-weigh : goal.decreases-weigh
decreases-weigh l = 4 * size l.spec.now l.id + 1

abbrev pub decreases-weigh_node : goal.decreases-weigh_node
decreases-weigh_node l = 4 * node_size l.spec.now l.node.now

abbrev pub decreases-weigh_all : goal.decreases-weigh_all
decreases-weigh_all l = 4 * all_sizes l.spec.now l.ids.now + 2

abbrev pub decreases-weigh_at : goal.decreases-weigh_at
decreases-weigh_at l = 4 * all_sizes l.spec.now l.ids.now + 2

abbrev pub decreases-weigh_majority : goal.decreases-weigh_majority
decreases-weigh_majority l = 4 * all_sizes l.spec.now l.votes.now + 3

abbrev pub decreases-weigh_agreed : goal.decreases-weigh_agreed
decreases-weigh_agreed l = 4 * all_sizes l.spec.now l.votes.now + 3

abbrev pub decreases-weigh_form : goal.decreases-weigh_form
decreases-weigh_form l = 4 * all_sizes l.spec.now l.item.now.args + 3

abbrev pub invariant-weigh_all-loop-id : goal.invariant-weigh_all-loop-id
invariant-weigh_all-loop-id l = record {
  bounded : l.total ≤ l.most;
  there : AllByRecursion (λ j. j < length l.spec.nodes) (drop l.id-index l.ids);
  smaller : all_sizes l.spec (drop l.id-index l.ids) ≤ all_sizes l.spec l.ids;
  rest : min (l.total + nodes_weight l.spec (drop l.id-index l.ids)) l.most ≡ min (nodes_weight l.spec l.ids) l.most;
}
