use Rattle.std.proofs.Common.{◌≡◌, ◌+◌, ◌≤◌, min, drop}
use Rattle.stream_core.specs.Weights.{nodes_weight}
use Rattle.stream_core.specs.KnownWeights.{AreKnown}
use Rattle.stream_core.proofs.by_parts.known_sum.Given as goal

abbrev pub invariant-loop-id : goal.invariant-loop-id
invariant-loop-id l = record {
  bounded : l.total ≤ 262145;
  known : AreKnown l.spec l.weights (drop l.id-index l.ids);
  rest : min (l.total + nodes_weight l.spec (drop l.id-index l.ids)) 262145 ≡ min (nodes_weight l.spec l.ids) 262145;
}
