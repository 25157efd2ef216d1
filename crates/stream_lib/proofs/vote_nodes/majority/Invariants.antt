use Rattle.std.proofs.Common.{◌≡◌, ◌<◌, ◌≤◌, length, drop, get_or}
use Rattle.stream_core.specs.Lower.{majority_from}
use Rattle.stream_lib.specs.Built.{AddsParts, Grows, tree_at, trees_at}
use Rattle.stream_lib.proofs.vote_nodes.majority.Given as goal

abbrev pub invariant-loop-i : goal.invariant-loop-i
invariant-loop-i l = record {
  grows : Grows l.fn.spec l.spec;
  size : length l.fn.spec.nodes ≤ length l.spec.nodes;
  rest_there : l.rest < length l.spec.nodes;
  within : l.i ≤ length l.votes;
  same : tree_at l.spec l.rest ≡ majority_from l.s (trees_at l.fn.spec l.votes) (tree_at l.fn.spec (get_or l.votes 0 0)) (trees_at l.fn.spec (drop l.i l.votes));
  adds : AddsParts l.fn.spec l.spec (tree_at l.spec l.rest);
}
