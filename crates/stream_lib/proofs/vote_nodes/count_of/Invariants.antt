use Rattle.std.proofs.Common.{◌≡◌, ◌<◌, ◌≤◌, length, drop}
use Rattle.stream_core.specs.Lower.{count_from, count_of}
use Rattle.stream_lib.specs.Built.{AddsParts, Grows, tree_at, trees_at}
use Rattle.stream_lib.proofs.vote_nodes.count_of.Given as goal

abbrev pub invariant-loop-b : goal.invariant-loop-b
invariant-loop-b l = record {
  grows : Grows l.fn.spec l.spec;
  size : length l.fn.spec.nodes ≤ length l.spec.nodes;
  sum_there : l.sum < length l.spec.nodes;
  same : count_from l.s (tree_at l.fn.spec l.a) (tree_at l.spec l.sum) (trees_at l.fn.spec (drop l.b-index l.others)) ≡ count_of l.s (trees_at l.fn.spec l.votes) (tree_at l.fn.spec l.a);
  adds : AddsParts l.fn.spec l.spec (tree_at l.spec l.sum);
}
