use Rattle.std.proofs.Common.{◌≡◌, ◌+◌, ◌-◌, ◌<◌, ◌≤◌, length}
use Rattle.stream_core.specs.Lower.{since_from}
use Rattle.stream_lib.specs.Built.{AddsParts, Grows, tree_at}
use Rattle.stream_lib.proofs.bounded.since_from.Given as goal

abbrev pub invariant-loop-more : goal.invariant-loop-more
invariant-loop-more l = record {
  grows : Grows l.fn.spec l.spec;
  size : length l.fn.spec.nodes ≤ length l.spec.nodes;
  rest_there : l.rest < length l.spec.nodes;
  same : tree_at l.spec l.rest ≡ since_from l.low l.p l.q l.m (1 + l.more) (l.n - l.more);
  adds : AddsParts l.fn.spec l.spec (tree_at l.spec l.rest);
}
