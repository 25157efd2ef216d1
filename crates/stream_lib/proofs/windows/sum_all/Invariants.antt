use Rattle.std.proofs.Common.{◌≡◌, ◌<◌, ◌≤◌, length}
use Rattle.stream_core.specs.Lower.{agos, sum_all}
use Rattle.stream_lib.specs.Built.{AddsParts, Grows, tree_at}
use Rattle.stream_lib.proofs.windows.sum_all.Given as goal

abbrev pub invariant-loop-i : goal.invariant-loop-i
invariant-loop-i l = record {
  grows : Grows l.fn.spec l.spec;
  size : length l.fn.spec.nodes ≤ length l.spec.nodes;
  sum_there : l.sum < length l.spec.nodes;
  same : tree_at l.spec l.sum ≡ sum_all l.s (tree_at l.fn.spec l.fn.first) (agos l.b l.m 1 l.i);
  adds : AddsParts l.fn.spec l.spec (tree_at l.spec l.sum);
}
