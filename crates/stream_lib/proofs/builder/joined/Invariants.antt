use Rattle.std.proofs.Common.{◌≡◌, ◌<◌, ◌≤◌, length, drop}
use Rattle.stream_lib.specs.Built.{AddsParts, Grows, joined, tree_at, trees_at}
use Rattle.stream_lib.proofs.builder.joined.Given as goal

abbrev pub invariant-loop-i : goal.invariant-loop-i
invariant-loop-i l = record {
  grows : Grows l.fn.spec l.spec;
  size : length l.fn.spec.nodes ≤ length l.spec.nodes;
  rest_there : l.rest < length l.spec.nodes;
  within : l.i < length l.ids;
  same : tree_at l.spec l.rest ≡ joined l.all (trees_at l.fn.spec (drop l.i l.ids));
  adds : AddsParts l.fn.spec l.spec (tree_at l.spec l.rest);
}
