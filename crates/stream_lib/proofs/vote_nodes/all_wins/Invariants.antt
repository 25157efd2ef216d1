use Rattle.std.proofs.Common.{◌≤◌, length, take, map}
use Rattle.stream_core.specs.Lower.{wins}
use Rattle.stream_lib.specs.Built.{MakesAll, trees_at}
use Rattle.stream_lib.proofs.vote_nodes.all_wins.Given as goal

abbrev pub invariant-loop-a : goal.invariant-loop-a
invariant-loop-a l = record {
  made : MakesAll l.fn.spec l.spec l.tests.items (map (wins l.s (trees_at l.fn.spec l.votes)) (trees_at l.fn.spec (take l.a-index l.votes)));
  size : length l.fn.spec.nodes ≤ length l.spec.nodes;
}
