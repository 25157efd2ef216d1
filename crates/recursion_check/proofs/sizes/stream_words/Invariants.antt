use Rattle.std.proofs.Common.{◌≡◌, ◌+◌, ◌≤◌, min, drop}
use Rattle.recursion_check.specs.Counted.{streams_words}
use Rattle.recursion_check.proofs.sizes.stream_words.Given as goal

abbrev pub invariant-loop-x : goal.invariant-loop-x
invariant-loop-x l = record {
  bounded : l.total ≤ l.most;
  rest : min (l.total + streams_words (drop l.x-index l.streams)) l.most ≡ min (streams_words l.streams) l.most;
}
