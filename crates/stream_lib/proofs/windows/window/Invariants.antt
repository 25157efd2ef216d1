use Rattle.std.proofs.Common.{◌≤◌, ◌∷◌, length}
use Rattle.stream_core.specs.Lower.{agos}
use Rattle.stream_lib.specs.Built.{MakesAll, tree_at}
use Rattle.stream_lib.proofs.windows.window.Given as goal

abbrev pub invariant-loop-i : goal.invariant-loop-i
invariant-loop-i l = record {
  made : MakesAll l.fn.spec l.spec l.ids.items (tree_at l.fn.spec l.fn.first ∷ agos l.b l.m l.from l.i);
  size : length l.fn.spec.nodes ≤ length l.spec.nodes;
}
