use Rattle.std.proofs.Common.{◌≤◌, length}
use Rattle.std.specs.Prelude.{slice_index_or}
use Rattle.stream_core.specs.Term.{bin}
use Rattle.stream_core.specs.Lower.{tests}
use Rattle.stream_lib.specs.Built.{MakesAll, tree_at}
use Rattle.stream_lib.proofs.windows.tests_of.Given as goal

abbrev pub invariant-loop-j : goal.invariant-loop-j
invariant-loop-j l = record {
  made : MakesAll l.fn.spec l.spec l.ids.items (tests (bin l.op l.s) (λ k. tree_at l.fn.spec (slice_index_or l.samples k 0)) l.i 0 l.j);
  size : length l.fn.spec.nodes ≤ length l.spec.nodes;
}
