use Rattle.std.proofs.Common.{◌≡◌, ◌-◌, ◌<◌, ◌≤◌, length}
use Rattle.std.specs.Prelude.{slice_index_or}
use Rattle.stream_core.specs.Term.{bin}
use Rattle.stream_core.specs.Lower.{best}
use Rattle.stream_lib.specs.Built.{AddsParts, Grows, tree_at}
use Rattle.stream_lib.proofs.windows.best_of.Given as goal

abbrev pub invariant-loop-i : goal.invariant-loop-i
invariant-loop-i l = record {
  grows : Grows l.fn.spec l.spec;
  size : length l.fn.spec.nodes ≤ length l.spec.nodes;
  rest_there : l.rest < length l.spec.nodes;
  same : tree_at l.spec l.rest ≡ best (bin l.op l.s) (λ k. tree_at l.fn.spec (slice_index_or l.samples k 0)) (length l.samples) l.i (l.last - l.i);
  adds : AddsParts l.fn.spec l.spec (tree_at l.spec l.rest);
}
