use Rattle.std.proofs.Common.{◌≡◌, ◌++◌, drop, ◌+◌, length}
use Rattle.stream_lib.proofs.copies.add_externs.Given as goal

abbrev pub invariant-loop-x : goal.invariant-loop-x
invariant-loop-x l = record {
  count : length l.spec.externs ≡ length l.fn.spec.externs + l.x-index;
  others : l.spec ≡ record l.fn.spec { externs = l.spec.externs };
  same : l.spec.externs ++ drop l.x-index l.source.externs ≡ l.fn.spec.externs ++ l.source.externs;
}
