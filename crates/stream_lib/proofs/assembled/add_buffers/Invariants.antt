use Rattle.std.proofs.Common.{◌≡◌, ◌++◌, drop, ◌+◌, length}
use Rattle.stream_lib.proofs.assembled.add_buffers.Given as goal

abbrev pub invariant-loop-x : goal.invariant-loop-x
invariant-loop-x l = record {
  count : length l.spec.streams ≡ length l.fn.spec.streams + l.x-index;
  others : l.spec ≡ record l.fn.spec { streams = l.spec.streams };
  same : l.spec.streams ++ drop l.x-index l.xs ≡ l.fn.spec.streams ++ l.xs;
}
