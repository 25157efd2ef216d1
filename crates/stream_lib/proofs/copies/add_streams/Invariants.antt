use Rattle.std.proofs.Common.{◌≡◌, ◌++◌, ◌<◌, length, map, drop, ◌+◌}
use Rattle.std.specs.List.{AllByRecursion}
use Rattle.stream_core.specs.declared.spec.StreamItem.{StreamItem}
use Rattle.stream_lib.specs.Renamed.{new_of, renamed_stream}
use Rattle.stream_lib.proofs.copies.add_streams.Given as goal

abbrev pub invariant-loop-x : goal.invariant-loop-x
invariant-loop-x l = record {
  count : length l.spec.streams ≡ length l.fn.spec.streams + l.x-index;
  others : l.spec ≡ record l.fn.spec { streams = l.spec.streams };
  rest : AllByRecursion (λ (x : StreamItem). x.expr < length l.news) (drop l.x-index l.source.streams);
  same : l.spec.streams ++ map (renamed_stream (new_of l.news)) (drop l.x-index l.source.streams) ≡ l.fn.spec.streams ++ map (renamed_stream (new_of l.news)) l.source.streams;
}
