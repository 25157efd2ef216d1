use Rattle.std.proofs.Common.{◌+◌, ◌≤◌, drop, map}
use Rattle.stream_lib.specs.Made.{MakesStreams, stream_tree}
use Rattle.stream_lib.specs.Renamed.{AreLowered}
use Rattle.stream_lib.specs.Room.{buffer_count}
use Rattle.stream_lib.proofs.MadeStreams.{AreBuffers}
use Rattle.stream_lib.proofs.buffers.all_buffers.Given as goal

abbrev pub invariant-loop-item : goal.invariant-loop-item
invariant-loop-item l = record {
  number : l.number + buffer_count (drop l.item-index l.source.libs) ≤ 262145;
  b : l.b + buffer_count (drop l.item-index l.source.libs) ≤ 266240;
  made : MakesStreams l.fn.spec l.spec l.all.items (map (stream_tree l.spec) l.all.items);
  lowered : AreLowered l.source l.spec l.news;
  same : AreBuffers l.source l.spec l.all.items l.item-index l.number l.b;
}
