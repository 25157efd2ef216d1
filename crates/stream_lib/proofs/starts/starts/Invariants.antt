use Rattle.std.proofs.Common.{◌≡◌, ◌+◌, ◌≤◌, ℕ, length, drop}
use Rattle.stream_lib.specs.Renamed.{AreStarts, first_from}
use Rattle.stream_lib.specs.Room.{buffer_count}
use Rattle.stream_lib.proofs.starts.starts.Given as goal

abbrev pub invariant-loop-item : goal.invariant-loop-item
invariant-loop-item l = record {
  few : l.next + buffer_count (drop l.item-index l.source.libs) ≤ 266240;
  count : length l.starts.items ≡ l.item-index;
  starts : AreStarts l.source l.starts.items;
  rest : (k : ℕ) → first_from l.next (drop l.item-index l.source.libs) k ≡ first_from (length l.source.streams) l.source.libs (l.item-index + k);
}
