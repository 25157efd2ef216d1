use Rattle.std.proofs.Common.{◌≡◌, ◌+◌, ◌≤◌, drop}
use Rattle.stream_core.specs.Weights.{streams_weight}
use Rattle.stream_interp.specs.Seen.{now_moment}
use Rattle.stream_interp.proofs.NextRows.{RowsSoFar}
use Rattle.stream_interp.proofs.steps.next_rows.Given as goal

abbrev pub invariant-loop-stream : goal.invariant-loop-stream
invariant-loop-stream g l = record {
  so_far : RowsSoFar (now_moment l.sight.spec.now l.sight.rings.now l.sight.row.now) l.sight.spec.now l.sight.spec.now.streams l.stream-index l.at l.rows;
  steps : l.steps + streams_weight l.sight.spec.now (drop l.stream-index l.sight.spec.now.streams) ≤ l.fn.steps + streams_weight l.sight.spec.now l.sight.spec.now.streams;
}
