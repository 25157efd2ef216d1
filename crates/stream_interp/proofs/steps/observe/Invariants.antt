use Rattle.std.proofs.Common.{◌≡◌, ◌+◌, ◌≤◌, drop}
use Rattle.stream_core.specs.Weights.{observers_weight}
use Rattle.stream_interp.specs.Seen.{now_moment}
use Rattle.stream_interp.proofs.EventsSoFar.{ObservedSoFar}
use Rattle.stream_interp.proofs.steps.observe.Given as goal

abbrev pub invariant-loop-i : goal.invariant-loop-i
invariant-loop-i g l = record {
  so_far : ObservedSoFar (now_moment l.sight.spec.now l.sight.rings.now l.sight.row.now) l.sight.spec.now l.sight.spec.now.observers l.i l.fn.log.events l.log.events;
  words : l.log.words ≡ l.fn.log.words;
  marks : l.log.marks ≡ l.fn.log.marks;
  steps : l.steps + observers_weight l.sight.spec.now (drop l.i l.sight.spec.now.observers) ≤ l.fn.steps + observers_weight l.sight.spec.now l.sight.spec.now.observers;
}
