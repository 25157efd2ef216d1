use Rattle.std.proofs.Common.{◌≡◌, ◌+◌, ◌≤◌, drop}
use Rattle.stream_core.specs.Weights.{triggers_weight}
use Rattle.stream_interp.specs.Seen.{now_moment}
use Rattle.stream_interp.proofs.EventsSoFar.{FiredSoFar}
use Rattle.stream_interp.proofs.steps.fire.Given as goal

abbrev pub invariant-loop-i : goal.invariant-loop-i
invariant-loop-i g l = record {
  so_far : FiredSoFar (now_moment l.sight.spec.now l.sight.rings.now l.sight.row.now) l.sight.spec.now l.sight.spec.now.triggers l.i l.fn.log.events l.log.events;
  words : l.log.words ≡ l.fn.log.words;
  marks : l.log.marks ≡ l.fn.log.marks;
  steps : l.steps + triggers_weight l.sight.spec.now (drop l.i l.sight.spec.now.triggers) ≤ l.fn.steps + triggers_weight l.sight.spec.now l.sight.spec.now.triggers;
}
