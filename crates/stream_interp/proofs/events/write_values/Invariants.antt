use Rattle.std.proofs.Common.{◌+◌, ◌≤◌, drop}
use Rattle.stream_core.specs.Weights.{roots_weight}
use Rattle.stream_interp.specs.Seen.{now_moment}
use Rattle.stream_interp.proofs.EvaluatedRoots.{Written}
use Rattle.stream_interp.proofs.events.write_values.Given as goal

abbrev pub invariant-loop-root : goal.invariant-loop-root
invariant-loop-root g l = record {
  so_far : Written (now_moment l.sight.spec.now l.sight.rings.now l.sight.row.now) l.sight.spec.now l.roots l.root-index l.at l.end l.fn.words l.words;
  steps : l.steps + roots_weight l.sight.spec.now (drop l.root-index l.roots) ≤ l.fn.steps + roots_weight l.sight.spec.now l.roots;
}
