use Rattle.std.specs.List.{sum_by}
use Rattle.recursion_check.specs.Weighed.{IsWeighing, unmet}
use Rattle.recursion_check.proofs.weigh.node_weights.Given as goal

abbrev pub invariant-loop-v : goal.invariant-loop-v
invariant-loop-v l = IsWeighing l.spec l.weighing

abbrev pub decreases-loop-v : goal.decreases-loop-v
decreases-loop-v l = sum_by unmet l.weighing.stages.items
