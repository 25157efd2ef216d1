use Rattle.stream_core.specs.Weights.{roots_weight}
use Rattle.stream_core.proofs.Capped.{Counting}
use Rattle.stream_core.proofs.weighing.weigh_roots.Given as goal

abbrev pub invariant-loop-root : goal.invariant-loop-root
invariant-loop-root l = Counting (roots_weight l.spec) l.roots l.root-index l.total l.most
