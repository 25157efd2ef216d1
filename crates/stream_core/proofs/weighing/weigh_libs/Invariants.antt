use Rattle.stream_core.specs.Weights.{libs_weight}
use Rattle.stream_core.proofs.Capped.{Counting}
use Rattle.stream_core.proofs.weighing.weigh_libs.Given as goal

abbrev pub invariant-loop-x : goal.invariant-loop-x
invariant-loop-x l = Counting (libs_weight l.spec) l.libs l.x-index l.total l.most
