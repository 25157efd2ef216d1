use Rattle.stream_core.specs.Weights.{triggers_weight}
use Rattle.stream_core.proofs.Capped.{Counting}
use Rattle.stream_core.proofs.weighing.weigh_triggers.Given as goal

abbrev pub invariant-loop-x : goal.invariant-loop-x
invariant-loop-x l = Counting (triggers_weight l.spec) l.triggers l.x-index l.total l.most
