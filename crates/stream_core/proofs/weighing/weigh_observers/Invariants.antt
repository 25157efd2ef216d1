use Rattle.stream_core.specs.Weights.{observers_weight}
use Rattle.stream_core.proofs.Capped.{Counting}
use Rattle.stream_core.proofs.weighing.weigh_observers.Given as goal

abbrev pub invariant-loop-x : goal.invariant-loop-x
invariant-loop-x l = Counting (observers_weight l.spec) l.observers l.x-index l.total l.most
