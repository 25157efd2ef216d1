use Rattle.stream_core.specs.Weights.{streams_weight}
use Rattle.stream_core.proofs.Capped.{Counting}
use Rattle.stream_core.proofs.weighing.weigh_streams.Given as goal

abbrev pub invariant-loop-x : goal.invariant-loop-x
invariant-loop-x l = Counting (streams_weight l.spec) l.streams l.x-index l.total l.most
