use Rattle.std.proofs.Common.{arith, subst}
use Rattle.recursion_check.specs.Weighed.{KeepsWeights, tos}
use Rattle.recursion_check.proofs.Settling.{popped, skip_keeps}
use Rattle.recursion_check.proofs.weigh.Weighing.skip.Goals as goal

pub returns-clause-weighing : goal.returns-clause-weighing
returns-clause-weighing c =
    let s = c.args.self.now in
    let e = popped s.todo.items c.pop.new.self.items c.pop.result s.todo.len c.args.v c.pop.ensures.items (omega (arith, s.todo.ok.0)) c.pop.ensures.value c.requires.last in
    skip_keeps c.args.spec.now s.stages.items s.weights.items (tos c.pop.new.self.items) c.args.v (subst (KeepsWeights c.args.spec.now s.stages.items s.weights.items) e c.requires.weighing) c.requires.is_known
