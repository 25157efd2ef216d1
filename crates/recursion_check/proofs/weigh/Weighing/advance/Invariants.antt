use Rattle.std.proofs.Common.{◌≡◌, length}
use Rattle.std.specs.List.{sum_by}
use Rattle.recursion_check.specs.Weighed.{IsWeighing, unmet}
use Rattle.recursion_check.proofs.weigh.Weighing.advance.Given as goal

abbrev pub invariant-loop-v : goal.invariant-loop-v
invariant-loop-v l = record {
  weighing : IsWeighing l.spec l.self;
  unmet : sum_by unmet l.self.stages.items ≡ sum_by unmet l.initial.self.stages.items;
}

abbrev pub decreases-loop-v : goal.decreases-loop-v
decreases-loop-v l = length l.self.todo.items
