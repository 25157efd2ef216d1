use Rattle.std.proofs.Common.{◌≡◌, ◌+◌, length}
use Rattle.std.specs.List.{sum_by}
use Rattle.recursion_check.specs.Walked.{IsWalking, StaysOld, fresh}
use Rattle.recursion_check.proofs.walk.Walk.advance.Given as goal

abbrev pub invariant-loop-start : goal.invariant-loop-start
invariant-loop-start l = record {
  walk : IsWalking l.spec l.self;
  fresh : sum_by fresh l.self.marks.items ≡ sum_by fresh l.initial.self.marks.items;
  old : StaysOld l.initial.self.marks.items l.self.marks.items;
}

abbrev pub decreases-loop-start : goal.decreases-loop-start
decreases-loop-start l = length l.self.todo.items + length l.self.starts.items
