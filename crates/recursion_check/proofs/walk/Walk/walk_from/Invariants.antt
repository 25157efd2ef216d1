use Rattle.std.proofs.Common.{◌≢◌, Some}
use Rattle.std.specs.Prelude.{slice_get}
use Rattle.std.specs.List.{sum_by}
use Rattle.recursion_check.specs.declared.walk.Mark.TheVariants as mark
use Rattle.recursion_check.specs.Walked.{IsWalking, StaysOld, fresh}
use Rattle.recursion_check.proofs.walk.Walk.walk_from.Given as goal

abbrev pub invariant-loop-w : goal.invariant-loop-w
invariant-loop-w l = record {
  walk : IsWalking l.spec l.self;
  old : StaysOld l.fn.self.marks.items l.self.marks.items;
  entered : slice_get l.self.marks.items l.v ≢ Some mark.New;
}

abbrev pub decreases-loop-w : goal.decreases-loop-w
decreases-loop-w l = sum_by fresh l.self.marks.items
