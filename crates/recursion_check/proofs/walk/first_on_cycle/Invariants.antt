use Rattle.std.proofs.Common.{◌≡◌, ◌≢◌, ◌<◌, ℕ, [], Some}
use Rattle.std.specs.Prelude.{slice_get}
use Rattle.recursion_check.specs.declared.walk.Mark.TheVariants as mark
use Rattle.recursion_check.specs.Walked.{IsWalking}
use Rattle.recursion_check.proofs.walk.first_on_cycle.Given as goal

abbrev pub invariant-loop-d : goal.invariant-loop-d
invariant-loop-d l = record {
  walk : IsWalking l.spec l.walk;
  closed : l.walk.path.items ≡ [];
  entered : (c : ℕ) → c < l.d → slice_get l.walk.marks.items c ≢ Some mark.New;
}
