use Rattle.std.proofs.Common.{◌≡◌, length, drop}
use Rattle.recursion_check.specs.Walked.{mark_all}
use Rattle.recursion_check.proofs.walk.mark_done.Given as goal

abbrev pub invariant-loop-v : goal.invariant-loop-v
invariant-loop-v l = record {
  rest : mark_all l.marks.items (drop l.v-index l.group) ≡ mark_all l.initial.marks.items l.group;
  size : length l.marks.items ≡ length l.initial.marks.items;
}
