use Rattle.std.proofs.Common.{◌≡◌}
use Rattle.recursion_check.specs.Weighed.{all_steps}
use Rattle.recursion_check.proofs.weigh.all_places.Given as goal

abbrev pub invariant-loop-to : goal.invariant-loop-to
invariant-loop-to l = l.todo.items ≡ all_steps l.to
