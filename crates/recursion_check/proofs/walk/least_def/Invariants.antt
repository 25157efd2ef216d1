use Rattle.std.proofs.Common.{◌≡◌, drop}
use Rattle.recursion_check.specs.Walked.{least_def}
use Rattle.recursion_check.proofs.walk.least_def.Given as goal

abbrev pub invariant-loop-v : goal.invariant-loop-v
invariant-loop-v l = least_def l.defs l.least (drop l.v-index l.group) ≡ least_def l.defs l.initial.least l.group
