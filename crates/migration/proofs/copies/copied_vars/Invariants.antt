use Rattle.std.proofs.Common.{◌≡◌, take}
use Rattle.migration.proofs.copies.copied_vars.Given as goal

abbrev pub invariant-loop-v : goal.invariant-loop-v
invariant-loop-v l = l.all ≡ take l.v-index l.vars
