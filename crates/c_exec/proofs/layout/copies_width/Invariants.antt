use Rattle.std.proofs.Common.{◌≡◌, take}
use Rattle.std.specs.List.{sum_by}
use Rattle.c_exec.specs.Layout.{var_width}
use Rattle.c_exec.proofs.layout.copies_width.Given as goal

abbrev pub invariant-loop-v : goal.invariant-loop-v
invariant-loop-v l = l.at ≡ sum_by (var_width l.types) (take l.v-index l.vars)
