use Rattle.std.proofs.Common.{◌≡◌, take}
use Rattle.std.specs.List.{sum_by}
use Rattle.c_exec.specs.Layout.{ring_width}
use Rattle.c_exec.proofs.machine.locals_width.Given as goal

abbrev pub invariant-loop-ring : goal.invariant-loop-ring
invariant-loop-ring l = l.total ≡ sum_by (ring_width l.unit.types) (take l.ring-index l.unit.rings)
