use Rattle.std.proofs.Common.{◌≡◌, ◌+◌, ◌-◌, [], List, ℕ, Some, length}
use Rattle.c99_tree.specs.Values.{Value, first_values}
use Rattle.sm_print.specs.Prints.{Prints}
use Rattle.c99_print.proofs.Giving.{ValuesLeft}
use Rattle.c99_print.proofs.constants.first_values.Given as goal

abbrev pub invariant-loop-i : goal.invariant-loop-i
invariant-loop-i g l = (vs : List Value) → first_values l.types l.r ≡ Some vs → (done : List ℕ) × Prints g.K.Sink.taken g.K.Sink.faults l.fn.out done l.out × ValuesLeft (l.r.len - l.i) (length l.types + 1) l.types l.r.ty l.left l.before done (vs, [])
