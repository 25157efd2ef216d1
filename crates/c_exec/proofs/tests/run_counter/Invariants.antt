use Rattle.std.proofs.Common.{[]}
use Rattle.c99_tree.specs.Typed.{IsRow}
use Rattle.c_exec.proofs.tests.run_counter.Given as goal

abbrev pub invariant-loop-n : goal.invariant-loop-n
invariant-loop-n g l = IsRow l.machine.unit []
