use Rattle.std.proofs.Common.{◌≡◌, ◌++◌, ◌-◌, ◌+◌}
use Rattle.std.specs.List.{range_with_len}
use Rattle.demo.specs.Demonstration.{ahead}
use Rattle.demo.proofs.build.first_values.Given as goal

abbrev pub invariant-loop-n : goal.invariant-loop-n
invariant-loop-n l = l.words.items ++ range_with_len l.n (l.n-end - l.n) ≡ range_with_len l.fn.i (ahead l.fn.i + 1)
