use Rattle.std.proofs.Common.{◌≡◌, ◌+◌, ◌≤◌, min, drop}
use Rattle.recursion_check.specs.Counted.{externs_words}
use Rattle.recursion_check.proofs.sizes.extern_words.Given as goal

abbrev pub invariant-loop-x : goal.invariant-loop-x
invariant-loop-x l = record {
  bounded : l.total ≤ l.most;
  rest : min (l.total + externs_words l.types (drop l.x-index l.externs)) l.most ≡ min (externs_words l.types l.externs) l.most;
}
