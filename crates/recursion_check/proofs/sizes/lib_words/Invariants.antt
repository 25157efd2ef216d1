use Rattle.std.proofs.Common.{◌≡◌, ◌+◌, ◌≤◌, min, drop}
use Rattle.recursion_check.specs.Counted.{libs_words}
use Rattle.recursion_check.proofs.sizes.lib_words.Given as goal

abbrev pub invariant-loop-x : goal.invariant-loop-x
invariant-loop-x l = record {
  bounded : l.total ≤ l.most;
  rest : min (l.total + libs_words (drop l.x-index l.libs)) l.most ≡ min (libs_words l.libs) l.most;
}
