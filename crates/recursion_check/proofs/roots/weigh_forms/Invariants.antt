use Rattle.std.proofs.Common.{◌≡◌, ◌+◌, ◌≤◌, min, drop}
use Rattle.stream_core.specs.Weights.{libs_weight}
use Rattle.recursion_check.proofs.roots.weigh_forms.Given as goal

abbrev pub invariant-loop-k : goal.invariant-loop-k
invariant-loop-k l = record {
  bounded : l.total ≤ 262145;
  rest : min (l.total + libs_weight l.spec (drop l.k l.spec.libs)) 262145 ≡ min (libs_weight l.spec l.spec.libs) 262145;
}
