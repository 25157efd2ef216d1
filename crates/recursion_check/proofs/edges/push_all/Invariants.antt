use Rattle.std.proofs.Common.{◌≡◌, ◌+◌, ◌<◌, ◌^◌, ◌++◌, map, drop}
use Rattle.std.specs.List.{AllByRecursion}
use Rattle.recursion_check.specs.Walked.{edge}
use Rattle.recursion_check.proofs.edges.push_all.Given as goal

abbrev pub invariant-loop-id : goal.invariant-loop-id
invariant-loop-id l = record {
  rest : l.todo.items ++ map (edge l.from) (map (λ j. l.defs + j) (drop l.id-index l.ids)) ≡ l.initial.todo.items ++ map (edge l.from) (map (λ j. l.defs + j) l.ids);
  small : AllByRecursion (λ j. l.defs + j < 2 ^ 64) (drop l.id-index l.ids);
}
