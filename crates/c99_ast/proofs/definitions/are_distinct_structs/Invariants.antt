use Rattle.std.proofs.Common.{◌≡◌, map, length}
use Rattle.c99_tree.specs.Words.{is_same}
use Rattle.c99_tree.specs.Lookup.{structs_in}
use Rattle.c99_tree.specs.WellFormed.{are_distinct}
use Rattle.c99_ast.proofs.definitions.are_distinct_structs.Given as goal

abbrev pub invariant-loop-left : goal.invariant-loop-left
invariant-loop-left l = are_distinct is_same (map (λ s. s.0) (structs_in l.left)) ≡ are_distinct is_same (map (λ s. s.0) (structs_in l.types))

abbrev pub decreases-loop-left : goal.decreases-loop-left
decreases-loop-left l = length l.left
