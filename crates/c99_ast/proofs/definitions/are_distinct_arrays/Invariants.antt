use Rattle.std.proofs.Common.{◌≡◌, ◌&&◌, length}
use Rattle.std.specs.Prelude.{nat_eq}
use Rattle.c99_tree.specs.Words.{is_same}
use Rattle.c99_tree.specs.Lookup.{arrays_in}
use Rattle.c99_tree.specs.WellFormed.{are_distinct}
use Rattle.c99_ast.proofs.definitions.are_distinct_arrays.Given as goal

abbrev pub invariant-loop-left : goal.invariant-loop-left
invariant-loop-left l = are_distinct (λ a b. is_same a.0 b.0 && nat_eq a.1 b.1) (arrays_in l.left) ≡ are_distinct (λ a b. is_same a.0 b.0 && nat_eq a.1 b.1) (arrays_in l.types)

abbrev pub decreases-loop-left : goal.decreases-loop-left
decreases-loop-left l = length l.left
