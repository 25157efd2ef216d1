use Rattle.std.proofs.Common.{◌≡◌, ◌++◌, ◌-◌}
use Rattle.c99_tree.specs.Words.{elem_type}
use Rattle.extern_rows.specs.Leaves.{of_elements, tails_at}
use Rattle.c_runner.specs.Read.{read_type}
use Rattle.c_runner.proofs.externs.element_leaves.Given as goal

abbrev pub invariant-loop-k : goal.invariant-loop-k
invariant-loop-k l = l.out.items ++ of_elements l.k (l.n - l.k) (tails_at l.table (read_type l.types (elem_type l.elem)))
    ≡ of_elements 0 l.n (tails_at l.table (read_type l.types (elem_type l.elem)))
