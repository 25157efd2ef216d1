use Rattle.std.proofs.Common.{◌≡◌, ◌-◌, map}
use Rattle.c99_tree.specs.Tree.{tree, exprs}
use Rattle.c99_read.specs.ExprAt.{expr_at, onto, others_at}
use Rattle.c99_read.proofs.statements.more_args.Given as goal

abbrev pub invariant-loop-i : goal.invariant-loop-i
invariant-loop-i l =
    onto (exprs (map tree l.fn.items)) (others_at (expr_at 8192) l.fuel l.bytes) ≡ onto (exprs (map tree l.all)) (others_at (expr_at 8192) (l.fuel - l.i) l.rest)
