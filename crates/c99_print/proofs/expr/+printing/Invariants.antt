use Rattle.std.proofs.Common.{codes}
use Rattle.c99_tree.specs.Tree.{tree}
use Rattle.c99_tree.specs.Spelling.{text}
use Rattle.sm_print.proofs.Printing.{PrintsParted}
use Rattle.c99_print.proofs.expr.+printing.Given as goal

abbrev pub invariant-listed-loop-e : goal.invariant-listed-loop-e
invariant-listed-loop-e g l = PrintsParted g.K.Sink.taken g.K.Sink.faults l.initial.out (codes ", ") (λ e. text (tree e)) l.all l.e-index l.before l.out
