use Rattle.c99_tree.specs.Tree.{statement}
use Rattle.c99_tree.specs.Spelling.{statement_line}
use Rattle.sm_print.proofs.Printing.{PrintsFirst}
use Rattle.c99_print.proofs.statements.statements.Given as goal

abbrev pub invariant-loop-s : goal.invariant-loop-s
invariant-loop-s g l = PrintsFirst g.K.Sink.taken g.K.Sink.faults l.fn.out (λ x. statement_line l.unit (statement x)) l.step l.s-index l.out
