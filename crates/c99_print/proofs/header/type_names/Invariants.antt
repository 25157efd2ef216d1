use Rattle.std.proofs.Common.{codes}
use Rattle.c99_tree.specs.Spelling.{type_text}
use Rattle.sm_print.proofs.Printing.{PrintsParted}
use Rattle.c99_print.proofs.header.type_names.Given as goal

abbrev pub invariant-loop-t : goal.invariant-loop-t
invariant-loop-t g l = PrintsParted g.K.Sink.taken g.K.Sink.faults l.fn.out (codes ", ") type_text l.types l.t-index l.before l.out
