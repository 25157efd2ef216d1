use Rattle.c99_tree.specs.Spelling.{type_line}
use Rattle.sm_print.proofs.Printing.{PrintsFirst}
use Rattle.c99_print.proofs.header.type_lines.Given as goal

abbrev pub invariant-loop-def : goal.invariant-loop-def
invariant-loop-def g l = PrintsFirst g.K.Sink.taken g.K.Sink.faults l.fn.out type_line l.types l.def-index l.out
