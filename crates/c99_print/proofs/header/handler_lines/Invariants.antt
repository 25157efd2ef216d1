use Rattle.c99_tree.specs.Spelling.{handler_line}
use Rattle.sm_print.proofs.Printing.{PrintsFirst}
use Rattle.c99_print.proofs.header.handler_lines.Given as goal

abbrev pub invariant-loop-h : goal.invariant-loop-h
invariant-loop-h g l = PrintsFirst g.K.Sink.taken g.K.Sink.faults l.fn.out handler_line l.handlers l.h-index l.out
