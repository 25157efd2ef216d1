use Rattle.c99_tree.specs.Spelling.{extern_line}
use Rattle.sm_print.proofs.Printing.{PrintsFirst}
use Rattle.c99_print.proofs.header.extern_lines.Given as goal

abbrev pub invariant-loop-x : goal.invariant-loop-x
invariant-loop-x g l = PrintsFirst g.K.Sink.taken g.K.Sink.faults l.fn.out extern_line l.externs l.x-index l.out
