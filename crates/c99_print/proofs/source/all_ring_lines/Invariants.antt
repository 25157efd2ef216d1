use Rattle.c99_tree.specs.Spelling.{ring_lines}
use Rattle.sm_print.proofs.Printing.{PrintsFirst}
use Rattle.c99_print.proofs.source.all_ring_lines.Given as goal

abbrev pub invariant-loop-r : goal.invariant-loop-r
invariant-loop-r g l = PrintsFirst g.K.Sink.taken g.K.Sink.faults l.fn.out (ring_lines l.types) l.rings l.r-index l.out
