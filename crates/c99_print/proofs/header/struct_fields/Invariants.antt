use Rattle.c99_tree.specs.Spelling.{field_text}
use Rattle.sm_print.proofs.Printing.{PrintsFirst}
use Rattle.c99_print.proofs.header.struct_fields.Given as goal

abbrev pub invariant-loop-x : goal.invariant-loop-x
invariant-loop-x g l = PrintsFirst g.K.Sink.taken g.K.Sink.faults l.fn.out field_text l.fields l.x-index l.out
