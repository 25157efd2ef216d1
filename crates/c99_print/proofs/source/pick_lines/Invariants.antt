use Rattle.std.proofs.Common.{[]}
use Rattle.std.specs.Option.{option_map_or}
use Rattle.c99_tree.specs.Lookup.{named_array}
use Rattle.c99_tree.specs.Spelling.{pick_line}
use Rattle.sm_print.proofs.Printing.{PrintsFirst}
use Rattle.c99_print.proofs.source.pick_lines.Given as goal

abbrev pub invariant-loop-def : goal.invariant-loop-def
invariant-loop-def g l = PrintsFirst g.K.Sink.taken g.K.Sink.faults l.fn.out (λ d. option_map_or pick_line (named_array d) []) l.types l.def-index l.out
