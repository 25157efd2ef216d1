use Rattle.std.proofs.Common.{◌++◌, codes}
use Rattle.spec_text.specs.Form.{form_of_decl}
use Rattle.spec_text.specs.Canonical.{text}
use Rattle.sm_print.proofs.Printing.{PrintsFirst}
use Rattle.spec_print.proofs.declarations.decl_lines.Given as goal

abbrev pub invariant-loop-d : goal.invariant-loop-d
invariant-loop-d g l = PrintsFirst g.K.Sink.taken g.K.Sink.faults l.fn.out (λ d. codes "\n  " ++ text (form_of_decl d)) l.all l.d-index l.out
