use Rattle.std.proofs.Common.{◌++◌, codes}
use Rattle.spec_text.specs.Form.{form_of_expr}
use Rattle.spec_text.specs.Canonical.{text}
use Rattle.sm_print.proofs.Printing.{PrintsFirst}
use Rattle.spec_print.proofs.expressions.+printing.Given as goal

abbrev pub invariant-parts-loop-e : goal.invariant-parts-loop-e
invariant-parts-loop-e g l = PrintsFirst g.K.Sink.taken g.K.Sink.faults l.initial.out (λ x. codes " " ++ text (form_of_expr x)) l.all l.e-index l.out
