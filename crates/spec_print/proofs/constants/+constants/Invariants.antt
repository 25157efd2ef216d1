use Rattle.std.proofs.Common.{◌++◌, codes}
use Rattle.spec_text.specs.Form.{form_of_const}
use Rattle.spec_text.specs.Canonical.{text}
use Rattle.sm_print.proofs.Printing.{PrintsFirst}
use Rattle.spec_print.proofs.constants.+constants.Given as goal

abbrev pub invariant-spaced_constants-loop-value : goal.invariant-spaced_constants-loop-value
invariant-spaced_constants-loop-value g l = PrintsFirst g.K.Sink.taken g.K.Sink.faults l.initial.out (λ x. codes " " ++ text (form_of_const x)) l.all l.value-index l.out
