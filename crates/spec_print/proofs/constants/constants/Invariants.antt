use Rattle.std.proofs.Common.{codes}
use Rattle.spec_text.specs.Canonical.{text}
use Rattle.spec_text.specs.Form.{form_of_const}
use Rattle.sm_print.proofs.Printing.{PrintsParted}
use Rattle.spec_print.proofs.constants.constants.Given as goal

abbrev pub invariant-loop-value : goal.invariant-loop-value
invariant-loop-value g l = PrintsParted g.K.Sink.taken g.K.Sink.faults l.fn.out (codes " ") (λ x. text (form_of_const x)) l.all l.value-index l.before l.out
