use Rattle.std.proofs.Common.{◌++◌, codes}
use Rattle.spec_text.specs.Form.{form_of_field}
use Rattle.spec_text.specs.Canonical.{text}
use Rattle.sm_print.proofs.Printing.{PrintsFirst}
use Rattle.spec_print.proofs.declarations.fields.Given as goal

abbrev pub invariant-loop-x : goal.invariant-loop-x
invariant-loop-x g l = PrintsFirst g.K.Sink.taken g.K.Sink.faults l.fn.out (λ x. codes " " ++ text (form_of_field x)) l.all l.x-index l.out
