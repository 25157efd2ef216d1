use Rattle.std.proofs.Common.{refl, subst}
use Rattle.stream_core.specs.StepParts.{HaveValues}
use Rattle.ring_codegen.proofs.OperatorsHold.{operator_types, operator_words}
use Rattle.ring_codegen.proofs.StepWhole.{steps, lines-exprs}
use Rattle.ring_codegen.proofs.step_laws.steps_make_the_calls.Goals as goal

pub returns : goal.returns
returns c = λ spec u m next s v has is now before words clean grows.
    steps spec u has is operator_types operator_words m next s m.row v.triggered v.nexts now refl before words clean.triggered
    (subst (λ es. HaveValues m es v.nexts) (lines-exprs spec has.libs) clean.nexts) grows
