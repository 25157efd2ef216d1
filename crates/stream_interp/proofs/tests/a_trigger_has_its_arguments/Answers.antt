use Rattle.std.proofs.Common.{◌≡◌, Ok, sym, ap, ◌∙◌, subst}
use Rattle.std.specs.Prelude.{IfOk}
use Rattle.stream_core.specs.Lower.{lowered_spec}
use Rattle.stream_core.specs.Term.{trees}
use Rattle.stream_core.specs.WellTyped.{WellTyped}
use Rattle.stream_interp.proofs.WorkedTyped.{two_typed}
use Rattle.stream_interp.proofs.tests.a_trigger_has_its_arguments.Goals as goal

pub sound-requires : goal.sound-requires
sound-requires g c = subst WellTyped (sym c.two_streams.ensures) two_typed

pub calls-requires-clause-spec : goal.calls-requires-clause-spec
calls-requires-clause-spec g c =
    let made = subst (λ r. IfOk r (λ p. trees p ≡ lowered_spec (trees c.in-Ok.checked))) c.expect-plain.ensures c.lower.ensures in
    made ∙ ap (λ s. lowered_spec (trees s)) (c.in-Ok.ensures.judged.0 ∙ c.two_streams.ensures)
