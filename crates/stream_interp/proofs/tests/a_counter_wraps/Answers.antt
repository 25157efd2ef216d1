use Rattle.std.proofs.Common.{◌≡◌, Ok, sym, ap, ◌∙◌, subst}
use Rattle.std.specs.Prelude.{IfOk}
use Rattle.stream_core.specs.Lower.{lowered_spec}
use Rattle.stream_core.specs.Term.{trees}
use Rattle.stream_core.specs.WellTyped.{WellTyped}
use Rattle.stream_interp.proofs.WorkedTyped.{counter_typed}
use Rattle.stream_interp.proofs.tests.a_counter_wraps.Goals as goal

pub sound-requires : goal.sound-requires
sound-requires g c = subst WellTyped (sym c.counter.ensures) counter_typed

pub counts-requires-clause-spec : goal.counts-requires-clause-spec
counts-requires-clause-spec g c =
    let made = subst (λ r. IfOk r (λ p. trees p ≡ lowered_spec (trees c.in-Ok.checked))) c.expect-plain.ensures c.lower.ensures in
    made ∙ ap (λ s. lowered_spec (trees s)) (c.in-Ok.ensures.judged.0 ∙ c.counter.ensures)
