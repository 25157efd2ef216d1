use Rattle.stream_types.proofs.Twins.{no_twins}
use Rattle.stream_types.proofs.types.has_twins.Goals as goal

pub returns : goal.returns
returns c = (λ e. absurd (cc), λ w. absurd (no_twins _ _ c.loop-i-test.false c.loop-i.invariant w))
