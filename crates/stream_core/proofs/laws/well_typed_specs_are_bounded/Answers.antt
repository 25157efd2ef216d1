use Rattle.stream_core.proofs.Reach.{bounded}
use Rattle.stream_core.proofs.laws.well_typed_specs_are_bounded.Goals as goal

pub returns : goal.returns
returns c = λ s w. bounded s w
