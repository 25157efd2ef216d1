use Rattle.stream_core.proofs.Cycles.{well_founded}
use Rattle.stream_core.proofs.laws.well_typed_specs_have_trees.Goals as goal

pub returns : goal.returns
returns c = λ s w acyclic. well_founded s w acyclic
