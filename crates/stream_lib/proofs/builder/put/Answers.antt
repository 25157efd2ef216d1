use Rattle.stream_lib.proofs.PlacedTrees.{placed_makes}
use Rattle.stream_lib.proofs.builder.put.Goals as goal

pub returns-clause-made : goal.returns-clause-made
returns-clause-made c = placed_makes _ _ _ _ c.nodes.ensures.list c.place.ensures.list c.in_ok-id.ensures.placed c.in_ok-id.ensures.once
