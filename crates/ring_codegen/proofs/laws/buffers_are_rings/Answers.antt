use Rattle.std.proofs.Common.{refl}
use Rattle.std.specs.Fmt.{digits}
use Rattle.c99_tree.specs.Values.{shape_within}
use Rattle.ring_codegen.proofs.laws.buffers_are_rings.Goals as goal

pub returns : goal.returns
unfolding digits shape_within
returns c = record { history_rings = refl; history_lengths = refl; history_storage = refl; votes_storage = refl }
