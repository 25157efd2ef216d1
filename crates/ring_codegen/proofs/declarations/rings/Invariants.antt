use Rattle.std.proofs.Common.{◌≡◌, map, take}
use Rattle.ring_codegen.specs.Items.{item_ring}
use Rattle.ring_codegen.proofs.declarations.rings.Given as goal

abbrev pub invariant-loop-x : goal.invariant-loop-x
invariant-loop-x l = l.rings ≡ map (item_ring l.spec) (take l.x-index l.streams)
