use Rattle.std.proofs.Common.{◌≡◌, ◌++◌, take}
use Rattle.std.specs.List.{flat_map}
use Rattle.ring_codegen.specs.Items.{item_writes}
use Rattle.ring_codegen.proofs.statements.add_writes.Given as goal

abbrev pub invariant-loop-x : goal.invariant-loop-x
invariant-loop-x l = l.step ≡ l.initial.step ++ flat_map (item_writes l.spec) (take l.x-index l.streams)
