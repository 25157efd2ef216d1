use Rattle.std.proofs.Common.{◌≡◌, ◌++◌, map, take}
use Rattle.ring_codegen.specs.Items.{item_next}
use Rattle.ring_codegen.proofs.statements.add_nexts.Given as goal

abbrev pub invariant-loop-x : goal.invariant-loop-x
invariant-loop-x l = l.step ≡ l.initial.step ++ map (item_next l.spec) (take l.x-index l.streams)
