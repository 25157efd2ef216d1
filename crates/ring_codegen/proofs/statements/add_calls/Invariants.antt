use Rattle.std.proofs.Common.{◌≡◌, ◌++◌, map, take}
use Rattle.ring_codegen.specs.Items.{item_call}
use Rattle.ring_codegen.proofs.statements.add_calls.Given as goal

abbrev pub invariant-loop-trigger : goal.invariant-loop-trigger
invariant-loop-trigger l = l.step ≡ l.initial.step ++ map (item_call l.spec) (take l.trigger-index l.triggers)
