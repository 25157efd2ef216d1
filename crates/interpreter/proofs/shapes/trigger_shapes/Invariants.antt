use Rattle.std.proofs.Common.{◌≡◌, map, take}
use Rattle.interpreter.specs.Lines.{trigger_shape}
use Rattle.interpreter.proofs.shapes.trigger_shapes.Given as goal

abbrev pub invariant-loop-x : goal.invariant-loop-x
invariant-loop-x l = l.all ≡ map (trigger_shape l.spec) (take l.x-index l.spec.triggers)
