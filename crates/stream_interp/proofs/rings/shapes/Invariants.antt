use Rattle.std.proofs.Common.{take}
use Rattle.stream_interp.specs.Buffers.{AreShapes}
use Rattle.stream_interp.proofs.rings.shapes.Given as goal

abbrev pub invariant-loop-stream : goal.invariant-loop-stream
invariant-loop-stream l = AreShapes l.spec.types (take l.stream-index l.spec.streams) l.shapes.items
