use Rattle.std.proofs.Common.{◌≡◌, ◌+◌, drop}
use Rattle.stream_interp.specs.Roots.{streams_words}
use Rattle.stream_interp.proofs.buffers.row_words.Given as goal

abbrev pub invariant-loop-stream : goal.invariant-loop-stream
invariant-loop-stream l = l.total + streams_words l.spec.types (drop l.stream-index l.spec.streams) ≡ streams_words l.spec.types l.spec.streams
