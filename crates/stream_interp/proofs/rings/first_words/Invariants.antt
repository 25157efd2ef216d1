use Rattle.std.proofs.Common.{◌≡◌, ◌++◌, drop}
use Rattle.stream_interp.specs.Buffers.{first_words}
use Rattle.stream_interp.proofs.rings.first_words.Given as goal

abbrev pub invariant-loop-stream : goal.invariant-loop-stream
invariant-loop-stream l = l.words.items ++ first_words (drop l.stream-index l.spec.streams) ≡ first_words l.spec.streams
