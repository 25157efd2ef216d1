use Rattle.std.proofs.Common.{◌≡◌, ◌+◌, drop}
use Rattle.stream_interp.specs.Roots.{triggers_words, observers_words}
use Rattle.stream_interp.proofs.buffers.event_words.Given as goal

abbrev pub invariant-loop-observer : goal.invariant-loop-observer
invariant-loop-observer l = l.total + observers_words l.spec.types (drop l.observer-index l.spec.observers) ≡ triggers_words l.spec.types l.spec.triggers + observers_words l.spec.types l.spec.observers
