use Rattle.std.proofs.Common.{◌≡◌, ◌+◌, drop}
use Rattle.stream_interp.specs.Roots.{triggers_words}
use Rattle.stream_interp.proofs.buffers.trigger_words.Given as goal

abbrev pub invariant-loop-trigger : goal.invariant-loop-trigger
invariant-loop-trigger l = l.total + triggers_words l.spec.types (drop l.trigger-index l.spec.triggers) ≡ triggers_words l.spec.types l.spec.triggers
