use Rattle.std.proofs.Common.{◌≡◌, ◌+◌, drop}
use Rattle.stream_interp.specs.Roots.{roots_words}
use Rattle.stream_interp.proofs.buffers.with_roots.Given as goal

abbrev pub invariant-loop-root : goal.invariant-loop-root
invariant-loop-root l = l.total + roots_words l.spec.types (drop l.root-index l.roots) ≡ l.before + roots_words l.spec.types l.roots
