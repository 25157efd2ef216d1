use Rattle.std.proofs.Common.{ℕ, ◌<◌, ◌≢◌}
use Rattle.std.specs.Prelude.{slice_index_or}
use Rattle.stream_types.specs.declared.types.Field.{Field}
use Rattle.stream_types.proofs.types.has_twins.Given as goal

abbrev pub invariant-loop-i : goal.invariant-loop-i
invariant-loop-i l = (j k : ℕ) (d : Field) → j < k → k < l.i → (slice_index_or l.fields j d).name ≢ (slice_index_or l.fields k d).name
