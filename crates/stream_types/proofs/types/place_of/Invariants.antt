use Rattle.std.proofs.Common.{ℕ, ◌<◌, ◌≢◌}
use Rattle.std.specs.Prelude.{slice_index_or}
use Rattle.stream_types.specs.declared.types.Field.{Field}
use Rattle.stream_types.proofs.types.place_of.Given as goal

abbrev pub invariant-loop-i : goal.invariant-loop-i
invariant-loop-i l = (k : ℕ) (d : Field) → k < l.i → (slice_index_or l.fields k d).name ≢ l.name
