use Rattle.std.proofs.Common.{◌≡◌, ◌*◌, ◌≤◌, take}
use Rattle.stream_types.specs.Types.{fields_words}
use Rattle.stream_interp.proofs.parts.members_words.Given as goal

abbrev pub invariant-loop-field : goal.invariant-loop-field
invariant-loop-field l = record {
  sum : l.total ≡ fields_words l.types (take l.field-index l.fields);
  few : l.total ≤ 1024 * l.field-index;
}
