use Rattle.std.proofs.Common.{◌≡◌, ◌*◌, ◌≤◌, take}
use Rattle.stream_types.specs.Types.{fields_words, at_fields, entry_bytes, scalar_bytes}
use Rattle.stream_types.proofs.types.Types.extent_of.Given as goal

abbrev pub invariant-loop-field : goal.invariant-loop-field
invariant-loop-field l = record {
  words : l.words ≡ fields_words l.self (take l.field-index l.fields);
  bytes : l.bytes ≡ at_fields scalar_bytes (entry_bytes l.self) (take l.field-index l.fields);
  few_words : l.words ≤ 1024 * l.field-index;
  few_bytes : l.bytes ≤ 8192 * l.field-index;
}
