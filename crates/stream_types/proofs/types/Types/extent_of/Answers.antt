use Rattle.std.proofs.Common.{arith}
use Rattle.stream_types.specs.Types.{one_word, scalar_bytes, entry_words, entry_bytes}
use Rattle.stream_types.proofs.TypeLists.{at_fields-take}
use Rattle.stream_types.proofs.types.Types.extent_of.Goals as goal

pub loop-field-preserved : goal.loop-field-preserved
loop-field-preserved c =
    let h = c.loop-field.invariant in
    let e = c.extent-extent.ensures in
    let w = at_fields-take one_word (entry_words c.args.self.now) _ _ _ c.loop-field-test.true c.field-item.is in
    let b = at_fields-take scalar_bytes (entry_bytes c.args.self.now) _ _ _ c.loop-field-test.true c.field-item.is in
    record {
      words = omega (arith, w, h.words, e.words);
      bytes = omega (arith, b, h.bytes, e.bytes);
      few_words = omega (arith, h.few_words, e.most_words);
      few_bytes = omega (arith, h.few_bytes, e.most_bytes);
    }
