use Rattle.std.proofs.Common.{arith}
use Rattle.stream_types.specs.Types.{entry_words, one_word}
use Rattle.stream_types.proofs.TypeLists.{at_fields-take}
use Rattle.stream_interp.proofs.parts.members_words.Goals as goal

pub loop-field-preserved : goal.loop-field-preserved
loop-field-preserved c =
    let h = c.loop-field.invariant in
    let e = c.words.ensures in
    let w = at_fields-take one_word (entry_words c.args.types.now) _ _ _ c.loop-field-test.true c.field-item.is in
    record { sum = omega (arith, w, h.sum, e.value); few = omega (arith, h.few, e.most) }
