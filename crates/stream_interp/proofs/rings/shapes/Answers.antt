use Rattle.std.proofs.Common.{◌≡◌, ◌+◌, ◌/◌, ◌<◌, ◌++◌, ◌∷◌, [], length, take, get_or, sym, ap, ◌∙◌, subst, arith}
use Rattle.std.proofs.lemmas.List.{take_more}
use Rattle.stream_types.specs.TypeList.{Stands}
use Rattle.stream_types.specs.Types.{words}
use Rattle.stream_core.specs.Term.{value_count}
use Rattle.stream_interp.specs.Buffers.{AreShapes}
use Rattle.stream_interp.proofs.FirstRows.{IsRingOf, init_few, shapes_pushed, streams_good}
use Rattle.stream_interp.proofs.ReadItems.{item_of}
use Rattle.stream_interp.proofs.rings.shapes.Goals as goal

pub words-width-requires : goal.words-width-requires
words-width-requires c =
    let s = c.args.spec.now in
    let e = c.streams-stream-items.ensures in
    let i = c.loop-stream.stream-index in
    let x = c.stream-item.result in
    let is : x ≡ get_or s.streams i x = c.stream-item.is ∙ ap (λ ys. get_or ys i x) e in
    let less : i < length s.streams = omega (arith, ap length e, c.loop-stream-test.true) in
    let ring : IsRingOf s.types x = item_of (IsRingOf s.types) s.streams i x (streams_good s c.requires.typed) is less in
    subst (λ types. Stands types x.ty) (sym c.types.ensures) ring.stands

pub overflow_cast-len : goal.overflow_cast-len
overflow_cast-len c =
    let s = c.args.spec.now in
    let e = c.streams-stream-items.ensures in
    let i = c.loop-stream.stream-index in
    let x = c.stream-item.result in
    let is : x ≡ get_or s.streams i x = c.stream-item.is ∙ ap (λ ys. get_or ys i x) e in
    let less : i < length s.streams = omega (arith, ap length e, c.loop-stream-test.true) in
    let ring : IsRingOf s.types x = item_of (IsRingOf s.types) s.streams i x (streams_good s c.requires.typed) is less in
    let wide : c.words-width.result ≡ words s.types x.ty = c.words-width.ensures.value ∙ ap (λ types. words types x.ty) c.types.ensures in
    let few = init_few s.types x ring (omega (arith, wide, c.words-width.ensures.most)) in
    omega (arith, few, ap length c.as_slice.ensures)

pub nonzero_div-len : goal.nonzero_div-len
nonzero_div-len c =
    let s = c.args.spec.now in
    let e = c.streams-stream-items.ensures in
    let i = c.loop-stream.stream-index in
    let x = c.stream-item.result in
    let is : x ≡ get_or s.streams i x = c.stream-item.is ∙ ap (λ ys. get_or ys i x) e in
    let less : i < length s.streams = omega (arith, ap length e, c.loop-stream-test.true) in
    let ring : IsRingOf s.types x = item_of (IsRingOf s.types) s.streams i x (streams_good s c.requires.typed) is less in
    let wide : c.words-width.result ≡ words s.types x.ty = c.words-width.ensures.value ∙ ap (λ types. words types x.ty) c.types.ensures in
    omega (arith, wide, ring.wide)

pub invariant_of-push : goal.invariant_of-push
invariant_of-push c =
    let s = c.args.spec.now in
    let e = c.streams-stream-items.ensures in
    let i = c.loop-stream.stream-index in
    let x = c.stream-item.result in
    let is : x ≡ get_or s.streams i x = c.stream-item.is ∙ ap (λ ys. get_or ys i x) e in
    let less : i < length s.streams = omega (arith, ap length e, c.loop-stream-test.true) in
    let ring : IsRingOf s.types x = item_of (IsRingOf s.types) s.streams i x (streams_good s c.requires.typed) is less in
    let wide : c.words-width.result ≡ words s.types x.ty = c.words-width.ensures.value ∙ ap (λ types. words types x.ty) c.types.ensures in
    let count : length c.as_slice.result.now / c.words-width.result ≡ value_count s.types x.ty x.init = ap (λ ws. length ws / c.words-width.result) c.as_slice.ensures ∙ ap (λ n. length x.init / n) wide in
    record { holds_a_word = (omega (arith, count, ring.some), omega (arith, wide, ring.wide)) }

pub loop-stream-preserved : goal.loop-stream-preserved
loop-stream-preserved c =
    let s = c.args.spec.now in
    let e = c.streams-stream-items.ensures in
    let i = c.loop-stream.stream-index in
    let x = c.stream-item.result in
    let is : x ≡ get_or s.streams i x = c.stream-item.is ∙ ap (λ ys. get_or ys i x) e in
    let less : i < length s.streams = omega (arith, ap length e, c.loop-stream-test.true) in
    let ring : IsRingOf s.types x = item_of (IsRingOf s.types) s.streams i x (streams_good s c.requires.typed) is less in
    let wide : c.words-width.result ≡ words s.types x.ty = c.words-width.ensures.value ∙ ap (λ types. words types x.ty) c.types.ensures in
    let count : length c.as_slice.result.now / c.words-width.result ≡ value_count s.types x.ty x.init = ap (λ ws. length ws / c.words-width.result) c.as_slice.ensures ∙ ap (λ n. length x.init / n) wide in
    let more : take i s.streams ++ x ∷ [] ≡ take (i + 1) s.streams = ap (λ y. take i s.streams ++ y ∷ []) is ∙ sym (take_more s.streams i x less) in
    subst (λ ys. AreShapes s.types ys c.push.new.self.items) more
    (shapes_pushed s.types (take i s.streams) c.loop-stream.shapes.items c.push.new.self.items x _ c.in_ok-push.ensures.items c.loop-stream.invariant count wide)
