use Rattle.std.proofs.Common.{◌≡◌, ◌+◌, ◌-◌, ◌<◌, ◌≤◌, length, take, drop, get_or, set, sym, ap, ◌∙◌, subst, arith}
use Rattle.stream_types.specs.TypeList.{Stands}
use Rattle.stream_types.specs.Types.{words}
use Rattle.stream_core.specs.declared.spec.StreamItem.{StreamItem}
use Rattle.ring_bank.specs.RingRows.{pushed, ring_at}
use Rattle.stream_interp.proofs.EvaluatedRoots.{part_length}
use Rattle.stream_interp.proofs.PushedRows.{PushedSoFar, item_pushed, item_there, item_wide, item_within, pushed_all, pushed_first}
use Rattle.stream_interp.proofs.ReadItems.{item_of}
use Rattle.stream_interp.proofs.rings.push_rows.Goals as goal

pub loop-i-init : goal.loop-i-init
loop-i-init c = let s = c.args.spec.now in pushed_first s.types s.streams c.args.rings.now c.args.rows.now c.requires.wide c.requires.rows

pub words-width-requires : goal.words-width-requires
words-width-requires c =
    let s = c.args.spec.now in
    let rows = c.args.rows.now in
    let i = c.loop-i.i in
    let x = c.stream-item.result in
    let e = c.streams-stream-items.ensures in
    let is : x ≡ get_or s.streams i x = c.stream-item.is ∙ ap (λ ys. get_or ys i x) e in
    let less : i < length s.streams = omega (arith, ap length e, c.loop-i-test.true) in
    let l = c.loop-i.invariant in
    subst (λ types. Stands types x.ty) (sym c.types.ensures) (item_of (λ (y : StreamItem). Stands s.types y.ty) s.streams i x c.requires.stand is less)

pub overflow_add-at : goal.overflow_add-at
overflow_add-at c =
    let s = c.args.spec.now in
    let rows = c.args.rows.now in
    let i = c.loop-i.i in
    let x = c.stream-item.result in
    let e = c.streams-stream-items.ensures in
    let is : x ≡ get_or s.streams i x = c.stream-item.is ∙ ap (λ ys. get_or ys i x) e in
    let less : i < length s.streams = omega (arith, ap length e, c.loop-i-test.true) in
    let l = c.loop-i.invariant in
    let wide : c.words-width.result ≡ words s.types x.ty = c.words-width.ensures.value ∙ ap (λ types. words types x.ty) c.types.ensures in
    let within = item_within s.types s.streams c.args.rings.now rows i c.loop-i.at c.loop-i.rings l x is less in
    omega (arith, within, wide)

pub offset_bounds-rows-at : goal.offset_bounds-rows-at
offset_bounds-rows-at c =
    let s = c.args.spec.now in
    let rows = c.args.rows.now in
    let i = c.loop-i.i in
    let x = c.stream-item.result in
    let e = c.streams-stream-items.ensures in
    let is : x ≡ get_or s.streams i x = c.stream-item.is ∙ ap (λ ys. get_or ys i x) e in
    let less : i < length s.streams = omega (arith, ap length e, c.loop-i-test.true) in
    let l = c.loop-i.invariant in
    let wide : c.words-width.result ≡ words s.types x.ty = c.words-width.ensures.value ∙ ap (λ types. words types x.ty) c.types.ensures in
    let within = item_within s.types s.streams c.args.rings.now rows i c.loop-i.at c.loop-i.rings l x is less in
    omega (arith, within, wide)

pub slice_bounds-push-end : goal.slice_bounds-push-end
slice_bounds-push-end c =
    let s = c.args.spec.now in
    let rows = c.args.rows.now in
    let i = c.loop-i.i in
    let x = c.stream-item.result in
    let e = c.streams-stream-items.ensures in
    let is : x ≡ get_or s.streams i x = c.stream-item.is ∙ ap (λ ys. get_or ys i x) e in
    let less : i < length s.streams = omega (arith, ap length e, c.loop-i-test.true) in
    let l = c.loop-i.invariant in
    let wide : c.words-width.result ≡ words s.types x.ty = c.words-width.ensures.value ∙ ap (λ types. words types x.ty) c.types.ensures in
    let within = item_within s.types s.streams c.args.rings.now rows i c.loop-i.at c.loop-i.rings l x is less in
    omega (arith, within, wide)

pub push-requires-clause-ring : goal.push-requires-clause-ring
push-requires-clause-ring c =
    let s = c.args.spec.now in
    let rows = c.args.rows.now in
    let i = c.loop-i.i in
    let x = c.stream-item.result in
    let e = c.streams-stream-items.ensures in
    let is : x ≡ get_or s.streams i x = c.stream-item.is ∙ ap (λ ys. get_or ys i x) e in
    let less : i < length s.streams = omega (arith, ap length e, c.loop-i-test.true) in
    let l = c.loop-i.invariant in
    item_there s.types s.streams c.args.rings.now rows i c.loop-i.at c.loop-i.rings l x is less

pub push-requires-clause-width : goal.push-requires-clause-width
push-requires-clause-width c =
    let s = c.args.spec.now in
    let rows = c.args.rows.now in
    let i = c.loop-i.i in
    let x = c.stream-item.result in
    let e = c.streams-stream-items.ensures in
    let is : x ≡ get_or s.streams i x = c.stream-item.is ∙ ap (λ ys. get_or ys i x) e in
    let less : i < length s.streams = omega (arith, ap length e, c.loop-i-test.true) in
    let l = c.loop-i.invariant in
    let wide : c.words-width.result ≡ words s.types x.ty = c.words-width.ensures.value ∙ ap (λ types. words types x.ty) c.types.ensures in
    let within = item_within s.types s.streams c.args.rings.now rows i c.loop-i.at c.loop-i.rings l x is less in
    let fits : c.loop-i.at + c.words-width.result ≤ length rows = omega (arith, within, wide) in
    part_length c.loop-i.at c.words-width.result rows fits ∙ wide ∙ sym (item_wide s.types s.streams c.args.rings.now rows i c.loop-i.at c.loop-i.rings l x is less)

pub loop-i-preserved : goal.loop-i-preserved
loop-i-preserved c =
    let s = c.args.spec.now in
    let rows = c.args.rows.now in
    let i = c.loop-i.i in
    let x = c.stream-item.result in
    let e = c.streams-stream-items.ensures in
    let is : x ≡ get_or s.streams i x = c.stream-item.is ∙ ap (λ ys. get_or ys i x) e in
    let less : i < length s.streams = omega (arith, ap length e, c.loop-i-test.true) in
    let l = c.loop-i.invariant in
    let wide : c.words-width.result ≡ words s.types x.ty = c.words-width.ensures.value ∙ ap (λ types. words types x.ty) c.types.ensures in
    let within = item_within s.types s.streams c.args.rings.now rows i c.loop-i.at c.loop-i.rings l x is less in
    let at = c.loop-i.at in
    let old = c.loop-i.rings in
    let k : at + c.words-width.result - at ≡ words s.types x.ty = omega (arith, wide) in
    let next : c.push.new.self ≡ set old i (pushed (ring_at old i) (take (words s.types x.ty) (drop at rows))) = c.push.ensures ∙ ap (λ n. set old i (pushed (ring_at old i) (take n (drop at rows)))) k in
    let so_far = item_pushed s.types s.streams c.args.rings.now rows i at old l x is less in
    subst (λ n. PushedSoFar s.types s.streams c.args.rings.now rows (i + 1) (at + n) c.push.new.self) (sym wide)
    (subst (PushedSoFar s.types s.streams c.args.rings.now rows (i + 1) (at + words s.types x.ty)) (sym next) so_far)

pub returns : goal.returns
returns c =
    let s = c.args.spec.now in
    let over : length s.streams ≤ c.loop-i.i = omega (arith, ap length c.streams-stream-items.ensures, c.loop-i-test.false) in
    pushed_all s.types s.streams c.args.rings.now c.args.rows.now c.loop-i.i c.loop-i.at c.loop-i.rings c.loop-i.invariant over
