use Rattle.std.proofs.Common.{◌≡◌, ◌+◌, ◌-◌, ◌<◌, ◌≤◌, ◌∷◌, length, drop, get_or, refl, sym, ap, ◌∙◌, subst, arith}
use Rattle.std.proofs.lemmas.List.{drop_more, drop_all}
use Rattle.std.proofs.lemmas.Result.{err_from_is_err_and}
use borrow.Rule.Slice.PartMut.{put_mid}
use Rattle.stream_types.specs.TypeList.{Stands}
use Rattle.stream_types.specs.Types.{words}
use Rattle.stream_core.specs.declared.spec.StreamItem.{StreamItem}
use Rattle.stream_core.specs.Weights.{streams_weight}
use Rattle.stream_interp.specs.Reading.{IsReady}
use Rattle.stream_interp.specs.Seen.{now_moment}
use Rattle.stream_interp.proofs.NextRows.{RowsSoFar, item_err, item_next, item_room, rows_all, rows_first}
use Rattle.stream_interp.proofs.EvaluatedRoots.{part_length, put_over}
use Rattle.stream_interp.proofs.ReadItems.{item_of}
use Rattle.stream_interp.proofs.steps.next_rows.Goals as goal

pub loop-stream-init : goal.loop-stream-init
loop-stream-init g c =
    let s = c.args.sight.now.spec.now in
    let m = now_moment s c.args.sight.now.rings.now c.args.sight.now.row.now in
    record { so_far = rows_first m s s.streams c.args.rows.now c.requires.rows; steps = omega arith }

pub words-width-requires : goal.words-width-requires
words-width-requires g c =
    let s = c.args.sight.now.spec.now in
    let m = now_moment s c.args.sight.now.rings.now c.args.sight.now.row.now in
    let i = c.loop-stream.stream-index in
    let x = c.stream-item.result in
    let is : x ≡ get_or s.streams i x = c.stream-item.is ∙ ap (λ ys. get_or ys i x) c.streams-stream-items.ensures in
    let less : i < length s.streams = omega (arith, ap length c.streams-stream-items.ensures, c.loop-stream-test.true) in
    let l = c.loop-stream.invariant in
    let ready = item_of (λ (y : StreamItem). IsReady s (length c.args.scratch.now) y.expr y.ty × Stands s.types y.ty) s.streams i x c.requires.ready.streams is less in
    subst (λ types. Stands types x.ty) (sym c.types.ensures) ready.1

pub returns-clause-value : goal.returns-clause-value
returns-clause-value g c =
    let s = c.args.sight.now.spec.now in
    let m = now_moment s c.args.sight.now.rings.now c.args.sight.now.row.now in
    let over : length s.streams ≤ c.loop-stream.stream-index = omega (arith, ap length c.streams-stream-items.ensures, c.loop-stream-test.false) in
    rows_all m s s.streams c.loop-stream.stream-index c.loop-stream.at c.loop-stream.rows c.loop-stream.invariant.so_far over

pub overflow_add-at : goal.overflow_add-at
overflow_add-at g c =
    let s = c.args.sight.now.spec.now in
    let m = now_moment s c.args.sight.now.rings.now c.args.sight.now.row.now in
    let i = c.loop-stream.stream-index in
    let x = c.stream-item.result in
    let is : x ≡ get_or s.streams i x = c.stream-item.is ∙ ap (λ ys. get_or ys i x) c.streams-stream-items.ensures in
    let less : i < length s.streams = omega (arith, ap length c.streams-stream-items.ensures, c.loop-stream-test.true) in
    let wide : c.words-width.result ≡ words s.types x.ty = c.words-width.ensures.value ∙ ap (λ types. words types x.ty) c.types.ensures in
    let room = item_room m s s.streams i c.loop-stream.at c.loop-stream.rows c.loop-stream.invariant.so_far x is less in
    omega (arith, room, wide)

pub offset_bounds-rows-at : goal.offset_bounds-rows-at
offset_bounds-rows-at g c =
    let s = c.args.sight.now.spec.now in
    let m = now_moment s c.args.sight.now.rings.now c.args.sight.now.row.now in
    let i = c.loop-stream.stream-index in
    let x = c.stream-item.result in
    let is : x ≡ get_or s.streams i x = c.stream-item.is ∙ ap (λ ys. get_or ys i x) c.streams-stream-items.ensures in
    let less : i < length s.streams = omega (arith, ap length c.streams-stream-items.ensures, c.loop-stream-test.true) in
    let wide : c.words-width.result ≡ words s.types x.ty = c.words-width.ensures.value ∙ ap (λ types. words types x.ty) c.types.ensures in
    let room = item_room m s s.streams i c.loop-stream.at c.loop-stream.rows c.loop-stream.invariant.so_far x is less in
    omega (arith, room, wide)

pub slice_bounds-fill-end : goal.slice_bounds-fill-end
slice_bounds-fill-end g c =
    let s = c.args.sight.now.spec.now in
    let m = now_moment s c.args.sight.now.rings.now c.args.sight.now.row.now in
    let i = c.loop-stream.stream-index in
    let x = c.stream-item.result in
    let is : x ≡ get_or s.streams i x = c.stream-item.is ∙ ap (λ ys. get_or ys i x) c.streams-stream-items.ensures in
    let less : i < length s.streams = omega (arith, ap length c.streams-stream-items.ensures, c.loop-stream-test.true) in
    let wide : c.words-width.result ≡ words s.types x.ty = c.words-width.ensures.value ∙ ap (λ types. words types x.ty) c.types.ensures in
    let room = item_room m s s.streams i c.loop-stream.at c.loop-stream.rows c.loop-stream.invariant.so_far x is less in
    omega (arith, room, wide)

pub returns-in_err-fill-clause-value : goal.returns-in_err-fill-clause-value
returns-in_err-fill-clause-value g c =
    let s = c.args.sight.now.spec.now in
    let m = now_moment s c.args.sight.now.rings.now c.args.sight.now.row.now in
    let i = c.loop-stream.stream-index in
    let x = c.stream-item.result in
    let is : x ≡ get_or s.streams i x = c.stream-item.is ∙ ap (λ ys. get_or ys i x) c.streams-stream-items.ensures in
    let less : i < length s.streams = omega (arith, ap length c.streams-stream-items.ensures, c.loop-stream-test.true) in
    let p = err_from_is_err_and c.from_residual.result c.from_residual.ensures.1 in
    rw p.1 (rw p.2 (item_err m s s.streams i c.loop-stream.at c.loop-stream.rows c.loop-stream.invariant.so_far x is less c.in_err-fill.field-0.0 c.in_err-fill.ensures.err))

pub returns-in_err-fill-clause-steps : goal.returns-in_err-fill-clause-steps
returns-in_err-fill-clause-steps g c =
    let s = c.args.sight.now.spec.now in
    let i = c.loop-stream.stream-index in
    let x = c.stream-item.result in
    let is : x ≡ get_or s.streams i x = c.stream-item.is ∙ ap (λ ys. get_or ys i x) c.streams-stream-items.ensures in
    let less : i < length s.streams = omega (arith, ap length c.streams-stream-items.ensures, c.loop-stream-test.true) in
    let more = ap (streams_weight s) (drop_more s.streams i x less ∙ ap (λ y. y ∷ drop (i + 1) s.streams) (sym is)) in
    omega (arith, more, c.in_err-fill.ensures.steps, c.loop-stream.invariant.steps)

pub loop-stream-preserved : goal.loop-stream-preserved
loop-stream-preserved g c =
    let s = c.args.sight.now.spec.now in
    let m = now_moment s c.args.sight.now.rings.now c.args.sight.now.row.now in
    let i = c.loop-stream.stream-index in
    let x = c.stream-item.result in
    let is : x ≡ get_or s.streams i x = c.stream-item.is ∙ ap (λ ys. get_or ys i x) c.streams-stream-items.ensures in
    let less : i < length s.streams = omega (arith, ap length c.streams-stream-items.ensures, c.loop-stream-test.true) in
    let l = c.loop-stream.invariant in
    let wide : c.words-width.result ≡ words s.types x.ty = c.words-width.ensures.value ∙ ap (λ types. words types x.ty) c.types.ensures in
    let room = item_room m s s.streams i c.loop-stream.at c.loop-stream.rows l.so_far x is less in
    let fits : c.loop-stream.at + c.words-width.result ≤ length c.loop-stream.rows = omega (arith, room, wide) in
    let long : length c.fill.new.out ≡ c.words-width.result = c.fill.auto.out ∙ part_length c.loop-stream.at c.words-width.result c.loop-stream.rows fits in
    let k : c.loop-stream.at + c.words-width.result - c.loop-stream.at ≡ c.words-width.result = omega arith in
    let new = put_mid c.loop-stream.at (c.loop-stream.at + c.words-width.result - c.loop-stream.at) c.loop-stream.rows c.fill.new.out in
    let put = put_over c.loop-stream.at (c.loop-stream.at + c.words-width.result - c.loop-stream.at) c.loop-stream.rows c.fill.new.out (long ∙ sym k) in
    let next = item_next m s s.streams i c.loop-stream.at c.loop-stream.rows l.so_far x is less c.fill.new.out new c.in_ok-fill.ensures.ok (long ∙ wide) put in
    let more = ap (streams_weight s) (drop_more s.streams i x less ∙ ap (λ y. y ∷ drop (i + 1) s.streams) (sym is)) in
    record {
      so_far = subst (λ n. RowsSoFar m s s.streams (i + 1) (c.loop-stream.at + n) new) (sym wide) next;
      steps = omega (arith, more, c.in_ok-fill.ensures.steps, l.steps);
    }

pub returns-clause-steps : goal.returns-clause-steps
returns-clause-steps g c = let l = c.loop-stream.invariant in omega (arith, l.steps)
