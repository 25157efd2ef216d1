use Rattle.std.proofs.Common.{◌≡◌, ◌+◌, ◌-◌, ◌<◌, ◌≤◌, ◌∷◌, length, drop, get_or, refl, sym, ap, ◌∙◌, subst, arith}
use Rattle.std.proofs.lemmas.List.{drop_more}
use Rattle.std.proofs.lemmas.Result.{err_from_is_err_and}
use borrow.Rule.Slice.PartMut.{put_mid}
use Rattle.stream_types.specs.Types.{words}
use Rattle.stream_core.specs.Weights.{roots_weight}
use Rattle.stream_interp.specs.Seen.{now_moment}
use Rattle.stream_interp.proofs.EvaluatedRoots.{Written, item_err, item_next, item_room, part_length, put_behind, put_over, written_all, written_end, written_first}
use Rattle.stream_interp.proofs.events.write_values.Goals as goal

pub loop-root-init : goal.loop-root-init
loop-root-init g c =
    let s = c.args.sight.now.spec.now in
    let m = now_moment s c.args.sight.now.rings.now c.args.sight.now.row.now in
    record { so_far = written_first m s c.args.roots.now c.args.at c.args.words.now c.requires.room; steps = omega arith }

pub overflow_add-end : goal.overflow_add-end
overflow_add-end g c =
    let s = c.args.sight.now.spec.now in
    let m = now_moment s c.args.sight.now.rings.now c.args.sight.now.row.now in
    let rs = c.args.roots.now in
    let i = c.loop-root.root-index in
    let x = c.root-item.result in
    let l = c.loop-root.invariant in
    let wide : c.words-width.result ≡ words s.types x.ty = c.words-width.ensures.value ∙ ap (λ types. words types x.ty) c.types.ensures in
    let room = item_room m s rs i c.args.at c.loop-root.end c.args.words.now c.loop-root.words l.so_far x c.root-item.is c.loop-root-test.true in
    omega (arith, room, wide)

pub offset_bounds-words-end : goal.offset_bounds-words-end
offset_bounds-words-end g c =
    let s = c.args.sight.now.spec.now in
    let m = now_moment s c.args.sight.now.rings.now c.args.sight.now.row.now in
    let rs = c.args.roots.now in
    let i = c.loop-root.root-index in
    let x = c.root-item.result in
    let l = c.loop-root.invariant in
    let wide : c.words-width.result ≡ words s.types x.ty = c.words-width.ensures.value ∙ ap (λ types. words types x.ty) c.types.ensures in
    let room = item_room m s rs i c.args.at c.loop-root.end c.args.words.now c.loop-root.words l.so_far x c.root-item.is c.loop-root-test.true in
    omega (arith, room, wide)

pub slice_bounds-fill-end : goal.slice_bounds-fill-end
slice_bounds-fill-end g c =
    let s = c.args.sight.now.spec.now in
    let m = now_moment s c.args.sight.now.rings.now c.args.sight.now.row.now in
    let rs = c.args.roots.now in
    let i = c.loop-root.root-index in
    let x = c.root-item.result in
    let l = c.loop-root.invariant in
    let wide : c.words-width.result ≡ words s.types x.ty = c.words-width.ensures.value ∙ ap (λ types. words types x.ty) c.types.ensures in
    let room = item_room m s rs i c.args.at c.loop-root.end c.args.words.now c.loop-root.words l.so_far x c.root-item.is c.loop-root-test.true in
    omega (arith, room, wide)

pub returns-in_err-fill-clause-err : goal.returns-in_err-fill-clause-err
returns-in_err-fill-clause-err g c =
    let s = c.args.sight.now.spec.now in
    let m = now_moment s c.args.sight.now.rings.now c.args.sight.now.row.now in
    let rs = c.args.roots.now in
    let i = c.loop-root.root-index in
    let x = c.root-item.result in
    let l = c.loop-root.invariant in
    let p = err_from_is_err_and c.from_residual.result c.from_residual.ensures.1 in
    rw p.1 (rw p.2 (item_err m s rs i c.args.at c.loop-root.end c.args.words.now c.loop-root.words l.so_far x c.root-item.is c.loop-root-test.true c.in_err-fill.field-0.0 c.in_err-fill.ensures.err))

pub returns-in_err-fill-clause-front : goal.returns-in_err-fill-clause-front
returns-in_err-fill-clause-front g c =
    let s = c.args.sight.now.spec.now in
    let m = now_moment s c.args.sight.now.rings.now c.args.sight.now.row.now in
    let rs = c.args.roots.now in
    let i = c.loop-root.root-index in
    let x = c.root-item.result in
    let l = c.loop-root.invariant in
    let wide : c.words-width.result ≡ words s.types x.ty = c.words-width.ensures.value ∙ ap (λ types. words types x.ty) c.types.ensures in
    let room = item_room m s rs i c.args.at c.loop-root.end c.args.words.now c.loop-root.words l.so_far x c.root-item.is c.loop-root-test.true in
    let fits : c.loop-root.end + c.words-width.result ≤ length c.loop-root.words = omega (arith, room, wide) in
    let long : length c.fill.new.out ≡ c.words-width.result = c.fill.auto.out ∙ part_length c.loop-root.end c.words-width.result c.loop-root.words fits in
    put_behind c.args.at c.loop-root.end c.words-width.result c.loop-root.words c.fill.new.out l.so_far.from fits long ∙ l.so_far.front

pub returns-in_err-fill-clause-steps : goal.returns-in_err-fill-clause-steps
returns-in_err-fill-clause-steps g c =
    let s = c.args.sight.now.spec.now in
    let m = now_moment s c.args.sight.now.rings.now c.args.sight.now.row.now in
    let rs = c.args.roots.now in
    let i = c.loop-root.root-index in
    let x = c.root-item.result in
    let l = c.loop-root.invariant in
    let more = ap (roots_weight s) (drop_more rs i x c.loop-root-test.true ∙ ap (λ y. y ∷ drop (i + 1) rs) (sym c.root-item.is)) in
    omega (arith, more, c.in_err-fill.ensures.steps, l.steps)

pub loop-root-preserved : goal.loop-root-preserved
loop-root-preserved g c =
    let s = c.args.sight.now.spec.now in
    let m = now_moment s c.args.sight.now.rings.now c.args.sight.now.row.now in
    let rs = c.args.roots.now in
    let i = c.loop-root.root-index in
    let x = c.root-item.result in
    let l = c.loop-root.invariant in
    let wide : c.words-width.result ≡ words s.types x.ty = c.words-width.ensures.value ∙ ap (λ types. words types x.ty) c.types.ensures in
    let room = item_room m s rs i c.args.at c.loop-root.end c.args.words.now c.loop-root.words l.so_far x c.root-item.is c.loop-root-test.true in
    let fits : c.loop-root.end + c.words-width.result ≤ length c.loop-root.words = omega (arith, room, wide) in
    let long : length c.fill.new.out ≡ c.words-width.result = c.fill.auto.out ∙ part_length c.loop-root.end c.words-width.result c.loop-root.words fits in
    let k : c.loop-root.end + c.words-width.result - c.loop-root.end ≡ c.words-width.result = omega arith in
    let new = put_mid c.loop-root.end (c.loop-root.end + c.words-width.result - c.loop-root.end) c.loop-root.words c.fill.new.out in
    let put = put_over c.loop-root.end (c.loop-root.end + c.words-width.result - c.loop-root.end) c.loop-root.words c.fill.new.out (long ∙ sym k) in
    let next = item_next m s rs i c.args.at c.loop-root.end c.args.words.now c.loop-root.words l.so_far x c.root-item.is c.loop-root-test.true c.fill.new.out new c.in_ok-fill.ensures.ok (long ∙ wide) put in
    let more = ap (roots_weight s) (drop_more rs i x c.loop-root-test.true ∙ ap (λ y. y ∷ drop (i + 1) rs) (sym c.root-item.is)) in
    record {
      so_far = subst (λ n. Written m s rs (i + 1) c.args.at (c.loop-root.end + n) c.args.words.now new) (sym wide) next;
      steps = omega (arith, more, c.in_ok-fill.ensures.steps, l.steps);
    }

pub returns-clause-end : goal.returns-clause-end
returns-clause-end g c =
    let s = c.args.sight.now.spec.now in
    let m = now_moment s c.args.sight.now.rings.now c.args.sight.now.row.now in
    let over : length c.args.roots.now ≤ c.loop-root.root-index = omega (arith, c.loop-root-test.false) in
    written_end m s c.args.roots.now c.loop-root.root-index c.args.at c.loop-root.end c.args.words.now c.loop-root.words c.loop-root.invariant.so_far over

pub returns-clause-ok : goal.returns-clause-ok
returns-clause-ok g c =
    let s = c.args.sight.now.spec.now in
    let m = now_moment s c.args.sight.now.rings.now c.args.sight.now.row.now in
    let over : length c.args.roots.now ≤ c.loop-root.root-index = omega (arith, c.loop-root-test.false) in
    written_all m s c.args.roots.now c.loop-root.root-index c.args.at c.loop-root.end c.args.words.now c.loop-root.words c.loop-root.invariant.so_far over

pub returns-clause-front : goal.returns-clause-front
returns-clause-front g c = c.loop-root.invariant.so_far.front

pub returns-clause-steps : goal.returns-clause-steps
returns-clause-steps g c = let l = c.loop-root.invariant in omega (arith, l.steps)
