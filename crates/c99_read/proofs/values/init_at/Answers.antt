use Rattle.std.proofs.Common.{arith, ◌≡◌, ◌+◌, ◌-◌, ◌<◌, suc, Some, List, ℕ, [], sym, ap, ◌∙◌}
use Rattle.std.proofs.lemmas.Result.{err_from_is_err_and}
use Rattle.c99_tree.specs.Values.{shape_of}
use Rattle.c99_read.specs.LineAt.{init_at}
use Rattle.c99_read.specs.WordsAt.{times_shaped}
use Rattle.c99_read.proofs.WordsGo.{some_shape, times_more, times_before_fail, times_value_fail, times_end, words_start, after_empty}
use Rattle.c99_read.proofs.values.init_at.Goals as goal

pub loop-i-init : goal.loop-i-init
loop-i-init c = record {
  same = words_start (λ k. times_shaped 8192 k (shape_of c.args.types.now c.args.t.now) [] c.args.bytes.now) c.new-all.result c.args.n (c.args.n - 0) c.new-all.ensures (omega arith);
  shaped = λ k. absurd (omega arith);
}

pub returns-in_err-start : goal.returns-in_err-start
unfolding init_at
returns-in_err-start c =
    let o = shape_of c.args.types.now c.args.t.now in
    let left : c.args.n - c.loop-i.i ≡ suc (c.args.n - (c.loop-i.i + 1)) = omega arith in
    let failed = times_before_fail c.in_err-start.field-0.0 8192 (c.args.n - c.loop-i.i) (c.args.n - (c.loop-i.i + 1)) o c.loop-i.before.now c.loop-i.rest.now c.loop-i.all left c.in_err-start.ensures in
    let p = err_from_is_err_and c.from_residual.result c.from_residual.ensures.1 in
    rw p.1 (rw p.2 (rw c.loop-i.invariant.same failed))

pub returns-in_err-more : goal.returns-in_err-more
unfolding init_at
returns-in_err-more c =
    let o = shape_of c.args.types.now c.args.t.now in
    let left : c.args.n - c.loop-i.i ≡ suc (c.args.n - (c.loop-i.i + 1)) = omega arith in
    let failed = times_value_fail c.in_err-more.field-0.0 8192 (c.args.n - c.loop-i.i) (c.args.n - (c.loop-i.i + 1)) o c.loop-i.before.now c.loop-i.rest.now c.in_ok-start.start.now c.loop-i.all left c.in_ok-start.ensures c.in_err-more.ensures in
    let p = err_from_is_err_and c.from_residual-in_err-more.result c.from_residual-in_err-more.ensures.1 in
    rw p.1 (rw p.2 (rw c.loop-i.invariant.same failed))

pub loop-i-preserved : goal.loop-i-preserved
loop-i-preserved c =
    let o = shape_of c.args.types.now c.args.t.now in
    let left : c.args.n - c.loop-i.i ≡ suc (c.args.n - (c.loop-i.i + 1)) = omega arith in
    record {
      same = c.loop-i.invariant.same ∙ times_more 8192 (c.args.n - c.loop-i.i) (c.args.n - (c.loop-i.i + 1)) o c.loop-i.before.now c.loop-i.rest.now c.in_ok-start.start.now c.loop-i.all c.in_ok-more.more c.in_ok-more.after.now left c.in_ok-start.ensures c.in_ok-more.ensures;
      shaped = λ k. some_shape 8192 o c.loop-i.all c.in_ok-start.start.now c.in_ok-more.more c.in_ok-more.after.now c.in_ok-more.ensures;
    }

pub returns : goal.returns
unfolding init_at
returns c =
    let o = shape_of c.args.types.now c.args.t.now in
    let done : c.args.n - c.loop-i.i ≡ 0 = omega arith in
    let some : 0 < c.loop-i.i = omega arith in
    c.loop-i.invariant.same ∙ times_end 8192 (c.args.n - c.loop-i.i) o c.loop-i.before.now c.loop-i.rest.now c.loop-i.all done (c.loop-i.invariant.shaped some)

pub returns-then-n-eq0 : goal.returns-then-n-eq0
unfolding init_at
returns-then-n-eq0 c =
    let o = shape_of c.args.types.now c.args.t.now in
    let none : c.args.n ≡ 0 = omega arith in
    sym (after_empty (times_shaped 8192 c.args.n o [] c.args.bytes.now)) ∙ times_end 8192 c.args.n o [] c.args.bytes.now [] none (sym c.has_shape.ensures ∙ c.if-not-has_shape.false)
    ∙ ap (λ (xs : List ℕ). Some (xs, c.args.bytes.now)) (sym c.new.ensures)
