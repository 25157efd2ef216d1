use Rattle.std.proofs.Common.{arith, ◌+◌, ◌-◌, length, codes, sym, ap, ◌∙◌}
use Rattle.std.proofs.lemmas.Result.{err_from_is_err_and}
use Rattle.c99_read.specs.Front.{after_all, many, begins}
use Rattle.c99_read.specs.LineAt.{extern_at}
use Rattle.c99_read.proofs.ManyGo.{many_end, many_out, many_fail, many_more}
use Rattle.c99_read.proofs.lines.externs_at.Goals as goal

pub returns-then-not-begins : goal.returns-then-not-begins
returns-then-not-begins c = c.loop-i.invariant ∙ many_end (begins (codes "extern ")) extern_at (length c.args.bytes.now - c.loop-i.i) c.loop-i.rest.now c.loop-i.all (omega arith) (sym c.begins.ensures ∙ c.if-not-begins.true)

pub returns-in_err-x : goal.returns-in_err-x
returns-in_err-x c =
    let failed = many_fail (begins (codes "extern ")) extern_at c.in_err-x.field-0.0 (length c.args.bytes.now - c.loop-i.i) c.loop-i.rest.now c.loop-i.all (omega arith) (sym c.begins.ensures ∙ c.if-not-begins.false) c.in_err-x.ensures in
    let p = err_from_is_err_and c.from_residual.result c.from_residual.ensures.1 in
    rw p.1 (rw p.2 (rw c.loop-i.invariant failed))

pub loop-i-preserved : goal.loop-i-preserved
loop-i-preserved c =
    c.loop-i.invariant ∙ many_more (begins (codes "extern ")) extern_at (length c.args.bytes.now - c.loop-i.i) (length c.args.bytes.now - (c.loop-i.i + 1)) c.loop-i.rest.now c.in_ok-x.after.now c.loop-i.all c.in_ok-x.x (omega arith) (omega arith) (sym c.begins.ensures ∙ c.if-not-begins.false) c.in_ok-x.ensures
    ∙ ap (λ all. after_all all (many (begins (codes "extern ")) extern_at (length c.args.bytes.now - (c.loop-i.i + 1)) c.in_ok-x.after.now)) (sym c.in_ok-push.ensures.ok)

pub returns : goal.returns
returns c = c.loop-i.invariant ∙ many_out (begins (codes "extern ")) extern_at (length c.args.bytes.now - c.loop-i.i) c.loop-i.rest.now c.loop-i.all (omega arith)
