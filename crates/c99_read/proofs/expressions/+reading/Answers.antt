use Rattle.std.proofs.Common.{arith, ◌≡◌, map, ◌+◌, ◌-◌, sym, ap, ◌∙◌}
use Rattle.c99_tree.specs.Tree.{tree, exprs, more, none, Exprs}
use Rattle.c99_read.specs.ExprAt.{joined, onto, others_at, part_at}
use Rattle.std.proofs.lemmas.Result.{err_from_is_err_and}
use Rattle.c99_read.proofs.OthersGo.{exprs_push, others_end, others_out, others_fail, others_more}
use Rattle.c99_read.proofs.expressions.+reading.Goals as goal

pub others_at-returns-in_default : goal.others_at-returns-in_default
others_at-returns-in_default t c = c.loop-i.invariant ∙ others_end (part_at c.args.depth) (c.args.fuel - c.loop-i.i) c.loop-i.rest.now (exprs (map tree c.loop-i.all)) (omega arith) c.in_default.ensures

pub others_at-returns-in_err-e : goal.others_at-returns-in_err-e
others_at-returns-in_err-e t c =
    let failed = others_fail c.in_err-e.field-0.0 (part_at c.args.depth) (c.args.fuel - c.loop-i.i) c.loop-i.rest.now c.in-Some.next.now (exprs (map tree c.loop-i.all)) (omega arith) c.in-Some.ensures c.in_err-e.ensures in
    let p = err_from_is_err_and c.from_residual.result c.from_residual.ensures.1 in
    rw p.1 (rw p.2 (rw c.loop-i.invariant failed))

pub others_at-loop-i-preserved : goal.others_at-loop-i-preserved
others_at-loop-i-preserved t c =
    let h : onto (exprs (map tree c.loop-i.all)) (others_at (part_at c.args.depth) (c.args.fuel - c.loop-i.i) c.loop-i.rest.now) ≡ onto (joined (exprs (map tree c.loop-i.all)) (more (tree c.in_ok-e.e) none)) (others_at (part_at c.args.depth) (c.args.fuel - (c.loop-i.i + 1)) c.in_ok-e.after.now) =
    others_more (part_at c.args.depth) (c.args.fuel - c.loop-i.i) (c.args.fuel - (c.loop-i.i + 1)) c.loop-i.rest.now c.in-Some.next.now c.in_ok-e.after.now (exprs (map tree c.loop-i.all)) (tree c.in_ok-e.e) (omega arith) (omega arith) c.in-Some.ensures c.in_ok-e.ensures in
    let pushed : exprs (map tree c.push.new.self) ≡ joined (exprs (map tree c.loop-i.all)) (more (tree c.in_ok-e.e) none) = ap (λ all. exprs (map tree all)) c.in_ok-push.ensures.ok ∙ exprs_push c.loop-i.all c.in_ok-e.e in
    c.loop-i.invariant ∙ h ∙ ap (λ (es : Exprs). onto es (others_at (part_at c.args.depth) (c.args.fuel - (c.loop-i.i + 1)) c.in_ok-e.after.now)) (sym pushed)

pub others_at-returns : goal.others_at-returns
others_at-returns t c = c.loop-i.invariant ∙ others_out (part_at c.args.depth) (c.args.fuel - c.loop-i.i) c.loop-i.rest.now (exprs (map tree c.loop-i.all)) (omega arith)
