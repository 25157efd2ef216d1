use Rattle.std.proofs.Common.{arith, List, ◌+◌, ◌-◌, map, sym, ap, ◌∙◌}
use Rattle.std.proofs.lemmas.Result.{err_from_is_err_and}
use Rattle.c99_tree.specs.declared.expr.CExpr.{CExpr}
use Rattle.c99_tree.specs.Tree.{tree, exprs, Exprs}
use Rattle.c99_read.specs.ExprAt.{expr_at, onto, others_at}
use Rattle.c99_read.proofs.OthersGo.{exprs_push, others_end, others_out, others_fail, others_more}
use Rattle.c99_read.proofs.statements.more_args.Goals as goal

pub returns-in_default : goal.returns-in_default
returns-in_default c = c.loop-i.invariant ∙ others_end (expr_at 8192) (c.args.fuel - c.loop-i.i) c.loop-i.rest.now (exprs (map tree c.loop-i.all)) (omega arith) c.in_default.ensures

pub returns-in_err-e : goal.returns-in_err-e
returns-in_err-e c =
    let failed = others_fail c.in_err-e.field-0.0 (expr_at 8192) (c.args.fuel - c.loop-i.i) c.loop-i.rest.now c.in-Some.next.now (exprs (map tree c.loop-i.all)) (omega arith) c.in-Some.ensures c.in_err-e.ensures in
    let p = err_from_is_err_and c.from_residual.result c.from_residual.ensures.1 in
    rw p.1 (rw p.2 (rw c.loop-i.invariant failed))

pub loop-i-preserved : goal.loop-i-preserved
loop-i-preserved c =
    let h = others_more (expr_at 8192) (c.args.fuel - c.loop-i.i) (c.args.fuel - (c.loop-i.i + 1)) c.loop-i.rest.now c.in-Some.next.now c.in_ok-e.after.now (exprs (map tree c.loop-i.all)) (tree c.in_ok-e.e) (omega arith) (omega arith) c.in-Some.ensures c.in_ok-e.ensures in
    let pushed = ap (λ (all : List CExpr). exprs (map tree all)) c.in_ok-push.ensures.ok ∙ exprs_push c.loop-i.all c.in_ok-e.e in
    c.loop-i.invariant ∙ h ∙ ap (λ (es : Exprs). onto es (others_at (expr_at 8192) (c.args.fuel - (c.loop-i.i + 1)) c.in_ok-e.after.now)) (sym pushed)

pub returns : goal.returns
returns c = c.loop-i.invariant ∙ others_out (expr_at 8192) (c.args.fuel - c.loop-i.i) c.loop-i.rest.now (exprs (map tree c.loop-i.all)) (omega arith)
