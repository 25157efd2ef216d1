use Rattle.std.proofs.Common.{arith, ◌≡◌, ◌+◌, ◌-◌, List, [], ◌∷◌, ◌++◌, map, length, codes, refl, sym, ap, ◌∙◌}
use Rattle.std.proofs.lemmas.Result.{err_from_is_err_and}
use Rattle.c99_tree.specs.declared.unit.CStmt.{CStmt}
use Rattle.c99_tree.specs.Tree.{Stmt, statement}
use Rattle.c99_read.specs.Front.{after_all, many, begins}
use Rattle.c99_read.specs.LineAt.{statement_at}
use Rattle.c99_read.proofs.ManyGo.{many_end, many_out, many_fail, many_more}
use Rattle.c99_read.proofs.statements.statements_at.Goals as goal

map_push : (all : List CStmt) (x : CStmt) → map statement (all ++ x ∷ []) ≡ map statement all ++ statement x ∷ []
map_push [] x = refl
map_push (a ∷ all) x = ap (λ (b : List Stmt). statement a ∷ b) (map_push all x)

pub returns-then-not-begins : goal.returns-then-not-begins
returns-then-not-begins c = c.loop-i.invariant ∙ many_end (begins (codes " ")) (statement_at c.args.rings.now) (length c.args.bytes.now - c.loop-i.i) c.loop-i.rest.now (map statement c.loop-i.all) (omega arith) (sym c.begins.ensures ∙ c.if-not-begins.true)

pub returns-in_err-x : goal.returns-in_err-x
returns-in_err-x c =
    let failed = many_fail (begins (codes " ")) (statement_at c.args.rings.now) c.in_err-x.field-0.0 (length c.args.bytes.now - c.loop-i.i) c.loop-i.rest.now (map statement c.loop-i.all) (omega arith) (sym c.begins.ensures ∙ c.if-not-begins.false) c.in_err-x.ensures in
    let p = err_from_is_err_and c.from_residual.result c.from_residual.ensures.1 in
    rw p.1 (rw p.2 (rw c.loop-i.invariant failed))

pub loop-i-preserved : goal.loop-i-preserved
loop-i-preserved c =
    let h = many_more (begins (codes " ")) (statement_at c.args.rings.now) (length c.args.bytes.now - c.loop-i.i) (length c.args.bytes.now - (c.loop-i.i + 1)) c.loop-i.rest.now c.in_ok-x.after.now (map statement c.loop-i.all) (statement c.in_ok-x.x) (omega arith) (omega arith) (sym c.begins.ensures ∙ c.if-not-begins.false) c.in_ok-x.ensures in
    let pushed = ap (λ (all : List CStmt). map statement all) c.in_ok-push.ensures.ok ∙ map_push c.loop-i.all c.in_ok-x.x in
    c.loop-i.invariant ∙ h ∙ ap (λ (all : List Stmt). after_all all (many (begins (codes " ")) (statement_at c.args.rings.now) (length c.args.bytes.now - (c.loop-i.i + 1)) c.in_ok-x.after.now)) (sym pushed)

pub returns : goal.returns
returns c = c.loop-i.invariant ∙ many_out (begins (codes " ")) (statement_at c.args.rings.now) (length c.args.bytes.now - c.loop-i.i) c.loop-i.rest.now (map statement c.loop-i.all) (omega arith)
