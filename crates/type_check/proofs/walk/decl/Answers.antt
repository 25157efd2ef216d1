use Rattle.std.proofs.Common.{List, ◌∷◌, refl, sym, subst}
use Rattle.std.specs.Prelude.{Err, OnOk}
use Rattle.std.proofs.lemmas.Result.{err_from_is_err_and}
use Rattle.spec_text.specs.declared.surface.ConstForm.{ConstForm}
use Rattle.spec_text.specs.declared.surface.Expr.{Expr}
use Rattle.spec_text.specs.declared.surface.Decl.{Decl}
use Rattle.spec_text.specs.declared.surface.Decl.TheVariants as d
use Rattle.type_check.specs.Judged.{judge_expr, judge_form}
use Rattle.type_check.specs.Untyped.{reversed, scope_of, judge_decl}
use Rattle.type_check.specs.Standing.{GivesDone}
use Rattle.type_check.specs.Table.{HasSent}
use Rattle.type_check.specs.Walked.{IsPassed, GivesPassed}
use Rattle.type_check.proofs.Walking.{between_scope, between_first, passed_done, passes, type_passes, node_passes}
use Rattle.type_check.proofs.walk.decl.Goals as goal

pub returns-in-Stream-clause-gives : goal.returns-in-Stream-clause-gives
returns-in-Stream-clause-gives c = λ names before rest b m.
    let n = c.args.scope.now.closed in
    let o = c.args.order.now in
    let p = c.in-Stream in
    let all = reversed before (c.args.decl.now ∷ rest) in
    let s = scope_of before all in
    let h = between_scope names before (c.args.decl.now ∷ rest) c.args.scope.now b in
    let x : Decl = d.Stream p.at p.name p.ty p.init p.expr in
    subst (λ (y : Decl). GivesPassed names n n o c.stream.new.order (judge_decl all before y) y c.stream.result) (sym p.is)
    (passes (Unit {0}) names n o c.stream.new.order (judge_decl all before x) x c.stream.result refl
    (subst (λ (is : List ConstForm). GivesDone names n o c.stream.new.order (judge_decl all before (d.Stream p.at p.name p.ty is p.expr)) c.stream.result) c.as_slice-in-Stream.ensures (c.stream.ensures names s p.name h)))

pub returns-in-Def-clause-gives : goal.returns-in-Def-clause-gives
returns-in-Def-clause-gives c = λ names before rest b m.
    let n = c.args.scope.now.closed in
    let o = c.args.order.now in
    let p = c.in-Def in
    let all = reversed before (c.args.decl.now ∷ rest) in
    let s = scope_of before all in
    let h = between_scope names before (c.args.decl.now ∷ rest) c.args.scope.now b in
    let x : Decl = d.Def p.at p.name p.ty p.expr in
    subst (λ (y : Decl). GivesPassed names n n o c.def.new.order (judge_decl all before y) y c.def.result) (sym p.is)
    (passes (Unit {0}) names n o c.def.new.order (judge_decl all before x) x c.def.result refl (c.def.ensures names s p.name h))

pub returns-in-Trigger-clause-gives : goal.returns-in-Trigger-clause-gives
returns-in-Trigger-clause-gives c = λ names before rest b m.
    let n = c.args.scope.now.closed in
    let o = c.args.order.now in
    let p = c.in-Trigger in
    let all = reversed before (c.args.decl.now ∷ rest) in
    let s = scope_of before all in
    let h = between_scope names before (c.args.decl.now ∷ rest) c.args.scope.now b in
    let x : Decl = d.Trigger p.at p.name p.guard p.args in
    subst (λ (y : Decl). GivesPassed names n n o c.trigger.new.order (judge_decl all before y) y c.trigger.result) (sym p.is)
    (passes (Unit {0}) names n o c.trigger.new.order (judge_decl all before x) x c.trigger.result refl
    (subst (λ (es : List Expr). GivesDone names n o c.trigger.new.order (judge_decl all before (d.Trigger p.at p.name p.guard es)) c.trigger.result) c.as_slice-in-Trigger.ensures (c.trigger.ensures.gives names s h m)))

pub returns-in-Trigger-clause-sent : goal.returns-in-Trigger-clause-sent
returns-in-Trigger-clause-sent c = λ names before rest b m.
    let p = c.in-Trigger in
    let all = reversed before (c.args.decl.now ∷ rest) in
    let s = scope_of before all in
    let h = between_scope names before (c.args.decl.now ∷ rest) c.args.scope.now b in
    subst (λ (y : Decl). OnOk c.trigger.result (HasSent names all (y ∷ before) c.trigger.new.sent.entries)) (sym p.is)
    (subst (λ (es : List Expr). OnOk c.trigger.result (HasSent names all (d.Trigger p.at p.name p.guard es ∷ before) c.trigger.new.sent.entries)) c.as_slice-in-Trigger.ensures (c.trigger.ensures.sent names s h m))

pub returns-in_ok-written-in-Extern-clause-gives : goal.returns-in_ok-written-in-Extern-clause-gives
returns-in_ok-written-in-Extern-clause-gives c = λ names before rest b m.
    let n = c.args.scope.now.closed in
    let o = c.args.order.now in
    let p = c.in-Extern in
    let all = reversed before (c.args.decl.now ∷ rest) in
    let r = c.in_ok-written-in-Extern.ensures names before b.distinct (between_first names before (c.args.decl.now ∷ rest) c.args.scope.now b) in
    subst (λ (y : Decl). IsPassed names n n o c.written.new.order (judge_decl all before y) y) (sym p.is)
    (passed_done refl (record { faultless = r.faultless; grows = r.grows }))

pub returns-in_err-written-in-Extern-clause-gives : goal.returns-in_err-written-in-Extern-clause-gives
returns-in_err-written-in-Extern-clause-gives c = λ names before rest b m.
    let n = c.args.scope.now.closed in
    let o = c.args.order.now in
    let p = c.in-Extern in
    let all = reversed before (c.args.decl.now ∷ rest) in
    let q = err_from_is_err_and c.from_residual.result c.from_residual.ensures.1 in
    rw q.1 (rw q.2 (subst (λ (y : Decl). GivesPassed {X = Unit {0}} names n n o c.written.new.order (judge_decl all before y) y (Err c.in_err-written-in-Extern.field-0.0)) (sym p.is)
    (type_passes (Unit {0}) names n o c.written.new.order (judge_form before p.ty) (d.Extern p.at p.name p.ty) c.in_err-written-in-Extern.field-0.0
    (c.in_err-written-in-Extern.ensures names before b.distinct (between_first names before (c.args.decl.now ∷ rest) c.args.scope.now b)))))

pub returns-in_ok-expr-in-Observer-clause-gives : goal.returns-in_ok-expr-in-Observer-clause-gives
returns-in_ok-expr-in-Observer-clause-gives c = λ names before rest b m.
    let n = c.args.scope.now.closed in
    let o = c.args.order.now in
    let p = c.in-Observer in
    let all = reversed before (c.args.decl.now ∷ rest) in
    let r = c.in_ok-expr-in-Observer.ensures names (scope_of before all) (between_scope names before (c.args.decl.now ∷ rest) c.args.scope.now b) in
    subst (λ (y : Decl). IsPassed names n n o c.expr.new.order (judge_decl all before y) y) (sym p.is)
    (passed_done refl (record { faultless = r.faultless; grows = r.grows }))

pub returns-in_err-expr-in-Observer-clause-gives : goal.returns-in_err-expr-in-Observer-clause-gives
returns-in_err-expr-in-Observer-clause-gives c = λ names before rest b m.
    let n = c.args.scope.now.closed in
    let o = c.args.order.now in
    let p = c.in-Observer in
    let all = reversed before (c.args.decl.now ∷ rest) in
    let q = err_from_is_err_and c.from_residual-in_err-expr-in-Observer.result c.from_residual-in_err-expr-in-Observer.ensures.1 in
    rw q.1 (rw q.2 (subst (λ (y : Decl). GivesPassed {X = Unit {0}} names n n o c.expr.new.order (judge_decl all before y) y (Err c.in_err-expr-in-Observer.field-0.0)) (sym p.is)
    (node_passes (Unit {0}) names n o c.expr.new.order (judge_expr (scope_of before all) p.value) (d.Observer p.at p.name p.value) c.in_err-expr-in-Observer.field-0.0
    (c.in_err-expr-in-Observer.ensures names (scope_of before all) (between_scope names before (c.args.decl.now ∷ rest) c.args.scope.now b)))))
