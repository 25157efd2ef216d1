use Rattle.std.proofs.Common.{◌+◌, List, [], ◌∷◌, length-append, refl, sym, ap, ◌∙◌, subst, arith}
use Rattle.std.specs.Prelude.{OnOk}
use Rattle.std.proofs.lemmas.Result.{on_ok_weaker}
use Rattle.spec_text.specs.declared.surface.ConstForm.{ConstForm}
use Rattle.spec_text.specs.declared.surface.Expr.{Expr}
use Rattle.spec_text.specs.declared.surface.Decl.{Decl}
use Rattle.spec_text.specs.declared.surface.Decl.TheVariants as d
use Rattle.type_check.specs.Untyped.{reversed, scope_of}
use Rattle.type_check.specs.Table.{struct_names}
use Rattle.typed_spec.specs.declared.text.Text.{Text}
use Rattle.typed_spec.specs.Added.{Adds, IsTextAt, next_of}
use Rattle.typed_spec.proofs.AddedItems.{adds_struct}
use Rattle.typed_spec.proofs.TextNames.{text_stands, text_next}
use Rattle.typed_spec.proofs.reading.decl.Goals as goal

pub returns-in-Struct-clause-adds : goal.returns-in-Struct-clause-adds
returns-in-Struct-clause-adds c = λ names n before rest h.
    let a = c.args.arena.now in
    let p = c.in-Struct in
    let x : Decl = d.Struct p.at p.name p.fields in
    subst (λ (y : Decl). Adds n (reversed before (y ∷ rest)) a a (next_of (scope_of before (reversed before (y ∷ rest))) a y ∷ [])) (sym p.is)
    (adds_struct n (scope_of before (reversed before (x ∷ rest))) a p.at p.name p.fields)

pub returns-in-Struct-clause-text : goal.returns-in-Struct-clause-text
returns-in-Struct-clause-text c = λ names n before rest h.
    let p = c.in-Struct in
    let x : Decl = d.Struct p.at p.name p.fields in
    let old = c.args.text.now in
    let new : Text = record old { scope = record old.scope { closed = old.scope.closed + 1 } } in
    let q = subst (λ (y : Decl). IsTextAt names before (y ∷ rest) n old) p.is h in
    subst (λ (y : Decl). IsTextAt names (y ∷ before) rest n new) (sym p.is)
    (text_next x old new q refl (ap (λ i. i + 1) q.between.ended ∙ sym (length-append (struct_names before) (p.name.name ∷ []))))

pub returns-in-Extern-clause-adds : goal.returns-in-Extern-clause-adds
returns-in-Extern-clause-adds c = λ names n before rest h.
    let p = c.in-Extern in
    let s = scope_of before (reversed before (c.args.decl.now ∷ rest)) in
    subst (λ (y : Decl). OnOk c.extern_item.result (Adds n s.all c.args.arena.now c.extern_item.new.arena (next_of s c.args.arena.now y ∷ []))) (sym p.is)
    (c.extern_item.ensures.adds names s n p.at (text_stands h))

pub returns-in-Extern-clause-text : goal.returns-in-Extern-clause-text
returns-in-Extern-clause-text c = λ names n before rest h.
    let p = c.in-Extern in
    let x : Decl = d.Extern p.at p.name p.ty in
    let old = c.args.text.now in
    let q = subst (λ (y : Decl). IsTextAt names before (y ∷ rest) n old) p.is h in
    on_ok_weaker c.extern_item.result (λ e. subst (λ (y : Decl). IsTextAt names (y ∷ before) rest n old) (sym p.is) (text_next x old old q refl q.between.ended)) c.extern_item.ensures.total

pub returns-in-Extern-clause-total : goal.returns-in-Extern-clause-total
returns-in-Extern-clause-total c = on_ok_weaker c.extern_item.result (λ e. omega (arith, e)) c.extern_item.ensures.total

pub returns-in-Extern-clause-closed : goal.returns-in-Extern-clause-closed
returns-in-Extern-clause-closed c = on_ok_weaker c.extern_item.result (λ e. omega arith) c.extern_item.ensures.total

pub returns-in-Stream-clause-adds : goal.returns-in-Stream-clause-adds
returns-in-Stream-clause-adds c = λ names n before rest h.
    let p = c.in-Stream in
    let s = scope_of before (reversed before (c.args.decl.now ∷ rest)) in
    subst (λ (y : Decl). OnOk c.stream_item.result (Adds n s.all c.args.arena.now c.stream_item.new.arena (next_of s c.args.arena.now y ∷ []))) (sym p.is)
    (subst (λ (zs : List ConstForm). OnOk c.stream_item.result (Adds n s.all c.args.arena.now c.stream_item.new.arena (next_of s c.args.arena.now (d.Stream p.at p.name p.ty zs p.expr) ∷ []))) c.as_slice.ensures (c.stream_item.ensures.adds names s n p.at (text_stands h)))

pub returns-in-Stream-clause-text : goal.returns-in-Stream-clause-text
returns-in-Stream-clause-text c = λ names n before rest h.
    let p = c.in-Stream in
    let x : Decl = d.Stream p.at p.name p.ty p.init p.expr in
    let old = c.args.text.now in
    let q = subst (λ (y : Decl). IsTextAt names before (y ∷ rest) n old) p.is h in
    on_ok_weaker c.stream_item.result (λ e. subst (λ (y : Decl). IsTextAt names (y ∷ before) rest n old) (sym p.is) (text_next x old old q refl q.between.ended)) c.stream_item.ensures.total

pub returns-in-Stream-clause-total : goal.returns-in-Stream-clause-total
returns-in-Stream-clause-total c = on_ok_weaker c.stream_item.result (λ e. omega (arith, e)) c.stream_item.ensures.total

pub returns-in-Stream-clause-closed : goal.returns-in-Stream-clause-closed
returns-in-Stream-clause-closed c = on_ok_weaker c.stream_item.result (λ e. omega arith) c.stream_item.ensures.total

pub returns-in-Def-clause-adds : goal.returns-in-Def-clause-adds
returns-in-Def-clause-adds c = λ names n before rest h.
    let p = c.in-Def in
    let s = scope_of before (reversed before (c.args.decl.now ∷ rest)) in
    subst (λ (y : Decl). OnOk c.def_item.result (Adds n s.all c.args.arena.now c.def_item.new.arena (next_of s c.args.arena.now y ∷ []))) (sym p.is)
    (c.def_item.ensures.adds names s n (text_stands h))

pub returns-in-Def-clause-text : goal.returns-in-Def-clause-text
returns-in-Def-clause-text c = λ names n before rest h.
    let p = c.in-Def in
    let x : Decl = d.Def p.at p.name p.ty p.expr in
    let old = c.args.text.now in
    let q = subst (λ (y : Decl). IsTextAt names before (y ∷ rest) n old) p.is h in
    on_ok_weaker c.def_item.result (λ e. subst (λ (y : Decl). IsTextAt names (y ∷ before) rest n old) (sym p.is) (text_next x old old q refl q.between.ended)) c.def_item.ensures.total

pub returns-in-Def-clause-total : goal.returns-in-Def-clause-total
returns-in-Def-clause-total c = on_ok_weaker c.def_item.result (λ e. omega (arith, e)) c.def_item.ensures.total

pub returns-in-Def-clause-closed : goal.returns-in-Def-clause-closed
returns-in-Def-clause-closed c = on_ok_weaker c.def_item.result (λ e. omega arith) c.def_item.ensures.total

pub returns-in-Trigger-clause-adds : goal.returns-in-Trigger-clause-adds
returns-in-Trigger-clause-adds c = λ names n before rest h.
    let p = c.in-Trigger in
    let s = scope_of before (reversed before (c.args.decl.now ∷ rest)) in
    subst (λ (y : Decl). OnOk c.trigger_item.result (Adds n s.all c.args.arena.now c.trigger_item.new.arena (next_of s c.args.arena.now y ∷ []))) (sym p.is)
    (subst (λ (zs : List Expr). OnOk c.trigger_item.result (Adds n s.all c.args.arena.now c.trigger_item.new.arena (next_of s c.args.arena.now (d.Trigger p.at p.name p.guard zs) ∷ []))) c.as_slice-in-Trigger.ensures (c.trigger_item.ensures.adds names s n p.at (text_stands h)))

pub returns-in-Trigger-clause-text : goal.returns-in-Trigger-clause-text
returns-in-Trigger-clause-text c = λ names n before rest h.
    let p = c.in-Trigger in
    let x : Decl = d.Trigger p.at p.name p.guard p.args in
    let old = c.args.text.now in
    let q = subst (λ (y : Decl). IsTextAt names before (y ∷ rest) n old) p.is h in
    on_ok_weaker c.trigger_item.result (λ e. subst (λ (y : Decl). IsTextAt names (y ∷ before) rest n old) (sym p.is) (text_next x old old q refl q.between.ended)) c.trigger_item.ensures.total

pub returns-in-Trigger-clause-total : goal.returns-in-Trigger-clause-total
returns-in-Trigger-clause-total c = on_ok_weaker c.trigger_item.result (λ e. omega (arith, e)) c.trigger_item.ensures.total

pub returns-in-Trigger-clause-closed : goal.returns-in-Trigger-clause-closed
returns-in-Trigger-clause-closed c = on_ok_weaker c.trigger_item.result (λ e. omega arith) c.trigger_item.ensures.total

pub returns-in-Observer-clause-adds : goal.returns-in-Observer-clause-adds
returns-in-Observer-clause-adds c = λ names n before rest h.
    let p = c.in-Observer in
    let s = scope_of before (reversed before (c.args.decl.now ∷ rest)) in
    subst (λ (y : Decl). OnOk c.observer_item.result (Adds n s.all c.args.arena.now c.observer_item.new.arena (next_of s c.args.arena.now y ∷ []))) (sym p.is)
    (c.observer_item.ensures.adds names s n p.at (text_stands h))

pub returns-in-Observer-clause-text : goal.returns-in-Observer-clause-text
returns-in-Observer-clause-text c = λ names n before rest h.
    let p = c.in-Observer in
    let x : Decl = d.Observer p.at p.name p.expr in
    let old = c.args.text.now in
    let q = subst (λ (y : Decl). IsTextAt names before (y ∷ rest) n old) p.is h in
    on_ok_weaker c.observer_item.result (λ e. subst (λ (y : Decl). IsTextAt names (y ∷ before) rest n old) (sym p.is) (text_next x old old q refl q.between.ended)) c.observer_item.ensures.total

pub returns-in-Observer-clause-total : goal.returns-in-Observer-clause-total
returns-in-Observer-clause-total c = on_ok_weaker c.observer_item.result (λ e. omega (arith, e)) c.observer_item.ensures.total

pub returns-in-Observer-clause-closed : goal.returns-in-Observer-clause-closed
returns-in-Observer-clause-closed c = on_ok_weaker c.observer_item.result (λ e. omega arith) c.observer_item.ensures.total
