use Rattle.std.proofs.Common.{◌≡◌, Bool, List, ◌∷◌, map, refl, sym, ap, ◌∙◌, subst}
use Rattle.std.specs.Prelude.{◌&&◌, is_some, Option, Some, None, Err}
use Rattle.std.specs.List.{list_all}
use Rattle.std.specs.Option.{option_map}
use Rattle.std.specs.Global.{Vec}
use Rattle.std.proofs.lemmas.Result.{err_from_is_err_and}
use Rattle.spec_text.specs.declared.surface.Decl.TheVariants as decl
use Rattle.type_check.specs.declared.fault.TypeFault.TheVariants.{TypeClash}
use Rattle.type_check.specs.declared.known.Known.{Known}
use Rattle.type_check.specs.NamedType.{bool}
use Rattle.type_check.specs.Judged.{judged, if_so, is_bool, type_of, types_of, judge_expr}
use Rattle.type_check.specs.Untyped.{first_sent, sent_types, agree}
use Rattle.type_check.specs.Standing.{IsTyped, IsDone, GivesDone, AllMean, all_known}
use Rattle.type_check.proofs.Nodes.{parts_typed, typed_means, all_are, none_all}
use Rattle.type_check.proofs.Declared.{parts_cons, and_false, untyped_done, done_turns}
use Rattle.type_check.proofs.FirstSent.{trigger_fits}
use Rattle.type_check.proofs.walk.sends.Goals as goal

pub returns-in_default-clause-gives : goal.returns-in_default-clause-gives
returns-in_default-clause-gives c = λ names s h m.
    let g = judge_expr s c.args.guard.now in
    let ps = map (judge_expr s) c.args.args.now in
    let before = s.before in
    let ks = c.in_ok-parts.parts.items in
    let z : all_known ks ≡ None = ap all_known (sym c.as_slice.ensures.value) ∙ sym c.in_ok-types.ensures.all ∙ ap (option_map (λ (w : Vec Known). w.items)) c.in_default.is in
    let verdict = if_so (is_bool (type_of g) && agree (sent_types s.all (first_sent (decl.Trigger c.args.at c.args.name.now c.args.guard.now c.args.args.now ∷ before) c.args.name.now.name)) (types_of ps)) bool (TypeClash c.args.at) in
    untyped_done verdict (parts_cons (c.in_ok-guard.ensures names s h) (c.in_ok-parts.ensures names s h)) (ap (λ b. is_some c.in_ok-guard.guard && b) (none_all ks z) ∙ and_false (is_some c.in_ok-guard.guard))

pub returns-in_default-guard-clause-gives : goal.returns-in_default-guard-clause-gives
returns-in_default-guard-clause-gives c = λ names s h m.
    let g = judge_expr s c.args.guard.now in
    let ps = map (judge_expr s) c.args.args.now in
    let before = s.before in
    let ks = c.in_ok-parts.parts.items in
    let verdict = if_so (is_bool (type_of g) && agree (sent_types s.all (first_sent (decl.Trigger c.args.at c.args.name.now c.args.guard.now c.args.args.now ∷ before) c.args.name.now.name)) (types_of ps)) bool (TypeClash c.args.at) in
    untyped_done verdict (parts_cons (c.in_ok-guard.ensures names s h) (c.in_ok-parts.ensures names s h)) (ap (λ (k : Option Known). is_some k && list_all is_some ks) c.in_default-guard.is)

pub returns-clause-gives : goal.returns-clause-gives
returns-clause-gives c = λ names s h m.
    let n = c.args.scope.now.closed in
    let o = c.args.order.now in
    let x = c.args.name.now in
    let g = judge_expr s c.args.guard.now in
    let ps = map (judge_expr s) c.args.args.now in
    let before = s.before in
    let ks = c.in_ok-parts.parts.items in
    let js = c.in-Some.types.items in
    let q = c.in_ok-parts.ensures names s h in
    let z : all_known ks ≡ Some js = ap all_known (sym c.as_slice.ensures.value) ∙ sym c.in_ok-types.ensures.all ∙ ap (option_map (λ (w : Vec Known). w.items)) c.in-Some.is in
    let w = all_are names ps ks js q.types_are z in
    let u = subst (λ (k : Option Known). IsTyped names n o c.expr.new.order g k) c.in-Some-guard.is (c.in_ok-guard.ensures names s h) in
    let k = c.in-Some-guard.guard in
    let agreed = agree (sent_types s.all (first_sent (decl.Trigger c.args.at x c.args.guard.now c.args.args.now ∷ before) x.name)) (types_of ps) in
    let b : c.both-fitting.result ≡ (is_bool (type_of g) && agreed) =
    trigger_fits names h.distinct s.all before c.args.at x c.args.guard.now c.args.args.now (type_of g) k (typed_means u) ps c.both-fitting.result c.is_same.result c.agrees.result refl c.both-fitting.ensures c.is_same.ensures
    (c.agrees.ensures names s.all before (types_of ps) h.distinct m (subst (λ (ls : List Known). AllMean names ls (types_of ps)) (sym c.as_slice-2.ensures.value) w.mean)) in
    let typed = parts_typed (parts_cons u q) w.all in
    subst (λ (y : Bool). IsDone names n o c.exprs.new.order (judged (g ∷ ps) (if_so y bool (TypeClash c.args.at)))) b
    (c.in_ok-fits.ensures names n o c.exprs.new.order (g ∷ ps) typed)

pub returns-in_err-fits-clause-gives : goal.returns-in_err-fits-clause-gives
returns-in_err-fits-clause-gives c = λ names s h m.
    let n = c.args.scope.now.closed in
    let o = c.args.order.now in
    let x = c.args.name.now in
    let g = judge_expr s c.args.guard.now in
    let ps = map (judge_expr s) c.args.args.now in
    let before = s.before in
    let ks = c.in_ok-parts.parts.items in
    let js = c.in-Some.types.items in
    let q = c.in_ok-parts.ensures names s h in
    let z : all_known ks ≡ Some js = ap all_known (sym c.as_slice.ensures.value) ∙ sym c.in_ok-types.ensures.all ∙ ap (option_map (λ (w : Vec Known). w.items)) c.in-Some.is in
    let w = all_are names ps ks js q.types_are z in
    let u = subst (λ (k : Option Known). IsTyped names n o c.expr.new.order g k) c.in-Some-guard.is (c.in_ok-guard.ensures names s h) in
    let k = c.in-Some-guard.guard in
    let agreed = agree (sent_types s.all (first_sent (decl.Trigger c.args.at x c.args.guard.now c.args.args.now ∷ before) x.name)) (types_of ps) in
    let b : c.both-fitting.result ≡ (is_bool (type_of g) && agreed) =
    trigger_fits names h.distinct s.all before c.args.at x c.args.guard.now c.args.args.now (type_of g) k (typed_means u) ps c.both-fitting.result c.is_same.result c.agrees.result refl c.both-fitting.ensures c.is_same.ensures
    (c.agrees.ensures names s.all before (types_of ps) h.distinct m (subst (λ (ls : List Known). AllMean names ls (types_of ps)) (sym c.as_slice-2.ensures.value) w.mean)) in
    let typed = parts_typed (parts_cons u q) w.all in
    let p = err_from_is_err_and c.from_residual-in_err-fits.result c.from_residual-in_err-fits.ensures.1 in
    rw p.1 (rw p.2 (done_turns (Unit {0}) (Vec (Option Known)) names n o c.exprs.new.order o c.exprs.new.order (judged (g ∷ ps) (if_so (is_bool (type_of g) && agreed) bool (TypeClash c.args.at))) c.in_err-fits.field-0.0
    (subst (λ (y : Bool). GivesDone {X = Unit {0}} names n o c.exprs.new.order (judged (g ∷ ps) (if_so y bool (TypeClash c.args.at))) (Err c.in_err-fits.field-0.0)) b
    (c.in_err-fits.ensures names n o c.exprs.new.order (g ∷ ps) typed))))
