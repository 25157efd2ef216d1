use Rattle.std.proofs.Common.{◌≡◌, Bool, true, [], ◌∷◌, ◌++◌, map, sym, ap, ◌∙◌, subst}
use Rattle.std.specs.Prelude.{◌&&◌, is_some, Option, Some, None}
use Rattle.std.specs.List.{list_all}
use Rattle.std.specs.Option.{option_map}
use Rattle.std.specs.Global.{Vec}
use Rattle.std.proofs.lemmas.Result.{err_from_is_err_and}
use Rattle.type_check.specs.declared.fault.TypeFault.TheVariants.{TypeClash}
use Rattle.type_check.specs.declared.known.Known.{Known}
use Rattle.type_check.specs.contracts.known.KnownPartialEq.TheImpl.{ghosts as known_eq}
use Rattle.type_check.specs.NamedType.{bool, same_type}
use Rattle.type_check.specs.Judged.{judged, if_so, or_else, first_of, type_of, types_of, judge_form, judge_const, judge_expr}
use Rattle.type_check.specs.Untyped.{of_type}
use Rattle.type_check.specs.Standing.{IsTyped, GivesDone, all_known}
use Rattle.type_check.proofs.Nodes.{parts_more, parts_typed, typed_means, first_at, judged_fault, all_are, none_all}
use Rattle.type_check.proofs.Declared.{done_on, done_parts, first_front, parts_cons, all_last, and_false, untyped_done, of_same_type}
use Rattle.type_check.proofs.declarations.stream.Goals as goal

pub returns-in_err-parts : goal.returns-in_err-parts
returns-in_err-parts c = λ names s x h.
    let n = c.args.scope.now.closed in
    let o = c.args.order.now in
    let j = judge_form s.before c.args.ty.now in
    let v = judge_expr s c.args.e.now in
    let r = c.in_ok-ty.ensures names s.before h.distinct h.behind in
    let ps = map (judge_const s) c.args.init.now in
    let all = j ∷ (ps ++ v ∷ []) in
    let verdict = of_type c.args.at (type_of j) (types_of (ps ++ v ∷ [])) in
    let p = err_from_is_err_and c.from_residual-in_err-parts.result c.from_residual-in_err-parts.ensures.1 in
    rw p.1 (rw p.2 (done_parts (Unit {0}) names n c.written.new.order c.constants.new.order o c.constants.new.order ps (judged all verdict) c.in_err-parts.field-0.0
    (λ y g. judged_fault all verdict y (ap (λ q. or_else q (first_of (ps ++ v ∷ []))) r.faultless ∙ first_front ps (v ∷ []) y g)) (c.in_err-parts.ensures names s h)))

pub returns-in_err-value : goal.returns-in_err-value
returns-in_err-value c = λ names s x h.
    let n = c.args.scope.now.closed in
    let o = c.args.order.now in
    let j = judge_form s.before c.args.ty.now in
    let v = judge_expr s c.args.e.now in
    let r = c.in_ok-ty.ensures names s.before h.distinct h.behind in
    let ps = map (judge_const s) c.args.init.now in
    let all = j ∷ (ps ++ v ∷ []) in
    let verdict = of_type c.args.at (type_of j) (types_of (ps ++ v ∷ [])) in
    let p = err_from_is_err_and c.from_residual-in_err-value.result c.from_residual-in_err-value.ensures.1 in
    let q = c.in_ok-parts.ensures names s h in
    rw p.1 (rw p.2 (done_on (Unit {0}) names n c.constants.new.order c.expr.new.order o c.expr.new.order v (judged all verdict) c.in_err-value.field-0.0
    (λ y g. judged_fault all verdict y (ap (λ k. or_else k (first_of (ps ++ v ∷ []))) r.faultless ∙ first_at ps v [] y q.faultless g)) (c.in_err-value.ensures names s h)))

pub returns-in_default : goal.returns-in_default
returns-in_default c = λ names s x h.
    let n = c.args.scope.now.closed in
    let o = c.args.order.now in
    let j = judge_form s.before c.args.ty.now in
    let v = judge_expr s c.args.e.now in
    let r = c.in_ok-ty.ensures names s.before h.distinct h.behind in
    let ps = map (judge_const s) c.args.init.now in
    let all = j ∷ (ps ++ v ∷ []) in
    let verdict = of_type c.args.at (type_of j) (types_of (ps ++ v ∷ [])) in
    let ks = c.in_ok-parts.parts.items in
    let q = c.in_ok-parts.ensures names s h in
    let z : all_known ks ≡ None = ap all_known (sym c.as_slice.ensures.value) ∙ sym c.in_ok-values.ensures.all ∙ ap (option_map (λ (w : Vec Known). w.items)) c.in_default.is in
    untyped_done verdict (parts_cons r (parts_more q (c.in_ok-value.ensures names s h))) (all_last ks c.in_ok-value.value ∙ ap (λ b. b && is_some c.in_ok-value.value) (none_all ks z))

pub returns-in_default-value : goal.returns-in_default-value
returns-in_default-value c = λ names s x h.
    let n = c.args.scope.now.closed in
    let o = c.args.order.now in
    let j = judge_form s.before c.args.ty.now in
    let v = judge_expr s c.args.e.now in
    let r = c.in_ok-ty.ensures names s.before h.distinct h.behind in
    let ps = map (judge_const s) c.args.init.now in
    let all = j ∷ (ps ++ v ∷ []) in
    let verdict = of_type c.args.at (type_of j) (types_of (ps ++ v ∷ [])) in
    let ks = c.in_ok-parts.parts.items in
    let q = c.in_ok-parts.ensures names s h in
    untyped_done verdict (parts_cons r (parts_more q (c.in_ok-value.ensures names s h))) (all_last ks c.in_ok-value.value ∙ ap (λ (k : Option Known). list_all is_some ks && is_some k) c.in_default-value.is ∙ and_false (list_all is_some ks))

pub returns : goal.returns
returns c = λ names s x h.
    let n = c.args.scope.now.closed in
    let o = c.args.order.now in
    let j = judge_form s.before c.args.ty.now in
    let v = judge_expr s c.args.e.now in
    let r = c.in_ok-ty.ensures names s.before h.distinct h.behind in
    let ps = map (judge_const s) c.args.init.now in
    let all = j ∷ (ps ++ v ∷ []) in
    let verdict = of_type c.args.at (type_of j) (types_of (ps ++ v ∷ [])) in
    let ks = c.in_ok-parts.parts.items in
    let js = c.in-Some.values.items in
    let q = c.in_ok-parts.ensures names s h in
    let z : all_known ks ≡ Some js = ap all_known (sym c.as_slice.ensures.value) ∙ sym c.in_ok-values.ensures.all ∙ ap (option_map (λ (w : Vec Known). w.items)) c.in-Some.is in
    let w = all_are names ps ks js q.types_are z in
    let u = subst (λ (k : Option Known). IsTyped names n c.constants.new.order c.expr.new.order v k) c.in-Some-value.is (c.in_ok-value.ensures names s h) in
    let k = c.in_ok-ty.ty in
    let b : c.both.result ≡ list_all (same_type (type_of j)) (types_of (ps ++ v ∷ [])) =
    c.both.ensures ∙ ap (λ (y : Bool). y && c.is_same.result) (c.are_all.ensures ∙ ap (list_all (λ other. known_eq.eq k other)) c.as_slice-2.ensures.value)
    ∙ ap (λ (y : Bool). list_all (λ other. known_eq.eq k other) js && y) c.is_same.ensures
    ∙ of_same_type names h.distinct k (type_of j) (typed_means r) js ps w.mean c.in-Some-value.value v (typed_means u) in
    subst (λ (y : Bool). GivesDone names n o c.expr.new.order (judged all (if_so y bool (TypeClash c.args.at))) c.fits.result) b
    (c.fits.ensures names n o c.expr.new.order all (parts_typed (parts_cons r (parts_more q u)) (all_last ks (Some c.in-Some-value.value) ∙ ap (λ y. y && true) w.all)))
