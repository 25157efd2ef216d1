use Rattle.std.proofs.Common.{◌≡◌, Bool, [], ◌∷◌, refl, sym, ◌∙◌, subst}
use Rattle.std.specs.Prelude.{Option}
use Rattle.std.specs.List.{list_all}
use Rattle.type_check.specs.declared.fault.TypeFault.TheVariants.{TypeClash}
use Rattle.type_check.specs.declared.known.Known.{Known}
use Rattle.type_check.specs.NamedType.{bool, same_type}
use Rattle.type_check.specs.Judged.{judged, if_so, type_of, types_of, judge_form, judge_expr}
use Rattle.type_check.specs.Untyped.{of_type}
use Rattle.type_check.specs.Standing.{IsTyped, GivesDone}
use Rattle.type_check.proofs.Meaning.{same_means}
use Rattle.type_check.proofs.Nodes.{parts_two, parts_typed, typed_means}
use Rattle.type_check.proofs.Declared.{untyped_done, and_true}
use Rattle.type_check.proofs.declarations.def.Goals as goal

pub returns-in-Some : goal.returns-in-Some
returns-in-Some c = λ names s x h.
    let n = c.args.scope.now.closed in
    let o = c.args.order.now in
    let j = judge_form s.before c.args.ty.now in
    let v = judge_expr s c.args.e.now in
    let r = c.in_ok-ty.ensures names s.before h.distinct h.behind in
    let u = subst (λ (k : Option Known). IsTyped names n c.written.new.order c.expr.new.order v k) c.in-Some.is (c.in_ok-value.ensures names s h) in
    let b : c.is_same.result ≡ list_all (same_type (type_of j)) (types_of (v ∷ [])) =
    c.is_same.ensures ∙ sym (same_means names h.distinct c.in_ok-ty.ty c.in-Some.value (type_of j) (type_of v) (typed_means r) (typed_means u)) ∙ sym (and_true (same_type (type_of j) (type_of v))) in
    subst (λ (x : Bool). GivesDone names n o c.expr.new.order (judged (j ∷ v ∷ []) (if_so x bool (TypeClash c.args.at))) c.fits.result) b
    (c.fits.ensures names n o c.expr.new.order (j ∷ v ∷ []) (parts_typed (parts_two r u) refl))

pub returns-in-None : goal.returns-in-None
returns-in-None c = λ names s x h.
    let n = c.args.scope.now.closed in
    let o = c.args.order.now in
    let j = judge_form s.before c.args.ty.now in
    let v = judge_expr s c.args.e.now in
    let r = c.in_ok-ty.ensures names s.before h.distinct h.behind in
    let u = subst (λ (k : Option Known). IsTyped names n c.written.new.order c.expr.new.order v k) c.in-None.is (c.in_ok-value.ensures names s h) in
    untyped_done (of_type c.args.at (type_of j) (types_of (v ∷ []))) (parts_two r u) refl
