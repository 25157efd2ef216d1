use Rattle.std.proofs.Common.{sym, ap, ◌∙◌, subst}
use Rattle.std.specs.Prelude.{Ok, Err}
use Rattle.type_check.specs.declared.fault.TypeFault.TheVariants.{Unknown}
use Rattle.type_check.specs.declared.known.Known.TheVariants as known
use Rattle.type_check.specs.declared.known.Element.TheVariants as element
use Rattle.type_check.specs.Judged.{Judged, form_step, judge_form, type_of, on_elements}
use Rattle.spec_text.specs.FoldRows.{type-Scalar, type-Named, type-Array}
use Rattle.type_check.specs.Standing.{GivesForm, IsNumbered}
use Rattle.type_check.proofs.Forms.{scalar_form, named_form, named_none, array_form, array_none}
use Rattle.type_check.proofs.structs.Structs.+form.Goals as goal

pub returns-in-Scalar : goal.returns-in-Scalar
unfolding judge_form
returns-in-Scalar t c = λ names before h.
    subst (λ (j : Judged). GivesForm names c.args.self.now.all.items before j (Ok (known.Element (element.Scalar c.in-Scalar.scalar)))) (sym (ap (judge_form before) c.in-Scalar.is ∙ type-Scalar (form_step before) c.in-Scalar.at c.in-Scalar.scalar))
    (scalar_form names c.args.self.now.all.items before c.in-Scalar.scalar)

pub returns-in-Some : goal.returns-in-Some
unfolding judge_form
returns-in-Some t c = λ names before h.
    let x = c.in-Named.x in
    subst (λ (j : Judged). GivesForm names c.args.self.now.all.items before j (Ok (known.Element (element.Struct c.in-Some.number)))) (sym (ap (judge_form before) c.in-Named.is ∙ type-Named (form_step before) x))
    (named_form names c.args.self.now.all.items before x c.in-Some.number (subst (λ o. IsNumbered names before c.args.self.now.all.items x.name o) (sym c.number.ensures ∙ c.in-Some.is) (h.numbers_are x.name)))

pub returns-in-None : goal.returns-in-None
unfolding judge_form
returns-in-None t c = λ names before h.
    let x = c.in-Named.x in
    subst (λ (j : Judged). GivesForm names c.args.self.now.all.items before j (Err (Unknown x.at))) (sym (ap (judge_form before) c.in-Named.is ∙ type-Named (form_step before) x))
    (named_none names c.args.self.now.all.items before x (subst (λ o. IsNumbered names before c.args.self.now.all.items x.name o) (sym c.number.ensures ∙ c.in-None.is) (h.numbers_are x.name)))

pub returns-in-Ok : goal.returns-in-Ok
unfolding judge_form
returns-in-Ok t c = λ names before h.
    let all = c.args.self.now.all.items in
    let a = c.in-Array in
    let e = judge_form before a.elem in
    let g = subst (λ f. GivesForm names all before (judge_form before f) (Ok c.in-Ok.elem)) c.get.ensures (c.in-Ok.ensures names before h) in
    subst (λ (j : Judged). GivesForm names all before j c.array.result) (sym (ap (judge_form before) a.is ∙ type-Array (form_step before) a.at a.elem a.n))
    (array_form names all before a.at a.n e c.in-Ok.elem g.0 c.array.result (c.array.ensures names before g.0.ty g.0.means (g.1 g.0.ty g.0.ty_is)))

pub returns-in-Err : goal.returns-in-Err
unfolding judge_form
returns-in-Err t c = λ names before h.
    let all = c.args.self.now.all.items in
    let a = c.in-Array in
    let e = judge_form before a.elem in
    let g = subst (λ f. GivesForm names all before (judge_form before f) (Err c.in-Err.e)) c.get.ensures (c.in-Err.ensures names before h) in
    subst (λ (j : Judged). GivesForm names all before j (Err c.in-Err.e)) (sym (ap (judge_form before) a.is ∙ type-Array (form_step before) a.at a.elem a.n))
    (array_none names all before e (on_elements before a.at a.n (type_of e)) c.in-Err.e g)
