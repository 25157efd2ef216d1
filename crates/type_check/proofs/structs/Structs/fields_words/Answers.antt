use Rattle.std.proofs.Common.{◌≡◌, ◌+◌, ℕ, ◌∷◌, map, drop, sum, sym, ap, ◌∙◌, arith}
use Rattle.std.proofs.lemmas.List.{drop_more, drop_all}
use Rattle.std.proofs.lemmas.List.Sums.{sum_by-cons}
use Rattle.std.proofs.lemmas.Bool.Decides.{nat_tests}
use Rattle.spec_text.specs.declared.surface.FieldForm.{FieldForm}
use Rattle.type_check.specs.NamedType.{form_words, struct_words}
use Rattle.type_check.specs.Standing.{capped}
use Rattle.type_check.proofs.Widths.{summed}
use Rattle.type_check.proofs.structs.Structs.fields_words.Goals as goal

pub loop-field-init : goal.loop-field-init
loop-field-init c = λ names ds h. ap capped (omega arith)

pub loop-field-preserved : goal.loop-field-preserved
loop-field-preserved c = λ names ds h.
    let g : FieldForm → ℕ = λ (f : FieldForm). form_words (struct_words ds) f.ty in
    let fields = c.args.fields.now in
    let i = c.loop-field.field-index in
    let x = c.field-item.result in
    let rest = sum (map g (drop (i + 1) fields)) in
    let e : sum (map g (drop i fields)) ≡ g x + rest = ap (λ ys. sum (map g ys)) (drop_more fields i _ c.loop-field-test.true ∙ ap (λ y. y ∷ drop (i + 1) fields) (sym c.field-item.is)) ∙ sum_by-cons (λ k. k) (g x) (map g (drop (i + 1) fields)) in
    ap (λ k. capped (k + rest)) c.capped-words.ensures
    ∙ summed c.loop-field.words c.form_words.result c.saturating_add.result (g x) rest c.saturating_add.ensures (c.form_words.ensures names ds h)
    ∙ ap (λ k. capped (c.loop-field.words + k)) (sym e) ∙ c.loop-field.invariant names ds h

pub returns : goal.returns
returns c = λ names ds h.
    let g : FieldForm → ℕ = λ (f : FieldForm). form_words (struct_words ds) f.ty in
    let fields = c.args.fields.now in
    let i = c.loop-field.field-index in
    let e : sum (map g (drop i fields)) ≡ 0 = ap (λ ys. sum (map g ys)) (drop_all i fields (grind (arith, nat_tests, c.loop-field-test.false))) in
    let z : c.loop-field.words ≡ c.loop-field.words + 0 = omega arith in
    c.capped.ensures ∙ ap capped z ∙ ap (λ k. capped (c.loop-field.words + k)) (sym e) ∙ c.loop-field.invariant names ds h
