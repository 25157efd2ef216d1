use Rattle.std.proofs.Common.{length, [], ◌∷◌, ap, ◌∙◌, subst}
use Rattle.type_check.specs.Judged.{integer}
use Rattle.typed_text.specs.ReadSpec.{scalar_of}
use Rattle.typed_spec.specs.Made.{Fills}
use Rattle.typed_spec.specs.Windows.{window_form}
use Rattle.typed_spec.proofs.Making.{library_made}
use Rattle.typed_spec.proofs.Lists.{type_made}
use Rattle.typed_spec.proofs.forms.over_samples.Goals as goal

pub returns-clause-made : goal.returns-clause-made
returns-clause-made c = λ names start mid x blank d e v w k.
    let g = c.window_form-form.ensures ∙ ap (window_form c.args.window c.args.n) (c.scalar_of.ensures names x.judged (type_made k)) in
    let f = subst (λ k. Fills c.args.arena.now c.fill.new.self k (record { form = c.window_form-form.result; args = c.args.e.id ∷ []; at = c.args.at }) c.in_ok-id.id) e
    (subst (λ is. Fills c.args.arena.now c.fill.new.self c.args.number (record { form = c.window_form-form.result; args = is; at = c.args.at }) c.in_ok-id.id) c.in_ok-args.ensures c.in_ok-id.ensures.fills) in
    let h = subst (λ z. Fills c.args.arena.now c.fill.new.self (length start.forms.items) (record { form = z; args = c.args.e.id ∷ []; at = c.args.at }) c.in_ok-id.id) g f in
    library_made start blank (window_form c.args.window c.args.n (scalar_of x)) c.args.at c.in_ok-id.id c.integer-ty.result (integer c.args.at x.judged) v w k h (c.integer-ty.ensures names x.judged (type_made k))
