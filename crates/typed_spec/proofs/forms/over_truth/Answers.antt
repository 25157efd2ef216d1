use Rattle.std.proofs.Common.{[], ◌∷◌, subst}
use Rattle.type_check.specs.Judged.{truths}
use Rattle.typed_spec.specs.Made.{Fills}
use Rattle.typed_spec.proofs.Making.{library_made}
use Rattle.typed_spec.proofs.Lists.{type_made}
use Rattle.typed_spec.proofs.forms.over_truth.Goals as goal

pub returns-clause-made : goal.returns-clause-made
returns-clause-made c = λ names start mid x blank d e v w k.
    let f = subst (λ k. Fills c.args.arena.now c.fill.new.self k (record { form = c.args.form; args = c.args.p.id ∷ []; at = c.args.at }) c.in_ok-id.id) e
    (subst (λ is. Fills c.args.arena.now c.fill.new.self c.args.number (record { form = c.args.form; args = is; at = c.args.at }) c.in_ok-id.id) c.in_ok-args.ensures c.in_ok-id.ensures.fills) in
    library_made start blank c.args.form c.args.at c.in_ok-id.id c.truth-ty.result (truths c.args.at (x.judged ∷ [])) v w k f (c.truth-ty.ensures names x.judged d (type_made k))
