use Rattle.std.proofs.Common.{[], ◌∷◌, subst}
use Rattle.type_check.specs.Judged.{truths}
use Rattle.typed_spec.specs.Made.{Fills}
use Rattle.typed_spec.proofs.Making.{makes_then, library_made}
use Rattle.typed_spec.proofs.Lists.{type_made}
use Rattle.typed_spec.proofs.forms.over_truths.Goals as goal

pub returns-clause-made : goal.returns-clause-made
returns-clause-made c = λ names start mid late x y blank d e v w k l.
    let f = subst (λ k. Fills c.args.arena.now c.fill.new.self k (record { form = c.args.form; args = c.args.p.id ∷ c.args.q.id ∷ []; at = c.args.at }) c.in_ok-id.id) e
    (subst (λ is. Fills c.args.arena.now c.fill.new.self c.args.number (record { form = c.args.form; args = is; at = c.args.at }) c.in_ok-id.id) c.in_ok-args.ensures c.in_ok-id.ensures.fills) in
    library_made start blank c.args.form c.args.at c.in_ok-id.id c.truths-ty.result (truths c.args.at (x.judged ∷ y.judged ∷ [])) v w (makes_then k l) f
    (c.truths-ty.ensures names x.judged y.judged d (type_made k) (type_made l))
