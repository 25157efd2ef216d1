use Rattle.std.proofs.Common.{[], refl, subst}
use Rattle.stream_core.specs.declared.node.LibForm.TheVariants as form
use Rattle.type_check.specs.NamedType.{bool}
use Rattle.type_check.specs.Judged.{has, judged}
use Rattle.type_check.specs.Standing.{both_some}
use Rattle.typed_spec.specs.Made.{Fills}
use Rattle.typed_spec.proofs.Making.{makes_none, library_made}
use Rattle.typed_spec.proofs.forms.clock.Goals as goal

pub returns-clause-made : goal.returns-clause-made
returns-clause-made c = λ names s n.
    let a = c.args.arena.now in
    let f = subst (λ k. Fills c.reserve.new.self c.fill.new.self k (record { form = form.Clock c.args.period c.args.phase; args = []; at = c.args.at }) c.in_ok-id.id) c.in_ok-number.ensures.number
    (subst (λ is. Fills c.reserve.new.self c.fill.new.self c.in_ok-number.number (record { form = form.Clock c.args.period c.args.phase; args = is; at = c.args.at }) c.in_ok-id.id) c.new.ensures c.in_ok-id.ensures.fills) in
    library_made a _ (form.Clock c.args.period c.args.phase) c.args.at c.in_ok-id.id _ (judged [] (has bool)) c.reserve.ensures.spec c.in_ok-number.ensures.forms (makes_none names c.reserve.new.self) f (both_some (record { is = refl }))
