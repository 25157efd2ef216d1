use Rattle.std.proofs.Common.{refl, sym, ap, ◌∙◌}
use Rattle.std.specs.Prelude.{is_some}
use Rattle.type_check.specs.declared.fault.TypeFault.TheVariants.{TypeClash}
use Rattle.type_check.specs.NamedType.{bool}
use Rattle.type_check.specs.Judged.{lacks, if_so, on_votes}
use Rattle.type_check.specs.Standing.{is_fault}
use Rattle.type_check.proofs.Reasons.{verdict_is, more_of, none_of, votes_are}
use Rattle.type_check.proofs.verdicts.on_agreed.Goals as goal

pub returns-in_default : goal.returns-in_default
returns-in_default c = λ names ts d ms. verdict_is names (lacks (TypeClash c.args.at)) _ _ is_fault (sym (ap (on_votes c.args.at (λ t. bool)) (none_of names c.args.votes.now ts ms c.in_default.ensures.cases)))

pub returns : goal.returns
returns c = λ names ts d ms.
    let at = c.args.at in
    let r = more_of names c.args.votes.now c.in-Some.others.now c.in-Some.first.now ts ms c.in-Some.ensures.cases.0 in
    verdict_is names _ _ c.if_so.result (c.if_so.ensures names bool (record { is = refl }))
    (ap (λ b. if_so b bool (TypeClash at)) (votes_are names d c.in-Some.first.now r.first r.means c.in-Some.others.now r.others r.mean c.both.result c.is_some-is_scalar.result c.are_all.result c.both.ensures (c.is_some-is_scalar.ensures ∙ ap is_some c.scalar_of.ensures) c.are_all.ensures)
    ∙ sym (ap (on_votes at (λ t. bool)) r.is))
