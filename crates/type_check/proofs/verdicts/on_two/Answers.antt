use Rattle.std.proofs.Common.{◌≡◌, refl, sym, ap, ◌∙◌}
use Rattle.std.specs.Prelude.{◌&&◌}
use Rattle.stream_types.specs.Scalars.{op2_fits, op2_gives}
use Rattle.type_check.specs.declared.fault.TypeFault.TheVariants.{TypeClash}
use Rattle.type_check.specs.NamedType.{scalar, same_type}
use Rattle.type_check.specs.Judged.{lacks, if_so, on_two}
use Rattle.type_check.specs.Standing.{is_fault, Means}
use Rattle.std.specs.Prelude.{Some}
use Rattle.type_check.specs.declared.known.Known.TheVariants as known
use Rattle.type_check.specs.declared.known.Element.TheVariants as element
use Rattle.type_check.proofs.Meaning.{same_means}
use Rattle.type_check.proofs.Reasons.{verdict_is, is_scalar, clash}
use Rattle.type_check.proofs.verdicts.on_two.Goals as goal

pub returns-in_default : goal.returns-in_default
returns-in_default c = λ names t u d m n. verdict_is names (lacks (TypeClash c.args.at)) _ _ is_fault (clash names (λ v. on_two c.args.at c.args.op v u) (TypeClash c.args.at) (λ x. refl) (λ v k. refl) c.args.a t m (sym c.scalar_of.ensures ∙ c.in_default.is))

pub returns : goal.returns
returns c = λ names t u d m n.
    let s = c.in-Some.s in
    let at = c.args.at in
    let op = c.args.op in
    let e : t ≡ scalar s = is_scalar names c.args.a t s m (sym c.scalar_of.ensures ∙ c.in-Some.is) in
    let answer : Means names (known.Element (element.Scalar c.answer_of.result)) (scalar (op2_gives op s)) = record { is = ap (λ x. Some (scalar x)) c.answer_of.ensures } in
    let same : c.both.result ≡ (op2_fits op s && same_type (scalar s) u) =
    c.both.ensures ∙ ap (λ b. b && c.is_same.result) c.op2_applies.ensures ∙ ap (λ b. op2_fits op s && b) (c.is_same.ensures ∙ sym (same_means names d c.args.a c.args.b t u m n) ∙ ap (λ v. same_type v u) e) in
    verdict_is names _ _ c.if_so.result (c.if_so.ensures names (scalar (op2_gives op s)) answer)
    (ap (λ b. if_so b (scalar (op2_gives op s)) (TypeClash at)) same ∙ sym (ap (λ v. on_two at op v u) e))
