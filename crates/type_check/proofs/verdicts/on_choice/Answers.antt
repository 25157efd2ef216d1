use Rattle.std.proofs.Common.{◌≡◌, refl, sym, ap, ◌∙◌}
use Rattle.std.specs.Prelude.{◌&&◌}
use Rattle.type_check.specs.declared.fault.TypeFault.TheVariants.{TypeClash}
use Rattle.type_check.specs.NamedType.{same_type, bool}
use Rattle.type_check.specs.Judged.{if_so, is_bool}
use Rattle.stream_types.specs.declared.scalar.Scalar.TheVariants as s_
use Rattle.type_check.specs.declared.known.Known.TheVariants as known
use Rattle.type_check.specs.declared.known.Element.TheVariants as element
use Rattle.type_check.proofs.Meaning.{same_means}
use Rattle.type_check.proofs.Reasons.{verdict_is}
use Rattle.type_check.proofs.verdicts.on_choice.Goals as goal

pub returns : goal.returns
returns c = λ names s t u d l m n.
    let at = c.args.at in
    let same : c.both.result ≡ (is_bool s && same_type t u) =
    c.both.ensures ∙ ap (λ b. b && c.is_same-2.result) (c.is_same.ensures ∙ sym (same_means names d c.args.c (known.Element (element.Scalar s_.Bool)) s bool l (record { is = refl })))
    ∙ ap (λ b. is_bool s && b) (c.is_same-2.ensures ∙ sym (same_means names d c.args.a c.args.b t u m n)) in
    verdict_is names _ _ c.if_so.result (c.if_so.ensures names t m) (ap (λ b. if_so b t (TypeClash at)) same)
