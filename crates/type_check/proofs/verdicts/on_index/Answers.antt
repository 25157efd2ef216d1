use Rattle.std.proofs.Common.{refl, subst}
use Rattle.type_check.specs.declared.fault.TypeFault.TheVariants.{TypeClash}
use Rattle.type_check.specs.Judged.{lacks, on_index}
use Rattle.type_check.specs.Standing.{is_fault, Means}
use Rattle.type_check.proofs.Reasons.{verdict_is, clash_element}
use Rattle.type_check.proofs.verdicts.on_index.Goals as goal

pub returns-in-Element : goal.returns-in-Element
returns-in-Element c = λ names t u d m n.
    verdict_is names (lacks (TypeClash c.args.at)) _ _ is_fault (clash_element names (λ v. on_index c.args.at v u) (TypeClash c.args.at) (λ s. refl) (λ x. refl) c.in-Element.field-0 t (subst (λ k. Means names k t) c.in-Element.is m))
