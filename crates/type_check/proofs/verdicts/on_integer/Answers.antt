use Rattle.std.proofs.Common.{refl, sym, ◌∙◌}
use Rattle.type_check.specs.declared.fault.TypeFault.TheVariants.{TypeClash}
use Rattle.type_check.specs.Judged.{lacks, on_integer}
use Rattle.type_check.specs.Standing.{is_fault}
use Rattle.type_check.proofs.Reasons.{verdict_is, clash}
use Rattle.type_check.proofs.verdicts.on_integer.Goals as goal

pub returns-in_default : goal.returns-in_default
returns-in_default c = λ names t m. verdict_is names (lacks (TypeClash c.args.at)) _ _ is_fault (clash names (on_integer c.args.at) (TypeClash c.args.at) (λ x. refl) (λ u n. refl) c.args.a t m (sym c.scalar_of.ensures ∙ c.in_default.is))
