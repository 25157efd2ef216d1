use Rattle.std.proofs.Common.{sym, ap}
use Rattle.type_check.specs.declared.fault.TypeFault.TheVariants.{TypeClash}
use Rattle.type_check.specs.Judged.{has, lacks, if_so}
use Rattle.type_check.specs.Standing.{is_type, is_fault}
use Rattle.type_check.proofs.Reasons.{verdict_is}
use Rattle.type_check.proofs.known.if_so.Goals as goal

pub returns-then-fits : goal.returns-then-fits
returns-then-fits c = λ names t m. verdict_is names (has t) _ _ (is_type m) (sym (ap (λ b. if_so b t (TypeClash c.args.at)) c.if-fits.true))

pub returns-else-fits : goal.returns-else-fits
returns-else-fits c = λ names t m. verdict_is names (lacks (TypeClash c.args.at)) _ _ is_fault (sym (ap (λ b. if_so b t (TypeClash c.args.at)) c.if-fits.false))
