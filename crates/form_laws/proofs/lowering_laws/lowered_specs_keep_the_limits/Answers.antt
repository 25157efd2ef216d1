use Rattle.std.proofs.Common.{sym, ap, ◌∙◌, subst}
use Rattle.stream_core.specs.Term.{trees}
use Rattle.stream_core.specs.Limits.{storage_of_plain, weight_of_plain}
use Rattle.stream_core.specs.Lower.{lowered_spec}
use Rattle.stream_core.specs.KeptLimits.{KeepsLimits}
use Rattle.stream_core.proofs.Limited.{within}
use Rattle.form_laws.proofs.OutOfSpecs.{commutes}
use Rattle.form_laws.proofs.KeptDeclarations.{storage_stays}
use Rattle.form_laws.proofs.lowering_laws.lowered_specs_keep_the_limits.Goals as goal

pub returns-clause-limits : goal.returns-clause-limits
returns-clause-limits c = λ s none. subst KeepsLimits (sym (commutes (trees s))) (within (trees s) none.1).1

pub returns-clause-weight : goal.returns-clause-weight
returns-clause-weight c = λ s. ap weight_of_plain (commutes (trees s))

pub returns-clause-storage : goal.returns-clause-storage
returns-clause-storage c = λ s. ap storage_of_plain (commutes (trees s)) ∙ storage_stays (lowered_spec (trees s))
