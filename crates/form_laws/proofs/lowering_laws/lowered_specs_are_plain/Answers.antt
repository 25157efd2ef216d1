use Rattle.stream_core.specs.Lower.{lowered_spec}
use Rattle.stream_core.proofs.PlainDefs.{plain_stays}
use Rattle.form_laws.proofs.PlainForms.{spec_plain, spec_still}
use Rattle.form_laws.proofs.lowering_laws.lowered_specs_are_plain.Goals as goal

pub returns-clause-plain : goal.returns-clause-plain
returns-clause-plain c = spec_plain

pub returns-clause-with_defs_out : goal.returns-clause-with_defs_out
returns-clause-with_defs_out c = λ s. plain_stays (lowered_spec s) (spec_plain s)

pub returns-clause-stays : goal.returns-clause-stays
returns-clause-stays c = spec_still
