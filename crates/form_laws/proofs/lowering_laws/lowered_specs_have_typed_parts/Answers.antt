use Rattle.form_laws.proofs.LoweredParts.{trees_lowered, plain_parts, closed_lowered}
use Rattle.form_laws.proofs.lowering_laws.lowered_specs_have_typed_parts.Goals as goal

pub returns-clause-lowered : goal.returns-clause-lowered
returns-clause-lowered c = trees_lowered

pub returns-clause-with_defs_out : goal.returns-clause-with_defs_out
returns-clause-with_defs_out c = λ s w. (plain_parts s w, closed_lowered s w)
