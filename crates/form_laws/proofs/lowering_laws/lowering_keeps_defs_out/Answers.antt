use Rattle.form_laws.proofs.OutOfSpecs.{commutes}
use Rattle.form_laws.proofs.lowering_laws.lowering_keeps_defs_out.Goals as goal

pub returns : goal.returns
returns c = commutes
