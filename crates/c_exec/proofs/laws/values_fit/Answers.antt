use Rattle.c_exec.proofs.ExpressionsGo.{wide_fits}
use Rattle.c_exec.proofs.laws.values_fit.Goals as goal

pub returns : goal.returns
returns c = wide_fits
