use Rattle.std.proofs.Common.{sym}
use Rattle.type_check.proofs.PlacelessTexts.{fault-without-places}
use Rattle.type_check.proofs.laws.faults_depend_on_no_place.Goals as goal

pub returns : goal.returns
returns c = λ s t e. (fault-without-places s t e, fault-without-places t s (sym e))
