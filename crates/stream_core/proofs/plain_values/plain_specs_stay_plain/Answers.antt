use Rattle.stream_core.proofs.PlainDefs.{plain_stays}
use Rattle.stream_core.proofs.plain_values.plain_specs_stay_plain.Goals as goal

pub returns : goal.returns
returns c = plain_stays
