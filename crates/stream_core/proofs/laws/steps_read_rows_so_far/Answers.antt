use Rattle.stream_core.specs.Meaning.{closed_spec}
use Rattle.stream_core.proofs.Tables.{same_so_far}
use Rattle.stream_core.proofs.laws.steps_read_rows_so_far.Goals as goal

pub returns : goal.returns
returns c = λ s h g t e. same_so_far (closed_spec s) h g t e
