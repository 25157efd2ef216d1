use Rattle.stream_core.specs.Meaning.{closed_spec}
use Rattle.stream_core.proofs.Tables.{meets}
use Rattle.stream_core.proofs.Reach.{bounded}
use Rattle.stream_core.proofs.laws.tables_meet_the_equations.Goals as goal

pub returns-clause-typed : goal.returns-clause-typed
returns-clause-typed c = λ s h n lists w is. meets (closed_spec s) h n lists (bounded s w) is

pub returns-clause-bounded : goal.returns-clause-bounded
returns-clause-bounded c = λ s h n lists b is. meets (closed_spec s) h n lists b is
