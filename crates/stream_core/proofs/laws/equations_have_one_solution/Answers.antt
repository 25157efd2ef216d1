use Rattle.stream_core.specs.Meaning.{closed_spec}
use Rattle.stream_core.proofs.Unique.{unique}
use Rattle.stream_core.proofs.Reach.{bounded}
use Rattle.stream_core.proofs.laws.equations_have_one_solution.Goals as goal

pub returns-clause-typed : goal.returns-clause-typed
returns-clause-typed c = λ s h n lists w clean meets. unique (closed_spec s) h n lists (bounded s w) meets clean

pub returns-clause-bounded : goal.returns-clause-bounded
returns-clause-bounded c = λ s h n lists b clean meets. unique (closed_spec s) h n lists b meets clean
