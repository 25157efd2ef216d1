use Rattle.stream_core.specs.Term.{trees}
use Rattle.stream_core.proofs.Extended.{typed_parts, parts_stay}
use Rattle.stream_core.proofs.typed.well_typed_specs_have_typed_parts.Goals as goal

pub returns-clause-as_written : goal.returns-clause-as_written
returns-clause-as_written c = λ s w. typed_parts s w

pub returns-clause-with_defs_out : goal.returns-clause-with_defs_out
returns-clause-with_defs_out c = λ s w. parts_stay (trees s) (typed_parts s w)
