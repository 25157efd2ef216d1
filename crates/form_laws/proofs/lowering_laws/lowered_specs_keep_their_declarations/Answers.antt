use Rattle.std.specs.Prelude.{length}
use Rattle.stream_core.specs.Term.{trees}
use Rattle.stream_core.proofs.Extended.{typed_parts}
use Rattle.form_laws.specs.Kept.{lowered_in}
use Rattle.form_laws.proofs.OutOfSpecs.{map_length}
use Rattle.form_laws.proofs.BufferStreams.{buffer_at, buffers_end}
use Rattle.form_laws.proofs.LoweredParts.{many}
use Rattle.form_laws.proofs.KeptDeclarations.{declarations_kept}
use Rattle.form_laws.proofs.lowering_laws.lowered_specs_keep_their_declarations.Goals as goal

pub returns-clause-declared : goal.returns-clause-declared
returns-clause-declared c = declarations_kept

pub returns-clause-buffered : goal.returns-clause-buffered
returns-clause-buffered c = λ s k j x w e less. buffer_at (lowered_in (trees s)) _ 1 (length (trees s).streams) (trees s).libs (many (trees s) (typed_parts s w)) (map_length _ (trees s).streams) k j x e less

pub returns-clause-counted : goal.returns-clause-counted
returns-clause-counted c = λ s w. buffers_end (lowered_in (trees s)) _ 1 (length (trees s).streams) (trees s).libs (many (trees s) (typed_parts s w)) (map_length _ (trees s).streams)
