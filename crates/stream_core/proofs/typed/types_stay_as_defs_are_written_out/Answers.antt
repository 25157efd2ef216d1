use Rattle.stream_core.proofs.Extended.{signature_stays, out_has}
use Rattle.stream_core.proofs.typed.types_stay_as_defs_are_written_out.Goals as goal

pub returns-clause-signature : goal.returns-clause-signature
returns-clause-signature c = λ s. signature_stays s

pub returns-clause-types : goal.returns-clause-types
returns-clause-types c = λ s e t good h. out_has s good e t h
