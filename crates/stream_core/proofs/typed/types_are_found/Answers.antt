use Rattle.stream_core.proofs.TypesOf.{of_type, of_types, type_is, types_are}
use Rattle.stream_core.proofs.typed.types_are_found.Goals as goal

pub returns-clause-one : goal.returns-clause-one
returns-clause-one c = λ sig e t. (type_is sig e t, of_type sig e t)

pub returns-clause-all : goal.returns-clause-all
returns-clause-all c = λ sig es ts. (types_are sig es ts, of_types sig es ts)
