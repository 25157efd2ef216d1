use Rattle.stream_core.proofs.Extended.{type_stays}
use Rattle.stream_core.proofs.typed.types_stay_as_declarations_are_added.Goals as goal

pub returns : goal.returns
returns c = λ old new e t grown h. type_stays old new grown e t h
