use Rattle.ring_codegen.proofs.NamedOnce.{looks_up}
use Rattle.ring_codegen.proofs.ValuesGiven.{gives}
use Rattle.ring_codegen.proofs.OperatorsHold.{operator_types, operator_words}
use Rattle.ring_codegen.proofs.expression_laws.expressions_give_their_values.Goals as goal

pub returns : goal.returns
returns c = λ spec u m s e t ws good is now stand plain written typed value.
    gives spec u m s operator_types operator_words good.types (looks_up spec u good is) now stand e t ws typed plain written value
