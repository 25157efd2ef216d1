use Rattle.ring_codegen.proofs.OperatorsHold.{operator_types, operator_words}
use Rattle.ring_codegen.proofs.PlainPrograms.{makes_same_calls}
use Rattle.ring_codegen.proofs.run_laws.translations_make_the_calls.Goals as goal

pub returns : goal.returns
returns c = λ s name typed none plain. makes_same_calls s typed plain none name operator_types operator_words
