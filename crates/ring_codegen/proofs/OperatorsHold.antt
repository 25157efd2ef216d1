-- The laws of operators hold.
use Rattle.ring_codegen.proofs.OperatorPremises.{OperatorTypes, OperatorWords}
use Rattle.ring_codegen.proofs.OperatorTypes.{literal_has, unary_has, binary_has, shift_has, cast_has, and_has, or_has, implies_has, choice_has}
use Rattle.ring_codegen.proofs.OperatorWords.{literal_gives, cast_gives, and_false, and_true, or_true, or_false, implies_false, implies_true, choice_true, choice_false}
use Rattle.ring_codegen.proofs.OperatorNumbers.{unary_gives, binary_gives, shift_gives}

pub operator_types : OperatorTypes
operator_types = record {
  literal = literal_has;
  unary = unary_has;
  binary = binary_has;
  shift = shift_has;
  cast = cast_has;
  both = and_has;
  either = or_has;
  implied = implies_has;
  choice = choice_has;
}

pub operator_words : OperatorWords
operator_words = record {
  literal = literal_gives;
  unary = unary_gives;
  binary = binary_gives;
  shift = shift_gives;
  cast = cast_gives;
  and_false = and_false;
  and_true = and_true;
  or_true = or_true;
  or_false = or_false;
  implies_false = implies_false;
  implies_true = implies_true;
  choice_true = choice_true;
  choice_false = choice_false;
}
