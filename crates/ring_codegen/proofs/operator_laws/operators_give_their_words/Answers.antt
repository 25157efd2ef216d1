use Rattle.ring_codegen.proofs.OperatorWords.{literal_gives, cast_gives, and_false, and_true, or_true, or_false, implies_false, implies_true, choice_true, choice_false}
use Rattle.ring_codegen.proofs.OperatorNumbers.{unary_gives, binary_gives, shift_gives}
use Rattle.ring_codegen.proofs.operator_laws.operators_give_their_words.Goals as goal

pub returns-clause-literal : goal.returns-clause-literal
returns-clause-literal c = literal_gives

pub returns-clause-unary : goal.returns-clause-unary
returns-clause-unary c = unary_gives

pub returns-clause-binary : goal.returns-clause-binary
returns-clause-binary c = binary_gives

pub returns-clause-shift : goal.returns-clause-shift
returns-clause-shift c = shift_gives

pub returns-clause-cast : goal.returns-clause-cast
returns-clause-cast c = cast_gives

pub returns-clause-and_false : goal.returns-clause-and_false
returns-clause-and_false c = and_false

pub returns-clause-and_true : goal.returns-clause-and_true
returns-clause-and_true c = and_true

pub returns-clause-or_true : goal.returns-clause-or_true
returns-clause-or_true c = or_true

pub returns-clause-or_false : goal.returns-clause-or_false
returns-clause-or_false c = or_false

pub returns-clause-implies_false : goal.returns-clause-implies_false
returns-clause-implies_false c = implies_false

pub returns-clause-implies_true : goal.returns-clause-implies_true
returns-clause-implies_true c = implies_true

pub returns-clause-choice_true : goal.returns-clause-choice_true
returns-clause-choice_true c = choice_true

pub returns-clause-choice_false : goal.returns-clause-choice_false
returns-clause-choice_false c = choice_false
