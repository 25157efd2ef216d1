use Rattle.ring_codegen.proofs.OperatorTypes.{literal_has, unary_has, binary_has, shift_has, cast_has, and_has, or_has, implies_has, choice_has}
use Rattle.ring_codegen.proofs.operator_laws.operators_have_their_types.Goals as goal

pub returns-clause-literal : goal.returns-clause-literal
returns-clause-literal c = literal_has

pub returns-clause-unary : goal.returns-clause-unary
returns-clause-unary c = unary_has

pub returns-clause-binary : goal.returns-clause-binary
returns-clause-binary c = binary_has

pub returns-clause-shift : goal.returns-clause-shift
returns-clause-shift c = shift_has

pub returns-clause-cast : goal.returns-clause-cast
returns-clause-cast c = cast_has

pub returns-clause-both : goal.returns-clause-both
returns-clause-both c = and_has

pub returns-clause-either : goal.returns-clause-either
returns-clause-either c = or_has

pub returns-clause-implied : goal.returns-clause-implied
returns-clause-implied c = implies_has

pub returns-clause-choice : goal.returns-clause-choice
returns-clause-choice c = choice_has
