use Rattle.stream_types.proofs.Ranges.{op2_answer}
use Rattle.stream_types.proofs.AnsweredWords.{op1_answer, shift_answer, cast_answer, abs_answer, sign_answer}
use Rattle.stream_types.proofs.laws.operators_answer_words.Goals as goal

pub returns-clause-op1 : goal.returns-clause-op1
returns-clause-op1 c = op1_answer

pub returns-clause-op2 : goal.returns-clause-op2
returns-clause-op2 c = op2_answer

pub returns-clause-shift : goal.returns-clause-shift
returns-clause-shift c = shift_answer

pub returns-clause-cast : goal.returns-clause-cast
returns-clause-cast c = cast_answer

pub returns-clause-abs : goal.returns-clause-abs
returns-clause-abs c = abs_answer

pub returns-clause-sign : goal.returns-clause-sign
returns-clause-sign c = sign_answer
