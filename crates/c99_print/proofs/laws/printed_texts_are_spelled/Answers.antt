use Rattle.c99_print.proofs.Spelled.{spelled}
use Rattle.c99_print.proofs.laws.printed_texts_are_spelled.Goals as goal

pub returns : goal.returns
returns c = spelled
