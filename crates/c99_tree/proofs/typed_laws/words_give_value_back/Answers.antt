use Rattle.c99_tree.proofs.WordsBack.{words_back}
use Rattle.c99_tree.proofs.typed_laws.words_give_value_back.Goals as goal

pub returns : goal.returns
returns c = words_back
