use Rattle.c99_tree.proofs.WordsAgain.{filled_words}
use Rattle.c99_tree.proofs.typed_laws.words_read_are_those_of_value.Goals as goal

pub returns : goal.returns
returns c = filled_words
