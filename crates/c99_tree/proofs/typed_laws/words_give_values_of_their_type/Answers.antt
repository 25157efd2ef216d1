use Rattle.c99_tree.proofs.WordsBack.{filled_typed}
use Rattle.c99_tree.proofs.typed_laws.words_give_values_of_their_type.Goals as goal

pub returns : goal.returns
returns c = filled_typed
