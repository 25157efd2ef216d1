use Rattle.stream_types.proofs.LeafWords.{length-leaves, size-leaves, length-words}
use Rattle.stream_types.proofs.laws.values_have_a_word_for_each_leaf.Goals as goal

pub returns-clause-words : goal.returns-clause-words
returns-clause-words c = length-leaves

pub returns-clause-bytes : goal.returns-clause-bytes
returns-clause-bytes c = size-leaves

pub returns-clause-row : goal.returns-clause-row
returns-clause-row c = length-words
