use Rattle.stream_types.proofs.LeafParts.{element_words, member_words}
use Rattle.stream_types.proofs.laws.parts_are_words.Goals as goal

pub returns-clause-element : goal.returns-clause-element
returns-clause-element c = element_words

pub returns-clause-member : goal.returns-clause-member
returns-clause-member c = member_words
