use Rattle.stream_types.proofs.TypeLists.{extent_is}
use Rattle.stream_types.proofs.types.Types.extent.Goals as goal

pub returns-in-Array-clause-words : goal.returns-in-Array-clause-words
returns-in-Array-clause-words c = (extent_is _ _ _ _ _ c.self.view_is c.self.invariant.0 c.index.ensures c.in-Array.is c.requires).words_is

pub returns-in-Array-clause-bytes : goal.returns-in-Array-clause-bytes
returns-in-Array-clause-bytes c = (extent_is _ _ _ _ _ c.self.view_is c.self.invariant.0 c.index.ensures c.in-Array.is c.requires).bytes_is

pub returns-in-Array-clause-most_words : goal.returns-in-Array-clause-most_words
returns-in-Array-clause-most_words c = (extent_is _ _ _ _ _ c.self.view_is c.self.invariant.0 c.index.ensures c.in-Array.is c.requires).most_words

pub returns-in-Array-clause-most_bytes : goal.returns-in-Array-clause-most_bytes
returns-in-Array-clause-most_bytes c = (extent_is _ _ _ _ _ c.self.view_is c.self.invariant.0 c.index.ensures c.in-Array.is c.requires).most_bytes
