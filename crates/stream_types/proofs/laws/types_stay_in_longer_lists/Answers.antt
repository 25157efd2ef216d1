use Rattle.stream_types.proofs.LeafEntries.{leaves-append}
use Rattle.stream_types.proofs.Widths.{words-append, size-append}
use Rattle.stream_types.proofs.laws.types_stay_in_longer_lists.Goals as goal

pub returns-clause-leaves : goal.returns-clause-leaves
returns-clause-leaves c = leaves-append

pub returns-clause-words : goal.returns-clause-words
returns-clause-words c = words-append

pub returns-clause-size : goal.returns-clause-size
returns-clause-size c = size-append
