use Rattle.stream_core.proofs.Signatures.{by_items, grows_by_item, grows_by_types}
use Rattle.stream_core.proofs.typed.signatures_follow_items.Goals as goal

pub returns-clause-items : goal.returns-clause-items
returns-clause-items c = λ s. by_items s

pub returns-clause-added : goal.returns-clause-added
returns-clause-added c = λ s x. grows_by_item s x

pub returns-clause-types : goal.returns-clause-types
returns-clause-types c = λ s more stand. grows_by_types s more stand
