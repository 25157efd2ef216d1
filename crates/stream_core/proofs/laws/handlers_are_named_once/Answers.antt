use Rattle.stream_core.specs.Meaning.{closed_spec}
use Rattle.stream_core.proofs.Handled.{handlers_once, handler_named, handler_from, handlers_in_order}
use Rattle.stream_core.proofs.laws.handlers_are_named_once.Goals as goal

pub returns-clause-once : goal.returns-clause-once
returns-clause-once c = λ s i j name e f. handlers_once (closed_spec s) i j name e f

pub returns-clause-named : goal.returns-clause-named
returns-clause-named c = λ s i x e. handler_named (closed_spec s) i x e

pub returns-clause-only : goal.returns-clause-only
returns-clause-only c = λ s i name e. let x = handler_from (closed_spec s) i name e in (x.place, x.item, x.is, x.named)

pub returns-clause-ordered : goal.returns-clause-ordered
returns-clause-ordered c = λ front back. handlers_in_order front back
