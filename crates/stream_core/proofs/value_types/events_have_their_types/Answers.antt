use Rattle.std.proofs.Common.{subst, sym}
use Rattle.std.specs.List.{AllByRecursion}
use Rattle.stream_core.specs.Eval.{Event}
use Rattle.stream_core.specs.EventWords.{AreWordsOf}
use Rattle.stream_core.specs.Meaning.{closed_spec, table}
use Rattle.stream_core.proofs.Roots.{acyclic}
use Rattle.stream_core.proofs.PartsOfSteps.{bind_apart, events_apart}
use Rattle.stream_core.proofs.TypedEvents.{event_words}
use Rattle.stream_core.proofs.value_types.events_have_their_types.Goals as goal

pub returns : goal.returns
returns c = λ s h t events w none history b e.
    let step = bind_apart _ _ events e in
    let before = bind_apart (table s h t) _ step.0 step.1 in
    let found = events_apart (closed_spec s) h t before.0 before.1 events e in
    subst (AllByRecursion (λ (f : Event). AreWordsOf s f.who f.words)) (sym found.2) (event_words s w (acyclic s w none) h history t before.0 before.1 b found.0 found.1)
