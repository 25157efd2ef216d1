use Rattle.stream_types.proofs.PlacedArrays.{places_noted, places_same}
use Rattle.stream_types.proofs.types.note_place.Goals as goal

pub returns-in_ok-insert-clause-ok : goal.returns-in_ok-insert-clause-ok
returns-in_ok-insert-clause-ok c = λ types h new at. places_noted _ _ types _ _ c.args.place c.in-Array.is h new at (λ q. c.in_ok-insert.ensures.updates.0 q)

pub returns-in_default-clause-ok : goal.returns-in_default-clause-ok
returns-in_default-clause-ok c = λ types h new at. places_same _ types _ c.in_default.not-Array h
