use Rattle.stream_types.proofs.Widths.{found_within}
use Rattle.stream_types.proofs.types.Types.field.Goals as goal

pub returns-clause-stands : goal.returns-clause-stands
returns-clause-stands c = (found_within _ c.args.s _ _ _ _ _ c.in_ok-fields.ensures.list c.in_ok-fields.ensures.value c.in_ok-place.ensures.found c.extent_of.ensures.words).0

pub returns-clause-within : goal.returns-clause-within
returns-clause-within c = (found_within _ c.args.s _ _ _ _ _ c.in_ok-fields.ensures.list c.in_ok-fields.ensures.value c.in_ok-place.ensures.found c.extent_of.ensures.words).1
