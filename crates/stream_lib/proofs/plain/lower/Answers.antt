use Rattle.std.proofs.Common.{ap, ◌∙◌}
use Rattle.stream_core.specs.Value.{SpecValue}
use Rattle.stream_core.specs.Term.{trees}
use Rattle.stream_core.specs.Lower.{lowered_spec}
use Rattle.stream_lib.proofs.SoundPlain.{sound_plain}
use Rattle.stream_lib.proofs.FewItems.{sound_small, typed_forms}
use Rattle.stream_lib.proofs.TypedNumbers.{numbers_in}
use Rattle.stream_lib.proofs.plain.lower.Goals as goal

pub lowered-requires-clause-numbers : goal.lowered-requires-clause-numbers
lowered-requires-clause-numbers c = numbers_in c.spec.result.now c.spec.ensures.typed

pub lowered-requires-clause-few : goal.lowered-requires-clause-few
lowered-requires-clause-few c = sound_small c.spec.result.now c.spec.ensures.typed c.spec.ensures.sound

pub lowered-requires-clause-forms : goal.lowered-requires-clause-forms
lowered-requires-clause-forms c = typed_forms c.spec.result.now c.spec.ensures.typed

pub of-requires : goal.of-requires
of-requires c = sound_plain c.spec.result.now c.in_ok-spec.spec c.spec.ensures.typed c.spec.ensures.sound c.in_ok-spec.ensures.trees c.in_ok-spec.ensures.list c.in_ok-spec.ensures.parts

pub returns : goal.returns
returns c = ap trees c.of.ensures ∙ c.in_ok-spec.ensures.trees ∙ ap (λ (s : SpecValue). lowered_spec (trees s)) c.spec.ensures.spec
