use Rattle.std.proofs.Common.{ap, ◌∙◌}
use Rattle.stream_core.specs.Lower.{lowered_spec}
use Rattle.demo.proofs.run.demonstrate.Goals as goal

pub weigh-requires : goal.weigh-requires
weigh-requires c = c.in_ok-plain.ensures ∙ ap lowered_spec c.in_ok-sound.ensures

pub count-requires-clause-plain : goal.count-requires-clause-plain
count-requires-clause-plain c = c.in_ok-plain.ensures ∙ ap lowered_spec c.in_ok-sound.ensures
