use Rattle.std.proofs.Common.{min, ◌∙◌, ap}
use Rattle.stream_core.proofs.KnownSums.{agreed_known}
use Rattle.stream_core.proofs.by_parts.agreed_of.Goals as goal

pub returns : goal.returns
returns c = c.min.ensures ∙ ap (λ x. min x 262145) c.agreed_weight.ensures ∙ agreed_known c.args.spec.now c.args.votes.now 262145 c.known_sum-all.result c.requires.some c.known_sum-all.ensures
