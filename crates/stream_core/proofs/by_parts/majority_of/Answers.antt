use Rattle.std.proofs.Common.{min, ◌∙◌, ap}
use Rattle.stream_core.proofs.KnownSums.{majority_known}
use Rattle.stream_core.proofs.by_parts.majority_of.Goals as goal

pub returns : goal.returns
returns c = c.min.ensures ∙ ap (λ x. min x 262145) c.majority_weight.ensures ∙ majority_known c.args.spec.now c.args.votes.now 262145 c.known_at-first.result c.known_sum-all.result c.requires.some c.known_at-first.ensures c.known_sum-all.ensures
