use Rattle.std.proofs.Common.{false, map, ap, ◌∙◌}
use Rattle.stream_core.specs.Lower.{agreed_term, wins}
use Rattle.stream_lib.specs.Built.{joined, trees_at}
use Rattle.stream_lib.proofs.AddedParts.{adds_all_within, adds_as, joined_part}
use Rattle.stream_lib.proofs.PlacedTrees.{makes_after, makes_as}
use Rattle.stream_lib.proofs.Nested.{agreed_is}
use Rattle.stream_lib.proofs.vote_nodes.agreed.Goals as goal

pub returns-clause-made : goal.returns-clause-made
returns-clause-made c =
    let all = c.in_ok-tests.ensures.made in
    let m = c.in_ok-id.ensures.made in
    let r = ap (λ is. joined false (trees_at c.all_wins.new.spec is)) c.as_slice.ensures.value ∙ ap (joined false) all.are ∙ agreed_is c.args.s (trees_at c.args.spec.now c.args.votes.now) in
    let votes = trees_at c.args.spec.now c.args.votes.now in
    let es = map (wins c.args.s votes) votes in
    let parts = adds_as _ _ (joined false es) (agreed_term c.args.s votes) (agreed_is c.args.s votes) (adds_all_within _ _ es (joined false es) all.adds (joined_part false es)) in
    makes_after _ _ _ _ _ all.grows parts (makes_as _ _ _ _ _ r m)
