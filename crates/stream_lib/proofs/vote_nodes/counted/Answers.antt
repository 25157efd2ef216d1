use Rattle.std.proofs.Common.{refl}
use Rattle.stream_lib.proofs.AddedParts.{is_child}
use Rattle.stream_lib.proofs.PlacedTrees.{makes_over}
use Rattle.stream_lib.proofs.vote_nodes.counted.Goals as goal

pub returns-clause-made : goal.returns-clause-made
returns-clause-made c =
    let v = c.in_ok-vote.ensures.made in
    let p = v.is in
    let s1 = v.grows.trees c.args.sum c.requires.sum in
    makes_over _ _ _ _ _ _ _ _ v c.in_ok-id.ensures.made (cc) (is_child _ _ 1 refl)
