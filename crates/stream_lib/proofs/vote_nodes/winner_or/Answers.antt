use Rattle.std.proofs.Common.{refl}
use Rattle.stream_lib.proofs.AddedParts.{is_child}
use Rattle.stream_lib.proofs.PlacedTrees.{makes_over}
use Rattle.stream_lib.proofs.vote_nodes.winner_or.Goals as goal

pub returns-clause-made : goal.returns-clause-made
returns-clause-made c =
    let w = c.in_ok-test.ensures.made in
    let p = w.is in
    let a1 = w.grows.trees c.args.a c.requires.a in
    let o1 = w.grows.trees c.args.other c.requires.other in
    makes_over _ _ _ _ _ _ _ _ w c.in_ok-id.ensures.made (cc) (is_child _ _ 0 refl)
