use Rattle.std.proofs.Common.{refl}
use Rattle.stream_lib.proofs.AddedParts.{is_child}
use Rattle.stream_lib.proofs.PlacedTrees.{makes_over}
use Rattle.stream_lib.proofs.builder.word_or.Goals as goal

pub returns-clause-made : goal.returns-clause-made
returns-clause-made c =
    let v = c.in_ok-word.ensures.made in
    let q = v.is in
    let r = v.grows.trees c.args.test c.requires.test in
    let t = v.grows.trees c.args.other c.requires.other in
    makes_over _ _ _ _ _ _ _ _ v c.in_ok-id.ensures.made (cc) (is_child _ _ 1 refl)
