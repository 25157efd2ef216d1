use Rattle.std.proofs.Common.{refl}
use Rattle.stream_lib.proofs.AddedParts.{is_child}
use Rattle.stream_lib.proofs.PlacedTrees.{makes_over}
use Rattle.stream_lib.proofs.forms.yesterday.Goals as goal

pub returns-clause-made : goal.returns-clause-made
returns-clause-made c =
    let n = c.in_ok-now.ensures.made in
    let p = n.is in
    makes_over _ _ _ _ _ _ _ _ n c.in_ok-id.ensures.made (cc) (is_child _ _ 0 refl)
