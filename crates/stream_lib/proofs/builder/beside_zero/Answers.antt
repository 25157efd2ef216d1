use Rattle.std.proofs.Common.{refl}
use Rattle.stream_lib.proofs.AddedParts.{is_child}
use Rattle.stream_lib.proofs.PlacedTrees.{makes_over}
use Rattle.stream_lib.proofs.builder.beside_zero.Goals as goal

pub returns-clause-made : goal.returns-clause-made
returns-clause-made c =
    let z = c.in_ok-zero.ensures.made in
    let q = z.is in
    let r = z.grows.trees c.args.e c.requires in
    makes_over _ _ _ _ _ _ _ _ z c.in_ok-id.ensures.made (cc) (is_child _ _ 1 refl)
