use Rattle.std.proofs.Common.{refl}
use Rattle.stream_core.specs.Lower.{sign_term}
use Rattle.stream_lib.specs.Built.{tree_at}
use Rattle.stream_lib.proofs.AddedParts.{adds_first, adds_more, is_child}
use Rattle.stream_lib.proofs.PlacedTrees.{grows_then, makes_after, makes_as}
use Rattle.stream_lib.proofs.builder.sign.Goals as goal

pub returns-clause-made : goal.returns-clause-made
returns-clause-made c =
    let b = c.in_ok-above.ensures.made in
    let l = c.in_ok-lower.ensures.made in
    let m = c.in_ok-id.ensures.made in
    let p = b.is in
    let q = l.is in
    let e1 = b.grows.trees c.args.e c.requires in
    let b1 = l.grows.trees c.in_ok-above.above b.there in
    let f = sign_term c.args.s (tree_at c.args.spec.now c.args.e) in
    let a1 = adds_first _ _ f _ _ b (is_child _ _ 0 refl) in
    let a2 = adds_more _ _ _ f _ _ a1 l (is_child _ _ 2 (cc)) in
    makes_after _ _ _ _ f (grows_then _ _ _ b.grows l.grows) a2 (makes_as _ _ _ _ f (cc) m)
