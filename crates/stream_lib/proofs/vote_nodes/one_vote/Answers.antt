use Rattle.std.proofs.Common.{refl}
use Rattle.stream_core.specs.Lower.{one_vote}
use Rattle.stream_lib.specs.Built.{tree_at}
use Rattle.stream_lib.proofs.AddedParts.{adds_first, adds_more, is_child}
use Rattle.stream_lib.proofs.PlacedTrees.{grows_then, makes_after, makes_as}
use Rattle.stream_lib.proofs.vote_nodes.one_vote.Goals as goal

pub returns-clause-made : goal.returns-clause-made
returns-clause-made c =
    let a = c.in_ok-same.ensures.made in
    let o = c.in_ok-one.ensures.made in
    let z = c.in_ok-zero.ensures.made in
    let m = c.in_ok-id.ensures.made in
    let oz = grows_then _ _ _ o.grows z.grows in
    let p = a.is in
    let q = o.is in
    let r = z.is in
    let s2 = oz.trees c.in_ok-same.same a.there in
    let o1 = z.grows.trees c.in_ok-one.one o.there in
    let f = one_vote c.args.s (tree_at c.args.spec.now c.args.a) (tree_at c.args.spec.now c.args.b) in
    let a1 = adds_first _ _ f _ _ a (is_child _ _ 0 refl) in
    let a2 = adds_more _ _ _ f _ _ a1 o (is_child _ _ 1 refl) in
    let a3 = adds_more _ _ _ f _ _ a2 z (is_child _ _ 2 refl) in
    makes_after _ _ _ _ f (grows_then _ _ _ a.grows oz) a3 (makes_as _ _ _ _ f (cc) m)
