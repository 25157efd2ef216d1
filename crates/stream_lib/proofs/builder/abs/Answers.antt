use Rattle.std.proofs.Common.{refl, arith}
use Rattle.stream_core.specs.Lower.{abs_term}
use Rattle.stream_core.specs.PartOf.{within}
use Rattle.stream_lib.specs.Built.{tree_at}
use Rattle.stream_lib.proofs.AddedParts.{adds_first, adds_more, is_child}
use Rattle.stream_lib.proofs.PlacedTrees.{grows_then, makes_after, makes_as}
use Rattle.stream_lib.proofs.builder.abs.Goals as goal

pub returns-clause-made : goal.returns-clause-made
returns-clause-made c =
    let b = c.in_ok-below.ensures.made in
    let z = c.in_ok-zero.ensures.made in
    let n = c.in_ok-negated.ensures.made in
    let m = c.in_ok-id.ensures.made in
    let bz = grows_then _ _ _ b.grows z.grows in
    let bzn = grows_then _ _ _ bz n.grows in
    let p = b.is in
    let q = z.is in
    let r = n.is in
    let e0 = bz.trees c.args.e c.requires in
    let e1 = bzn.trees c.args.e c.requires in
    let b1 = z.grows.trees c.in_ok-below.below b.there in
    let b2 = n.grows.trees c.in_ok-below.below (let s = z.grows.size in let h = b.there in omega (arith, s, h)) in
    let f = abs_term c.args.s (tree_at c.args.spec.now c.args.e) in
    let a1 = adds_first _ _ f _ _ b (is_child _ _ 0 refl) in
    let a2 = adds_more _ _ _ f _ _ a1 z (within 1 refl (is_child _ _ 0 refl)) in
    let a3 = adds_more _ _ _ f _ _ a2 n (is_child _ _ 1 (cc)) in
    makes_after _ _ _ _ f bzn a3 (makes_as _ _ _ _ f (cc) m)
