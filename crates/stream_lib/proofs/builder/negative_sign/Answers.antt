use Rattle.std.proofs.Common.{refl}
use Rattle.std.specs.Prelude.{negsuc}
use Rattle.stream_types.specs.declared.scalar.Op2.TheVariants as op2
use Rattle.stream_types.specs.Numbers.{word}
use Rattle.stream_core.specs.Term.{bin, choose, lit}
use Rattle.stream_lib.specs.Built.{tree_at}
use Rattle.stream_lib.proofs.AddedParts.{adds_first, adds_more, is_child}
use Rattle.stream_lib.proofs.PlacedTrees.{grows_then, makes_after, makes_as}
use Rattle.stream_lib.proofs.builder.negative_sign.Goals as goal

pub returns-clause-made : goal.returns-clause-made
returns-clause-made c =
    let b = c.in_ok-below.ensures.made in
    let z = c.in_ok-zero.ensures.made in
    let m = c.in_ok-id.ensures.made in
    let p = b.is in
    let q = z.is in
    let b1 = z.grows.trees c.in_ok-below.below b.there in
    let f = choose (bin op2.Lt c.args.s (tree_at c.args.spec.now c.args.e) (lit c.args.s 0)) (lit c.args.s (word (negsuc 0))) (lit c.args.s 0) in
    let a1 = adds_first _ _ f _ _ b (is_child _ _ 0 refl) in
    let a2 = adds_more _ _ _ f _ _ a1 z (is_child _ _ 2 refl) in
    makes_after _ _ _ _ f (grows_then _ _ _ b.grows z.grows) a2 (makes_as _ _ _ _ f (cc) m)
