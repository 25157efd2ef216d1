use Rattle.std.proofs.Common.{refl}
use Rattle.stream_types.specs.declared.scalar.Op2.TheVariants as op2
use Rattle.stream_types.specs.declared.scalar.Scalar.TheVariants as scalar
use Rattle.stream_core.specs.Term.{bin, lit, stream}
use Rattle.stream_lib.proofs.AddedParts.{adds_first, adds_more, is_child}
use Rattle.stream_lib.proofs.PlacedTrees.{grows_then, makes_after, makes_as}
use Rattle.stream_lib.proofs.forms.clock.Goals as goal

pub returns-clause-made : goal.returns-clause-made
returns-clause-made c =
    let n = c.in_ok-count.ensures.made in
    let a = c.in_ok-at.ensures.made in
    let m = c.in_ok-id.ensures.made in
    let p = n.is in
    let q = a.is in
    let n2 = a.grows.trees c.in_ok-count.count n.there in
    let w = c.from.ensures in
    let f = bin op2.Eq scalar.Word32 (stream c.args.b) (lit scalar.Word32 c.args.phase) in
    let a1 = adds_first _ _ f _ _ n (is_child _ _ 0 refl) in
    let a2 = adds_more _ _ _ f _ _ a1 a (is_child _ _ 1 (cc)) in
    makes_after _ _ _ _ f (grows_then _ _ _ n.grows a.grows) a2 (makes_as _ _ _ _ f (cc) m)
