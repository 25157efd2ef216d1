use Rattle.std.proofs.Common.{◌-◌, refl}
use Rattle.stream_types.specs.declared.scalar.Op2.TheVariants as op2
use Rattle.stream_types.specs.declared.scalar.Scalar.TheVariants as scalar
use Rattle.stream_core.specs.Term.{bin, choose, lit, stream}
use Rattle.stream_lib.proofs.AddedParts.{adds_first, adds_more, is_child}
use Rattle.stream_lib.proofs.PlacedTrees.{grows_then, makes_after, makes_as}
use Rattle.stream_lib.proofs.forms.tick.Goals as goal

pub returns-clause-made : goal.returns-clause-made
returns-clause-made c =
    let l = c.in_ok-last.ensures.made in
    let z = c.in_ok-zero.ensures.made in
    let n = c.in_ok-next.ensures.made in
    let p = l.is in
    let q = z.is in
    let r = n.is in
    let w = c.saturating_sub.ensures in
    let zn = grows_then _ _ _ z.grows n.grows in
    let l3 = zn.trees c.in_ok-last.last l.there in
    let z3 = n.grows.trees c.in_ok-zero.zero z.there in
    let f =
    choose (bin op2.Eq scalar.Word32 (stream c.args.b) (lit scalar.Word32 (c.args.period - 1))) (lit scalar.Word32 0) (bin op2.Add scalar.Word32 (stream c.args.b) (lit scalar.Word32 1)) in
    let a1 = adds_first _ _ f _ _ l (is_child _ _ 0 (cc)) in
    let a2 = adds_more _ _ _ f _ _ a1 z (is_child _ _ 1 refl) in
    let a3 = adds_more _ _ _ f _ _ a2 n (is_child _ _ 2 refl) in
    makes_after _ _ _ _ f (grows_then _ _ _ l.grows zn) a3 (makes_as _ _ _ _ f (cc) c.in_ok-id.ensures.made)
