use Rattle.std.proofs.Common.{◌+◌, refl, arith}
use Rattle.stream_core.specs.Term.{and, or}
use Rattle.stream_core.specs.Lower.{ago}
use Rattle.stream_core.specs.PartOf.{within}
use Rattle.stream_lib.specs.Built.{tree_at}
use Rattle.stream_lib.proofs.AddedParts.{adds_first, adds_more, is_child}
use Rattle.stream_lib.proofs.PlacedTrees.{grows_then, makes_after, makes_as, makes_over}
use Rattle.stream_lib.proofs.Distances.{step_far, step_near}
use Rattle.stream_lib.proofs.bounded.since_step.Goals as goal

pub returns-then-low-more-clause-made : goal.returns-then-low-more-clause-made
returns-then-low-more-clause-made c =
    let h = c.in_ok-held.ensures.made in
    let p = h.is in
    let r = h.grows.trees c.args.rest c.requires.rest in
    makes_as _ _ _ _ _ (step_near c.args.low c.args.p c.args.q c.args.m (1 + c.args.more) (tree_at c.args.spec.now c.args.rest) (omega (arith, c.if-low-more.true)))
    (makes_over _ _ _ _ _ _ _ (and (ago c.args.p c.args.m (1 + c.args.more)) (tree_at c.args.spec.now c.args.rest)) h c.in_ok-lasts.ensures.made (cc) (is_child _ _ 0 refl))

pub returns-clause-made : goal.returns-clause-made
returns-clause-made c =
    let h = c.in_ok-held.ensures.made in
    let l = c.in_ok-lasts.ensures.made in
    let b = c.in_ok-begins.ensures.made in
    let m = c.in_ok-id.ensures.made in
    let p = h.is in
    let q = l.is in
    let u = b.is in
    let r = h.grows.trees c.args.rest c.requires.rest in
    let v = b.grows.trees c.in_ok-lasts.lasts l.there in
    let hl = grows_then _ _ _ h.grows l.grows in
    let f = or (ago c.args.q c.args.m (1 + c.args.more)) (and (ago c.args.p c.args.m (1 + c.args.more)) (tree_at c.args.spec.now c.args.rest)) in
    let a1 = adds_first _ _ f _ _ h (within 1 refl (is_child _ _ 0 refl)) in
    let a2 = adds_more _ _ _ f _ _ a1 l (is_child _ _ 1 (cc)) in
    let a3 = adds_more _ _ _ f _ _ a2 b (is_child _ _ 0 refl) in
    makes_as _ _ _ _ _ (step_far c.args.low c.args.p c.args.q c.args.m (1 + c.args.more) (tree_at c.args.spec.now c.args.rest) (omega (arith, c.if-low-more.false)))
    (makes_after _ _ _ _ f (grows_then _ _ _ hl b.grows) a3 (makes_as _ _ _ _ f (cc) m))
